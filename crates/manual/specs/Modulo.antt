-- Equality up to multiples of a modulus M, by its witnesses: a law of sums and differences is then one equation without `%`,
-- which omega proves. Assumes nothing.
use Rattle.std.specs.Prelude.{◌≡◌, ℕ, ◌+◌, ◌-◌, ◌*◌, ◌/◌, ◌%◌, ◌^◌, ◌≤◌}
use Rattle.std.proofs.Common.{ap, sym, ◌∙◌, div-add-mod', arith, pow-add}
use Rattle.std.proofs.Math.Path.{subst⁻¹}
use Rattle.std.proofs.Math.Nat.{add-mul-mod_self_right}

-- x and y are equal up to multiples of M: how many added to each make them equal
pub record Congruent (M x y : ℕ) : Type 0 where
  pub left : ℕ
  pub right : ℕ
  pub equal : x + left * M ≡ y + right * M

module _ (M : ℕ) where
  pub same_remainder : {x y : ℕ} → Congruent M x y → x % M ≡ y % M
  same_remainder {x} {y} p =
      sym (add-mul-mod_self_right x p.left M) ∙ ap (λ (n : ℕ). n % M) p.equal ∙ add-mul-mod_self_right y p.right M

  pub chained : {x y z : ℕ} → Congruent M x y → Congruent M y z → Congruent M x z
  chained p q = record { left = p.left + q.left; right = p.right + q.right; equal = omega (arith, p.equal, q.equal) }

  pub remainder : (x : ℕ) → Congruent M (x % M) x
  remainder x = record { left = x / M; right = 0; equal = omega (arith, div-add-mod' x M) }

  -- a difference, taken as x + (M - y)
  pub difference : (x y : ℕ) → y ≤ M → Congruent M ((x + (M - y)) % M + y) x
  difference x y h = let p = remainder (x + (M - y)) in record { left = p.left; right = p.right + 1; equal = omega arith }

  -- what holds modulo a multiple of M holds modulo M
  pub divided : (c : ℕ) {x y : ℕ} → Congruent (c * M) x y → Congruent M x y
  divided c p = record { left = p.left * c; right = p.right * c; equal = omega (arith, p.equal) }

-- a power of two as a multiple of a smaller one
pub divides : {w W : ℕ} → w ≤ W → 2 ^ (W - w) * 2 ^ w ≡ 2 ^ W
divides {w} {W} h = sym (pow-add 2 (W - w) w) ∙ ap (λ (n : ℕ). 2 ^ n) (omega arith)

-- what holds at W bits holds at fewer
pub narrowed : {w W : ℕ} → w ≤ W → {x y : ℕ} → Congruent (2 ^ W) x y → Congruent (2 ^ w) x y
narrowed {w} {W} h {x} {y} p = divided (2 ^ w) (2 ^ (W - w)) (subst⁻¹ (λ (n : ℕ). Congruent n x y) (divides h) p)
