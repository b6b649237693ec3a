-- An operation worked at 64 bits and cut to w is the operation at w bits: what a fold of constants leans on. Assumes nothing.
use Rattle.std.specs.Prelude.{◌≡◌, ℕ, ◌+◌, ◌-◌, ◌*◌, ◌%◌, ◌^◌, ◌≤◌, ◌<◌}
use Rattle.std.proofs.Common.{◌∙◌, ⊎_elim, mod-eq_of_lt, arith, pow_mono}
use Rattle.manual.specs.Operations.{int_add, int_sub, int_mult, int_2comp, int_sext}
use Rattle.manual.specs.Modulo.{Congruent, same_remainder, remainder, difference, divides, narrowed}
use Rattle.manual.specs.Halves.{below_or, int_sext_lower, int_sext_upper}

module _ (w : ℕ) (small : w ≤ 64) where
  -- a constant of w bits is one of 64
  pub wide : {a : ℕ} → a < 2 ^ w → a < 2 ^ 64
  wide h = omega (arith, pow_mono small)

  pub wide_difference : (a b : ℕ) → b < 2 ^ 64 → Congruent (2 ^ w) (int_sub 64 a b + b) a
  wide_difference a b h = narrowed small (difference (2 ^ 64) a b (omega arith))

  pub int_add_cut : (a b : ℕ) → int_add 64 a b % 2 ^ w ≡ int_add w a b
  int_add_cut a b = same_remainder (2 ^ w) (narrowed small (remainder (2 ^ 64) (a + b)))

  pub int_mult_cut : (a b : ℕ) → int_mult 64 a b % 2 ^ w ≡ int_mult w a b
  int_mult_cut a b = same_remainder (2 ^ w) (narrowed small (remainder (2 ^ 64) (a * b)))

  pub int_sub_cut : (a b : ℕ) → b < 2 ^ w → int_sub 64 a b % 2 ^ w ≡ int_sub w a b
  int_sub_cut a b h =
      let c = wide_difference a b (wide h) in
      same_remainder (2 ^ w) (record { left = c.left + 1; right = c.right; equal = omega (arith, c.equal) })

  pub int_2comp_cut : (a : ℕ) → a < 2 ^ w → int_2comp 64 a % 2 ^ w ≡ int_2comp w a
  int_2comp_cut a h = int_sub_cut 0 a h

  -- the low bits of -b
  pub negative_cut : (b : ℕ) → 0 < b → b ≤ 2 ^ w → (2 ^ 64 - b) % 2 ^ w ≡ 2 ^ w - b
  negative_cut b some h =
      same_remainder (2 ^ w) {y = 2 ^ w - b}
      (record { left = 1; right = 2 ^ (64 - w); equal = omega (arith, divides small, pow_mono small) })
      ∙ mod-eq_of_lt (omega arith)

  pub int_sext_cut : (v a : ℕ) → v ≤ w → a < 2 ^ v → int_sext v 64 a % 2 ^ w ≡ int_sext v w a
  int_sext_cut v a vw h =
      let m : 2 ^ v ≤ 2 ^ w = pow_mono vw in
      ⊎_elim
      (λ lower. rw (int_sext_lower v a lower 64, int_sext_lower v a lower w) (mod-eq_of_lt (omega arith)))
      (λ upper. rw (int_sext_upper v a upper 64, int_sext_upper v a upper w) (negative_cut (2 ^ v - a) (omega arith) (omega arith)))
      (below_or a (2 ^ (v - 1)))
