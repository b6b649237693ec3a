-- The operations that look at the sign, by the half that the operand lies in: the lower one, below 2 ^ (w - 1), or the upper one,
-- whose numbers read as negative. Assumes nothing.
-- The laws that rest on what an edit in must-fail/ changes are in proofs/Halves.antt.
use Rattle.std.specs.Prelude.{◌≡◌, refl, Bool, true, false, ◌⊎◌, ℕ, zero, suc, ◌+◌, ◌-◌, ◌*◌, ◌/◌, ◌%◌, ◌^◌, ◌≤◌, ◌<◌, ltb, pos, negsuc}
use Rattle.std.proofs.Common.{ap, ◌∙◌, inl, inr, ⊎_elim, pow-suc, one-mul, zero-mul, arith, ltb-true, ltb-false, lt-ltb, le-ltb, pow-add, pow_pos}
use Rattle.std.proofs.Math.Nat.{div-eq_of_lt}
use Rattle.std.proofs.Math.Arith.{digits_div}
use Rattle.std.specs.Int.Bits.{bit_and}
use Rattle.std.proofs.lemmas.Nat.Bits.{and_high}
use Rattle.manual.specs.Operations.{signed, int_sext}

pub below_or : (a b : ℕ) → (a < b) ⊎ (b ≤ a)
below_or a b = tested (ltb a b) refl
  where
    tested : (t : Bool) → ltb a b ≡ t → (a < b) ⊎ (b ≤ a)
    tested true e = inl (ltb-true a b e)
    tested false e = inr (ltb-false a b e)

pub two_halves : (w : ℕ) → 1 ≤ w → 2 ^ w ≡ 2 ^ (w - 1) * 2
two_halves zero h = omega arith
two_halves (suc w) h = pow-suc 2 w ∙ ap (λ (n : ℕ). 2 ^ n * 2) (omega arith)

-- The top bit of w tells the half

pub top_bit_lower : (w a : ℕ) → a < 2 ^ (w - 1) → a / 2 ^ (w - 1) ≡ 0
top_bit_lower w a lower = div-eq_of_lt lower

pub top_bit_upper : (w a : ℕ) → 1 ≤ w → a < 2 ^ w → 2 ^ (w - 1) ≤ a → a / 2 ^ (w - 1) ≡ 1
top_bit_upper w a some fits upper =
    let h = two_halves w some in
    let e : a ≡ 1 * 2 ^ (w - 1) + (a - 2 ^ (w - 1)) = omega (arith, one-mul (2 ^ (w - 1))) in
    rw e (digits_div 1 (omega arith))

and_bit : (a k : ℕ) → bit_and a (2 ^ k) ≡ a / 2 ^ k % 2 * 2 ^ k
and_bit a k = let e : 2 ^ (1 + k) - 2 ^ k ≡ 2 ^ k = omega (arith, pow-add 2 1 k) in rw e at (and_high a 1 k)

module _ (w a : ℕ) (some : 1 ≤ w) (fits : a < 2 ^ w) where
  pub top_bit_clear : bit_and a (2 ^ (w - 1)) ≡ 0 → a < 2 ^ (w - 1)
  top_bit_clear e =
      ⊎_elim
      (λ lower. lower)
      (λ upper. absurd (omega (arith, pow_pos (w - 1), rw (top_bit_upper w a some fits upper) at (and_bit a (w - 1)))))
      (below_or a (2 ^ (w - 1)))

  pub top_bit_set : (bit_and a (2 ^ (w - 1)) ≡ 0 → ⊥) → 2 ^ (w - 1) ≤ a
  top_bit_set e =
      ⊎_elim
      (λ lower. absurd (e (and_bit a (w - 1) ∙ rw (top_bit_lower w a lower) (zero-mul (2 ^ (w - 1))))))
      (λ upper. upper)
      (below_or a (2 ^ (w - 1)))

module _ (w a : ℕ) (lower : a < 2 ^ (w - 1)) where
  -- The operations, in the lower half and in the upper

  pub signed_lower : signed w a ≡ pos a
  signed_lower = simp (lt-ltb a (2 ^ (w - 1)) lower)

  pub int_sext_lower : (to : ℕ) → int_sext w to a ≡ a
  int_sext_lower to = simp (lt-ltb a (2 ^ (w - 1)) lower)

module _ (w a : ℕ) (upper : 2 ^ (w - 1) ≤ a) where
  pub signed_upper : signed w a ≡ negsuc (2 ^ w - suc a)
  signed_upper = simp (le-ltb a (2 ^ (w - 1)) upper)

  pub int_sext_upper : (to : ℕ) → int_sext w to a ≡ 2 ^ to - (2 ^ w - a)
  int_sext_upper to = simp (le-ltb a (2 ^ (w - 1)) upper)
