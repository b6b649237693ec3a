-- Numbers of w bits read as signed, through the machine's i64. Assumes nothing.
use mathlib.Core.Path.{◌≡◌, sym, ap, ◌∙◌}
use mathlib.Core.Logic.{⊎_elim}
use Prim.Native.Nat.{ℕ, suc, ◌+◌, ◌-◌, ◌*◌, ◌/◌, ◌%◌, ◌^◌, ◌<◌, ◌≤◌, min}
use native.Mathlib.Nat.{mod-eq_of_lt, lt_of_le_of_lt, div-eq_of_lt}
use native.Mathlib.Omega.{arith}
use lib.Bits.{bit_and, bit_or, or_shifted_r}
use lib.IntN.{ℤ}
use lib.Pow.{high_ones, pow_mono, pow_pos, shr_le}
use lib.Signed.{shr_z, mag_shr}
use mir.Facts.{to_z-of_z}
use mir.Syntax.{w64}
use mir.Val.{SFits, of_z, to_z}
use mir.ValLaws.{sfits_le}
use Rattle.manual.specs.Cuts.{negative_cut}
use Rattle.manual.specs.Halves.{below_or, two_halves, top_bit_clear, top_bit_set, signed_lower, signed_upper, int_sext_lower, int_sext_upper}
use Rattle.manual.proofs.Halves.{int_sright_lower, int_sright_upper}
use Rattle.manual.specs.Operations.{int_sright, int_sext, signed}

-- The machine's reading of 64 bits is `signed 64`

pub as_signed : (a : ℕ) → to_z w64 a ≡ signed 64 a
as_signed a = grind arith

-- Sign extension to 64 bits, by the sign bit and the ones above it

module _ (w a : ℕ) (some : 1 ≤ w) (small : w ≤ 64) (fits : a < 2 ^ w) where
  pub extended_clear : bit_and a (2 ^ (w - 1)) ≡ 0 → a ≡ int_sext w 64 a
  extended_clear e = sym (int_sext_lower w a (top_bit_clear w a some fits e) 64)

  pub extended_set : (bit_and a (2 ^ (w - 1)) ≡ 0 → ⊥) → bit_or a ((2 ^ 64 - 1) - (2 ^ w - 1)) ≡ int_sext w 64 a
  extended_set e =
      let m : 2 ^ w ≤ 2 ^ 64 = pow_mono small in
      let n : 64 - w + w ≡ 64 = omega arith in
      let high : 2 ^ 64 - 2 ^ w ≡ (2 ^ (64 - w) - 1) * 2 ^ w = rw n at (high_ones (64 - w) w) in
      let ones : (2 ^ 64 - 1) - (2 ^ w - 1) ≡ (2 ^ (64 - w) - 1) * 2 ^ w = omega (arith, pow_pos w) in
      let sum : (2 ^ (64 - w) - 1) * 2 ^ w + a ≡ 2 ^ 64 - (2 ^ w - a) = omega arith in
      ap (bit_or a) ones
      ∙ or_shifted_r (2 ^ (64 - w) - 1) w a fits
      ∙ sum
      ∙ sym (int_sext_upper w a (top_bit_set w a some fits e) 64)

  pub signed_of_extended : signed 64 (int_sext w 64 a) ≡ signed w a
  signed_of_extended =
      let h = two_halves w some in
      let s : 2 ^ (w - 1) ≤ 2 ^ 63 = pow_mono {i = w - 1} {j = 63} (omega arith) in
      grind arith

  pub read : to_z w64 (int_sext w 64 a) ≡ signed w a
  read = as_signed (int_sext w 64 a) ∙ signed_of_extended

-- A signed shift by n: a shift of the i64 by at most 63

-- an i64 goes through its bits wherever it is held
abbrev held : ℤ → ℤ
held z = to_z w64 (of_z w64 z)

shift_held : (z : ℤ) (n : ℕ) → SFits w64 z → held (shr_z (held z) (2 ^ n)) ≡ shr_z z (2 ^ n)
shift_held z n f = rw (to_z-of_z f) (to_z-of_z (sfits_le (mag_shr z (2 ^ n)) f))

-- past the width a shift leaves nothing of a number below the sign bit, by whatever count
same_shift : (w n m : ℕ) → 1 ≤ w → w ≤ 64 → m < 2 ^ (w - 1) → m / 2 ^ min n 63 ≡ m / 2 ^ min n w
same_shift w n m some small h =
    ⊎_elim
    (λ within. let e : min n 63 ≡ min n w = omega arith in rw e)
    (λ past.
    let long : 2 ^ (w - 1) ≤ 2 ^ min n 63 = pow_mono (omega arith) in
    let whole : 2 ^ (w - 1) ≤ 2 ^ min n w = pow_mono (omega arith) in
    div-eq_of_lt (omega arith) ∙ sym (div-eq_of_lt (omega arith)))
    (below_or n w)

module _ (w a n : ℕ) (some : 1 ≤ w) (small : w ≤ 64) (fits : a < 2 ^ w) (z : ℤ) (held_fits : SFits w64 z) (reads : z ≡ signed w a) where
  pub shifted : of_z w64 (held (shr_z (held z) (2 ^ min n 63))) % 2 ^ w ≡ int_sright w a n
  shifted =
      let h = two_halves w some in
      rw (shift_held z (min n 63) held_fits, reads)
      (⊎_elim
      (λ lower.
      rw (signed_lower w a lower, int_sright_lower w a lower n)
      (mod-eq_of_lt (lt_of_le_of_lt (shr_le a (min n 63)) fits) ∙ same_shift w n a some small lower))
      (λ upper.
      rw (signed_upper w a upper, int_sright_upper w a upper n)
      (negative_cut w small (suc ((2 ^ w - suc a) / 2 ^ min n 63)) (omega arith) (omega (arith, shr_le (2 ^ w - suc a) (min n 63)))
      ∙ ap (λ (k : ℕ). 2 ^ w - suc k) (same_shift w n (2 ^ w - suc a) some small (omega arith))))
      (below_or a (2 ^ (w - 1))))
