-- The result of each operation fits: it is a number of w bits if the operands are, and a flag is 0 or 1. Assumes nothing.
-- The laws that rest on what an edit in must-fail/ changes are in proofs/Fits.antt.
use Rattle.std.specs.Prelude.{Bool, true, false, cond, ℕ, ◌+◌, ◌-◌, ◌*◌, ◌^◌, min, ◌≤◌, ◌<◌, ltb, ℤ, ◌+ℤ◌, ◌-ℤ◌}
use Rattle.std.proofs.Common.{⊎_elim, mod-lt, lt_of_le_of_lt, arith, pow_mono, pow_pos}
use Rattle.std.proofs.lemmas.Nat.{or_lt, xor_lt, shr_le}
use Rattle.std.specs.Int.Signed.{mag}
use Rattle.manual.specs.Operations.{int_add, int_sub, int_mult, int_2comp, int_xor, int_or, int_left, int_right, int_sext, int_scarry, int_sborrow, signed, unfit}
use Rattle.manual.specs.Halves.{below_or, int_sext_lower, int_sext_upper}

pub int_add_fits : (w a b : ℕ) → int_add w a b < 2 ^ w
int_add_fits w a b = mod-lt (a + b) (pow_pos w)

pub int_sub_fits : (w a b : ℕ) → int_sub w a b < 2 ^ w
int_sub_fits w a b = mod-lt (a + (2 ^ w - b)) (pow_pos w)

pub int_mult_fits : (w a b : ℕ) → int_mult w a b < 2 ^ w
int_mult_fits w a b = mod-lt (a * b) (pow_pos w)

pub int_2comp_fits : (w a : ℕ) → int_2comp w a < 2 ^ w
int_2comp_fits w a = int_sub_fits w 0 a

pub int_xor_fits : (w a b : ℕ) → a < 2 ^ w → b < 2 ^ w → int_xor w a b < 2 ^ w
int_xor_fits w a b ha hb = xor_lt w a b ha hb

pub int_or_fits : (w a b : ℕ) → a < 2 ^ w → b < 2 ^ w → int_or w a b < 2 ^ w
int_or_fits w a b ha hb = or_lt w a b ha hb

pub int_left_fits : (w a n : ℕ) → int_left w a n < 2 ^ w
int_left_fits w a n = mod-lt (a * 2 ^ min n w) (pow_pos w)

pub int_right_fits : (w a n : ℕ) → a < 2 ^ w → int_right w a n < 2 ^ w
int_right_fits w a n h = lt_of_le_of_lt (shr_le a (min n w)) h

pub int_sext_fits : (v w a : ℕ) → v ≤ w → a < 2 ^ v → int_sext v w a < 2 ^ w
int_sext_fits v w a vw h =
    let m : 2 ^ v ≤ 2 ^ w = pow_mono vw in
    ⊎_elim
    (λ lower. rw (int_sext_lower v a lower w) (omega arith))
    (λ upper. rw (int_sext_upper v a upper w) (omega arith))
    (below_or a (2 ^ (v - 1)))

-- A flag

pub chosen : (t : Bool) → cond t 0 1 < 2
chosen true = omega arith
chosen false = omega arith

unfit_fits : (w : ℕ) (z : ℤ) → unfit w z < 2
unfolding unfit
unfit_fits w z = chosen (ltb (mag z) (2 ^ (w - 1)))

pub int_scarry_fits : (w a b : ℕ) → int_scarry w a b < 2
unfolding int_scarry
int_scarry_fits w a b = unfit_fits w (signed w a +ℤ signed w b)

pub int_sborrow_fits : (w a b : ℕ) → int_sborrow w a b < 2
unfolding int_sborrow
int_sborrow_fits w a b = unfit_fits w (signed w a -ℤ signed w b)
