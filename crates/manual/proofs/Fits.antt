-- The result of each operation fits: it is a number of w bits if the operands are, and a flag is 0 or 1. Assumes nothing.
use Rattle.std.specs.Prelude.{ℕ, ◌+◌, ◌-◌, ◌^◌, ◌<◌, ltb}
use Rattle.std.proofs.Common.{⊎_elim, arith}
use Rattle.std.proofs.Math.Pow.{pow-sub-lt}
use Rattle.manual.specs.Operations.{int_sright, int_carry}
use Rattle.manual.specs.Halves.{below_or}
use Rattle.manual.proofs.Halves.{int_sright_lower, int_sright_upper}
use Rattle.manual.specs.Fits.{chosen, int_right_fits}

pub int_sright_fits : (w a n : ℕ) → a < 2 ^ w → int_sright w a n < 2 ^ w
int_sright_fits w a n h =
    ⊎_elim
    (λ lower. rw (int_sright_lower w a lower n) (int_right_fits w a n h))
    (λ upper. rw (int_sright_upper w a upper n) (pow-sub-lt w (omega arith)))
    (below_or a (2 ^ (w - 1)))

-- A flag

pub int_carry_fits : (w a b : ℕ) → int_carry w a b < 2
unfolding int_carry
int_carry_fits w a b = chosen (ltb (a + b) (2 ^ w))
