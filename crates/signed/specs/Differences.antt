-- A difference of two constants, read as an i64. Assumes nothing: this is a definition.
use Rattle.std.specs.Prelude.{ℕ, cond}
use Rattle.manual.specs.Operations.{negative64, amount64}
use Rattle.signed.specs.declared.Difference.{Difference}

-- its sign, and how far it is from 0
abbrev pub difference_of : ℕ → Difference
difference_of d = cond (negative64 d) (Difference.Negative (amount64 d)) (Difference.NonNegative (amount64 d))
