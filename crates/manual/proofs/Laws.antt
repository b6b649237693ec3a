-- The laws of single operations that the rewriting rules lean on, over the width w: what an operation does with 0, 1, all ones,
-- an equal operand, itself. Cuts holds those of folds, Rewritings those of sums and differences, Fits that results fit. Assumes
-- nothing.
use Rattle.std.specs.Prelude.{◌≡◌, ℕ, suc, ◌-◌, ◌^◌, ◌<◌}
use Rattle.std.proofs.Common.{◌∙◌, ⊎_elim, arith}
use Rattle.manual.specs.Operations.{int_sright}
use Rattle.manual.specs.Halves.{below_or}
use Rattle.manual.proofs.Halves.{int_sright_lower, int_sright_upper}
use Rattle.manual.specs.Laws.{int_right_zero}

-- Commuting

-- Beside a constant

pub int_sright_zero : (w a : ℕ) → a < 2 ^ w → int_sright w a 0 ≡ a
int_sright_zero w a h =
    ⊎_elim
    (λ lower. int_sright_lower w a lower 0 ∙ int_right_zero w a)
    (λ upper. int_sright_upper w a upper 0 ∙ rw (int_right_zero w (2 ^ w - suc a)) (omega arith))
    (below_or a (2 ^ (w - 1)))
