-- Past the rows and the Tops, an input that is missing is told by its index. Assumes nothing.
use Rattle.std.proofs.Common.{rules, sym}
use Rattle.eval.specs.EvaluatedLaws.{evaluated_told}
use Rattle.eval.proofs.evaluate_checked.Goals as goal

pub returns : goal.returns
returns c =
    evaluated_told _ (λ i error h. search rules) _ _ _ c.args.rows.now (sym c.in_default.ensures) (sym c.if-has_top.ensures)
    c.map_err.result (rw c.value_at.ensures at c.map_err.ensures.cases)
