-- Where nothing is left of the budget alone, it was the nodes, and else a path. Assumes nothing.
use Rattle.form.specs.Children.{too_many_spent, too_long_over}
use Rattle.form.proofs.limits.limited.Goals as goal

pub returns-then-spend-eq0 : goal.returns-then-spend-eq0
returns-then-spend-eq0 c = too_many_spent _ _ c.spend.ensures c.if-spend-eq0.true

pub returns-else-spend-eq0 : goal.returns-else-spend-eq0
returns-else-spend-eq0 c = too_long_over _ _ c.left_over.ensures c.if-left_over-gt0.false _ c.spend.ensures c.if-spend-eq0.false
