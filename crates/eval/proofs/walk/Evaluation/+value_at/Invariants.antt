-- A node's answer, by recursion on the index. Assumes nothing.
use Rattle.eval.proofs.walk.Evaluation.+value_at.Given as goal

abbrev pub decreases-value_at : goal.decreases-value_at
decreases-value_at l = l.i
