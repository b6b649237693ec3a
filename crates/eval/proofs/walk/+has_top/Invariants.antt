-- Whether a Top is reached, by recursion on the index. Assumes nothing.
use Rattle.eval.proofs.walk.+has_top.Given as goal

abbrev pub decreases-has_top : goal.decreases-has_top
decreases-has_top l = l.i
