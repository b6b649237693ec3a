-- The walk goes to children, whose indices are lower. Assumes nothing.
use Rattle.form.proofs.limits.+left_over.Given as goal

abbrev pub decreases-left_over : goal.decreases-left_over
decreases-left_over l = l.i
