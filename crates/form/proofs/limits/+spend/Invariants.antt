-- The walk goes to children, whose indices are lower. Assumes nothing.
use Rattle.form.proofs.limits.+spend.Given as goal

abbrev pub decreases-spend : goal.decreases-spend
decreases-spend l = l.i
