-- Equality of trees is decided by recursion on the first index. Assumes nothing.
use Rattle.equal.proofs.+same.Given as goal

abbrev pub decreases-same : goal.decreases-same
decreases-same l = l.i
