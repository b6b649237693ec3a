-- The nodes before i have passed, so the scan from node i on gives the verdict on all. Assumes nothing.
use Rattle.std.proofs.Common.{◌≡◌, ◌-◌, Ok}
use Rattle.form.proofs.scan.Given as goal
use Rattle.tree.specs.Form.{scanned}

abbrev pub invariant-loop-i : goal.invariant-loop-i
invariant-loop-i l = record { passing : l.verdict ≡ Ok tt; rest_decides : scanned l.words l.count 0 ≡ scanned l.words (l.count - l.i) l.i }
