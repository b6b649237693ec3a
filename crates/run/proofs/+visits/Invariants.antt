-- Dispatch and the rules call one another. What falls is five times the weight of the tree that a call is on, twice its nodes and one more
-- for a Sub at its root, with 5 more for a child, 4 for dispatch, 3 for a visit, 2 for that of the children and 1 for what comes after them.
-- Assumes nothing.
use Rattle.std.proofs.Common.{◌+◌, ◌*◌}
use Rattle.rules.specs.Run.{weight}
use Rattle.run.specs.Ready.{tree_in}
use Rattle.tree.specs.Tree.{unary, binary}
use Rattle.run.proofs.+visits.Given as goal

abbrev pub decreases-rule::after_one : goal.decreases-rule::after_one
decreases-rule::after_one l = 5 * weight (unary l.node.op l.node.size (tree_in l.arena.now l.a)) + 1

abbrev pub decreases-rule::after_two : goal.decreases-rule::after_two
decreases-rule::after_two l =
    5 * weight (binary l.node.op l.node.size (tree_in l.arena.now l.a) (tree_in l.arena.now l.b)) + 1

abbrev pub decreases-dispatch::child : goal.decreases-dispatch::child
decreases-dispatch::child l = 5 * weight (tree_in l.arena.now l.j) + 5

abbrev pub decreases-dispatch::dispatch : goal.decreases-dispatch::dispatch
decreases-dispatch::dispatch l = 5 * weight (tree_in l.arena.now l.i) + 4

abbrev pub decreases-dispatch::visit : goal.decreases-dispatch::visit
decreases-dispatch::visit l = 5 * weight (tree_in l.arena.now l.i) + 3

abbrev pub decreases-dispatch::visit_one : goal.decreases-dispatch::visit_one
decreases-dispatch::visit_one l = 5 * weight (tree_in l.arena.now l.node.index) + 2

abbrev pub decreases-dispatch::visit_two : goal.decreases-dispatch::visit_two
decreases-dispatch::visit_two l = 5 * weight (tree_in l.arena.now l.node.index) + 2
