-- A Top is reached from a node as it is from its children, left before right. Assumes nothing.
use Rattle.std.proofs.Common.{sym}
use Rattle.arena.specs.LiveLaws.{tree_of_node}
use Rattle.eval.specs.AnswerLaws.{leaf_topless}
use Rattle.eval.proofs.walk.+has_top.Goals as goal

pub returns-in-Top : goal.returns-in-Top
returns-in-Top t c = rw (tree_of_node c.args.nodes.now.live c.args.i c.requires _ (sym c.in-Top.ensures))

pub returns-in-Unary : goal.returns-in-Unary
returns-in-Unary t c = rw (tree_of_node c.args.nodes.now.live c.args.i c.requires _ (sym c.in-Unary.ensures)) c.has_top.ensures

pub returns-then-has_top : goal.returns-then-has_top
returns-then-has_top t c =
    rw (tree_of_node c.args.nodes.now.live c.args.i c.requires _ (sym c.in-Binary.ensures), ← c.if-has_top.ensures) c.if-has_top.true

pub returns-else-has_top : goal.returns-else-has_top
returns-else-has_top t c =
    rw (tree_of_node c.args.nodes.now.live c.args.i c.requires _ (sym c.in-Binary.ensures), ← c.if-has_top.ensures)
    c.has_top-else-has_top.ensures

pub returns-in_default : goal.returns-in_default
returns-in_default t c =
    rw (tree_of_node c.args.nodes.now.live c.args.i c.requires _ (sym c.node.ensures))
    (leaf_topless _ _ c.in_default.not-Top c.in_default.not-Unary c.in_default.not-Binary)
