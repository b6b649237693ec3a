-- The children of alike nodes lie below them, so they may be compared. Assumes nothing.
use Rattle.std.proofs.Common.{sym, arith}
use Rattle.equal.proofs.Laws.{one_below, two_below}
use Rattle.equal.proofs.+same.Goals as goal

pub same-requires : goal.same-requires
same-requires t c =
    let b = one_below c.args.nodes.now.live _ _ c.requires.0 c.requires.1 (sym c.in-Unary.ensures) (sym c.if-not-alike.ensures) in
    omega arith

pub same-requires-in-Binary : goal.same-requires-in-Binary
same-requires-in-Binary t c =
    let b = two_below c.args.nodes.now.live _ _ c.requires.0 c.requires.1 (sym c.in-Binary.ensures) (sym c.if-not-alike.ensures) in
    omega arith

pub same-requires-then-same : goal.same-requires-then-same
same-requires-then-same t c =
    let b = two_below c.args.nodes.now.live _ _ c.requires.0 c.requires.1 (sym c.in-Binary.ensures) (sym c.if-not-alike.ensures) in
    omega arith
