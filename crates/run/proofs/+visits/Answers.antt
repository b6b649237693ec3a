-- Each call of the cycle ends as the run's definition says, and calls only what is lighter. Assumes nothing.
use Rattle.std.proofs.Common.{refl, sym, ◌∙◌, arith}
use Rattle.std.proofs.lemmas.Result.{err_from_is_err_and}
use Rattle.format.specs.Truth.{or_neither}
use Rattle.run.proofs.Visits.{leaf_ends, child_ends, one_child, one_stops, one_next, one_ends, left_child, left_stops, right_child_in, right_stops, two_next, two_ends, one_rebuilt, one_again_ends, two_rebuilt, two_again_ends}
use Rattle.run.specs.Ready.{one_at, two_at}
use Rattle.run.proofs.+visits.Goals as goal
use Rattle.run.proofs.+visits.Goals.{dispatch::child-then-ready-via-then-ready, dispatch::child-then-ready-via-else-ready+then-is_leaf}

-- CHILDREN AND LEAVES

pub dispatch::child-returns-then-ready : goal.dispatch::child-returns-then-ready
dispatch::child-returns-then-ready t c =
    let ends = child_ends c.args.arena.now c.args.j c.requires.0 c.args.ready c.requires.1 in
    elim c.then-ready.branch [
      | dispatch::child-then-ready-via-then-ready w ↦ ends _ refl (rw w.if-ready.true refl)
      | dispatch::child-then-ready-via-else-ready+then-is_leaf w ↦
          ends w.is_leaf.result (rw w.nodes.ensures.words at w.is_leaf.ensures) (rw (w.if-ready.false, w.if-is_leaf.true) refl)
    ]

pub dispatch::visit-returns-in_default : goal.dispatch::visit-returns-in_default
dispatch::visit-returns-in_default t c =
    leaf_ends c.args.arena.now c.args.i c.requires.0 c.node.result (rw c.nodes.ensures.words at c.node.ensures) c.in_default.not-Unary c.in_default.not-Binary

-- THE VISIT OF A NODE OF ONE CHILD

pub dispatch::visit_one-child-requires : goal.dispatch::visit_one-child-requires
dispatch::visit_one-child-requires t c =
    let child = one_child c.args.arena.now c.args.node c.requires.0 c.args.ready c.requires.1 in
    (omega (arith, child.0), (child.1, child.2))

pub dispatch::visit_one-returns-in_err-a : goal.dispatch::visit_one-returns-in_err-a
dispatch::visit_one-returns-in_err-a t c =
    let p = err_from_is_err_and c.from_residual.result c.from_residual.ensures.1 in
    rw (p.1, p.2) (one_stops c.requires.0 c.in_err-a.ensures)

pub dispatch::visit_one-after_one-requires : goal.dispatch::visit_one-after_one-requires
dispatch::visit_one-after_one-requires t c =
    let next = one_next c.requires.0 c.in_ok-a.ensures in
    (omega (arith, next.0), next.1)

pub dispatch::visit_one-returns : goal.dispatch::visit_one-returns
dispatch::visit_one-returns t c = one_ends c.requires.0 c.in_ok-a.ensures c.after_one.ensures

-- THE VISIT OF A NODE OF TWO CHILDREN

pub dispatch::visit_two-child-requires : goal.dispatch::visit_two-child-requires
dispatch::visit_two-child-requires t c =
    let child = left_child c.args.arena.now c.args.node c.requires.0 c.args.ready c.requires.1 in
    (omega (arith, child.0), (child.1, child.2))

pub dispatch::visit_two-returns-in_err-a : goal.dispatch::visit_two-returns-in_err-a
dispatch::visit_two-returns-in_err-a t c =
    let p = err_from_is_err_and c.from_residual.result c.from_residual.ensures.1 in
    rw (p.1, p.2) (left_stops c.requires.0 c.in_err-a.ensures)

pub dispatch::visit_two-child-requires-2 : goal.dispatch::visit_two-child-requires-2
dispatch::visit_two-child-requires-2 t c =
    let child = right_child_in c.requires.0 c.in_ok-a.ensures c.args.ready c.requires.1 in
    (omega (arith, child.0), (child.1, child.2))

pub dispatch::visit_two-returns-in_err-b : goal.dispatch::visit_two-returns-in_err-b
dispatch::visit_two-returns-in_err-b t c =
    let p = err_from_is_err_and c.from_residual-in_err-b.result c.from_residual-in_err-b.ensures.1 in
    rw (p.1, p.2) (right_stops c.requires.0 c.in_ok-a.ensures c.in_err-b.ensures)

pub dispatch::visit_two-after_two-requires : goal.dispatch::visit_two-after_two-requires
dispatch::visit_two-after_two-requires t c =
    let next = two_next c.requires.0 c.in_ok-a.ensures c.in_ok-b.ensures in
    (omega (arith, next.0), next.1)

pub dispatch::visit_two-returns : goal.dispatch::visit_two-returns
dispatch::visit_two-returns t c = two_ends c.requires.0 c.in_ok-a.ensures c.in_ok-b.ensures c.after_two.ensures

-- A NODE whose children are simplified: what its rule rebuilds is simplified again

pub rule::after_one-one_rule-requires : goal.rule::after_one-one_rule-requires
rule::after_one-one_rule-requires t c = one_at c.requires (sym c.is_top.ensures ∙ c.if-is_top.false)

pub rule::after_one-visit-requires : goal.rule::after_one-visit-requires
rule::after_one-visit-requires t c =
    let rebuilt = one_rebuilt c.requires (sym c.is_top.ensures ∙ c.if-is_top.false) (rw c.in-Again.is at c.in_ok-root.ensures) in
    (omega (arith, rebuilt.0), (rebuilt.1, rebuilt.2))

pub rule::after_one-returns-in-Again : goal.rule::after_one-returns-in-Again
rule::after_one-returns-in-Again t c = one_again_ends c.requires (sym c.is_top.ensures ∙ c.if-is_top.false) (rw c.in-Again.is at c.in_ok-root.ensures) c.visit.ensures

pub rule::after_two-two_rule-requires : goal.rule::after_two-two_rule-requires
rule::after_two-two_rule-requires t c =
    two_at c.requires (sym c.is_top.ensures ∙ c.if-is_top.false) (sym c.is_top-else-is_top.ensures ∙ c.if-is_top-2.false)

pub rule::after_two-visit-requires : goal.rule::after_two-visit-requires
rule::after_two-visit-requires t c =
    let topless = or_neither _ _ (sym c.is_top.ensures ∙ c.if-is_top.false) (sym c.is_top-else-is_top.ensures ∙ c.if-is_top-2.false) in
    let rebuilt = two_rebuilt c.requires topless (rw c.in-Again.is at c.in_ok-root.ensures) in
    (omega (arith, rebuilt.0), (rebuilt.1, rebuilt.2))

pub rule::after_two-returns-in-Again : goal.rule::after_two-returns-in-Again
rule::after_two-returns-in-Again t c =
    let topless = or_neither _ _ (sym c.is_top.ensures ∙ c.if-is_top.false) (sym c.is_top-else-is_top.ensures ∙ c.if-is_top-2.false) in
    two_again_ends c.requires topless (rw c.in-Again.is at c.in_ok-root.ensures) c.visit.ensures
