-- The budget and the limit on paths go down by the node; its children share what is left. Assumes nothing.
use Rattle.std.proofs.Common.{sym, ◌∙◌, inl, inr}
use Rattle.arena.specs.Live.{tree_of}
use Rattle.form.specs.Walks.{no_budget, no_path, over_leaf, over_one, over_two}
use Rattle.form.proofs.limits.+left_over.Goals as goal

pub returns-then-budget-eq0 : goal.returns-then-budget-eq0
returns-then-budget-eq0 t c =
    let tree = tree_of c.args.nodes.now.count c.args.nodes.now.words.now c.args.i in
    elim c.then-budget-eq0.either [ inl e ↦ no_budget tree _ c.args.most e | inr e ↦ no_path tree c.args.budget _ e.1 ]

pub returns-in-Unary : goal.returns-in-Unary
returns-in-Unary t c =
    c.left_over.ensures ∙ over_one c.args.nodes.now.live c.requires c.args.budget _ c.if-most-eq0.false _ _ _ (sym c.in-Unary.ensures)

pub returns-in-Binary : goal.returns-in-Binary
returns-in-Binary t c =
    c.left_over-in-Binary.ensures
    ∙ over_two c.args.nodes.now.live c.requires c.args.budget _ c.if-most-eq0.false _ _ _ _ (sym c.in-Binary.ensures) _
    c.left_over-rest.ensures

pub returns-in_default : goal.returns-in_default
returns-in_default t c =
    over_leaf c.args.nodes.now.live c.requires _ _ c.if-most-eq0.false _ (sym c.node.ensures) c.in_default.not-Unary c.in_default.not-Binary
