-- The budget goes down by the node, and then by its children's trees. Assumes nothing.
use Rattle.std.proofs.Common.{sym, ◌∙◌}
use Rattle.form.specs.Children.{spend_one, spend_two, spend_other}
use Rattle.form.proofs.limits.+spend.Goals as goal

pub returns-in-Unary : goal.returns-in-Unary
returns-in-Unary t c = c.spend.ensures ∙ spend_one c.args.nodes.now.live c.requires c.args.budget _ _ _ (sym c.in-Unary.ensures)

pub returns-in-Binary : goal.returns-in-Binary
returns-in-Binary t c =
    c.spend-in-Binary.ensures
    ∙ spend_two c.args.nodes.now.live c.requires c.args.budget _ _ _ _ _ (sym c.in-Binary.ensures) c.spend-rest.ensures

pub returns-in_default : goal.returns-in_default
returns-in_default t c =
    spend_other c.args.nodes.now.live c.requires c.args.budget _ (sym c.node.ensures) c.in_default.not-Unary c.in_default.not-Binary
