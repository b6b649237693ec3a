-- The operands of a rule of two children fit. Assumes nothing.
use Rattle.acts.specs.Decided.{fold_fitting}
use Rattle.arena.specs.LiveLaws.{size_at}
use Rattle.acts.proofs.decide.bin_act.Goals as goal

pub bin_value-requires : goal.bin_value-requires
bin_value-requires c =
    rw (c.size.ensures, c.node.ensures, ← (size_at c.args.nodes.live c.args.a c.requires.left_below))
    (fold_fitting c.args.nodes.live c.requires c.view_at-left.ensures c.view_at-right.ensures c.constant.ensures c.constant-2.ensures
    c.in-Some-Some.is-0 c.in-Some-Some.is-1)
