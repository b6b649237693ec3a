-- The tree under a node is Top where the node is. Assumes nothing.
use Rattle.arena.specs.LiveLaws.{top_at}
use Rattle.run.proofs.rule.is_top.Goals as goal

pub returns : goal.returns
returns c = rw (top_at c.args.arena.now.live c.args.i c.requires, ← c.nodes.ensures.words, ← c.node.ensures) c.is_top.ensures
