-- The writer carries an action out: each node that it makes is appended. Assumes nothing.
use Rattle.std.proofs.Common.{◌≡◌, sym, ◌∙◌}
use Rattle.rules.specs.Run.{near}
use Rattle.tree.specs.Arena.{nodes_of}
use Rattle.settle.specs.Chains.{redo_ended}
use Rattle.settle.proofs.writer.settle.Goals as goal

pub returns-in_ok-right-in-Redo : goal.returns-in_ok-right-in-Redo
returns-in_ok-right-in-Redo g c =
    let left : c.near-left.result ≡ near c.in-Redo.which (nodes_of c.args.arena.now.count c.args.arena.now.words.now) c.args.a c.args.b =
    rw (c.nodes-in-Redo.ensures.words, c.nodes-in-Redo.ensures.count) at c.near-left.ensures.0 in
    record {
      same_reference = c.push-in-Redo.ensures.same_reference ∙ c.in_ok-right-in-Redo.ensures.same_reference;
      ended =
          rw (c.in-Redo.is, sym left)
          (redo_ended c.args.arena.now.words.now c.push_const-in-Redo.new.arena.words.now c.args.arena.now.count c.in-Redo.bin c.args.width.bytes c.near-left.result c.in-Redo.v
          c.in_ok-right-in-Redo.right c.push_const-in-Redo.new.arena.count c.in_ok-right-in-Redo.ensures.ended
          c.push-in-Redo.new.self.words.now _ c.push-in-Redo.ensures.ended);
    }
