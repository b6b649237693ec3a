-- An arena is live after each of the two words that a node is stored by. Assumes nothing.
use Rattle.std.proofs.Common.{arith}
use Rattle.arena.specs.Pushed.{half_live, pushed}
use Rattle.arena.proofs.Arena.push.Goals as goal

pub invariant_of-self : goal.invariant_of-self
invariant_of-self c =
    let a = c.args.self.now in
    let l = half_live a.words.now a.count a.live c.args.node c.requires.new (omega (arith, c.capacity.ensures, c.if-capacity-at.false)) in
    rw c.header_of.ensures (record { live = l })

pub invariant_of-self-2 : goal.invariant_of-self-2
invariant_of-self-2 c =
    let a = c.args.self.now in
    let p = pushed a.words.now a.count a.live c.args.node c.requires.new (omega (arith, c.capacity.ensures, c.if-capacity-at.false)) in
    rw (c.header_of.ensures, c.payload_of.ensures) (record { live = p.ran.live })
