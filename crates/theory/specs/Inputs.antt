-- The run gains no input: whatever holds of every input of a tree holds of every input of what it becomes. Assumes nothing.
-- The laws that rest on what an edit in must-fail/ changes are in proofs/Inputs.antt.
use Rattle.tree.specs.Tree.{Tree, top, entry, const, bind, unary, binary}

-- Q holds of every input, which is given as the tree that it is
abbrev pub EveryInput : (Tree → Type 0) → Tree → Type 0
EveryInput Q top = Unit {0}
EveryInput Q (entry s space offset) = Q (entry s space offset)
EveryInput Q (const s v) = Unit {0}
EveryInput Q (bind s id) = Q (bind s id)
EveryInput Q (unary op s a) = EveryInput Q a
EveryInput Q (binary op s a b) = EveryInput Q a × EveryInput Q b
