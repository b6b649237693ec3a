-- The run keeps the size and the value of a tree from which no Top is reached, whatever the inputs are; so it keeps sizes in any
-- tree. Assumes nothing.
-- Throughout, `ok` says that a tree is well sized, and `free` that no Top is reached from it.
-- The laws that rest on what an edit in must-fail/ changes are in proofs/Values.antt.
use Rattle.std.specs.Prelude.{ℕ}
use Rattle.rules.specs.declared.Act.{Act}
use Rattle.theory.specs.TreeRun.{near_tree, const_tree}
use Rattle.tree.specs.Form.{Sized}
use Rattle.tree.specs.Tree.{Tree, unary, binary}

-- A NODE OVER CHILDREN THAT ARE REPLACED

-- A VISIT, if what it simplifies again is replaced

-- THE RUN

-- WHAT A RULE MAKES is well sized, whatever it decides: every tree that is appended

abbrev pub ActSized : Act → (kept swapped : Tree) → (s : ℕ) → (a b : Tree) → Type 0
ActSized Act.Keep kept swapped s a b = Sized kept
ActSized Act.Swap kept swapped s a b = Sized swapped
ActSized (Act.Give w) kept swapped s a b = Sized (near_tree w a b)
ActSized (Act.Make v) kept swapped s a b = Sized (const_tree s v)
ActSized (Act.Redo op w v) kept swapped s a b = Sized (const_tree s v) × Sized (binary op s (near_tree w a b) (const_tree s v))
ActSized (Act.RedoUnary op w) kept swapped s a b = Sized (unary op s (near_tree w a b))
