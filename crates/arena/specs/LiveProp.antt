-- There is at most one proof that an arena is live, so a value may keep it. Assumes nothing.
use Rattle.std.specs.Prelude.{List, ℕ}
use Rattle.std.proofs.Props.{props}
use Rattle.arena.specs.Live.{Live}
use Rattle.format.specs.declared.Node.{Node}
use Rattle.tree.specs.Arena.{Below}
use Rattle.tree.specs.Form.{Sized}
use Rattle.tree.specs.Tree.{Tree, unary, binary}

Below-prop : (i : ℕ) (node : Node) → IsProp (Below i node)
Below-prop i Node.Top = hlevel props
Below-prop i _ = hlevel props

Sized-prop : (tree : Tree) → IsProp (Sized tree)
Sized-prop (unary op size a) = hlevel (props, Sized-prop a)
Sized-prop (binary op size a b) = hlevel (props, Sized-prop a, Sized-prop b)
Sized-prop _ = hlevel props

pub Live-prop : (words : List ℕ) (count : ℕ) → IsProp (Live words count)
Live-prop words count = hlevel (props, Below-prop, Sized-prop)
