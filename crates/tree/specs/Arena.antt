-- The nodes of an arena's words, and the tree that stands under an index. Assumes nothing: these are definitions.
use Rattle.std.specs.Prelude.{List, [], ◌∷◌, ◌++◌, ℕ, zero, suc, ◌<◌, length, get_or}
use Rattle.format.specs.Limits.{header_at, payload_at}
use Rattle.format.specs.Nodes.{node_of}
use Rattle.format.specs.declared.Node.{Node}
use Rattle.tree.specs.Tree.{Tree, top, entry, const, bind, unary, binary}

abbrev pub node_at : List ℕ → ℕ → Node
node_at words i = node_of (header_at words i) (payload_at words i)

-- the first `count` nodes
abbrev pub nodes_of : (count : ℕ) → List ℕ → List Node
nodes_of zero words = []
nodes_of (suc n) words = nodes_of n words ++ node_at words n ∷ []

abbrev pub at : List Node → ℕ → Node
at arena i = get_or arena i Node.Top

-- a node's tree, given its children's
abbrev pub build : (ℕ → Tree) → Node → Tree
build tree Node.Top = top
build tree (Node.Entry size space offset) = entry size space offset
build tree (Node.Const size value) = const size value
build tree (Node.Bind size id) = bind size id
build tree (Node.Unary op size left) = unary op size (tree left)
build tree (Node.Binary op size left right) = binary op size (tree left) (tree right)

abbrev pub unfolded : List Node → (steps i : ℕ) → Tree
unfolded arena zero i = top
unfolded arena (suc steps) i = build (unfolded arena steps) (at arena i)

-- children lie below their node, so i + 1 steps are enough
unfoldable pub tree_at : List Node → ℕ → Tree
tree_at arena i = unfolded arena (suc i) i

-- a node's children lie below i
abbrev pub Below : ℕ → Node → Type 0
Below i Node.Top = Unit {0}
Below i (Node.Entry size space offset) = Unit {0}
Below i (Node.Const size value) = Unit {0}
Below i (Node.Bind size id) = Unit {0}
Below i (Node.Unary op size left) = left < i
Below i (Node.Binary op size left right) = (left < i) × (right < i)

abbrev pub Ordered : List Node → Type 0
Ordered arena = (i : ℕ) → i < length arena → Below i (at arena i)
