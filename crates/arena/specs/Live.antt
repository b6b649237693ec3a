-- What holds of an arena that has passed the check, and of every arena that the run makes of it. Assumes nothing: these are definitions.
use Rattle.std.specs.Prelude.{List, ◌≡◌, ℕ, ◌≤◌, ◌<◌, length}
use Rattle.format.specs.Limits.{capacity, header_at, payload_at}
use Rattle.format.specs.Nodes.{header_of, payload_of, Narrow}
pub use Rattle.format.specs.Nodes.{node_size, node_is_top, node_is_const, node_is_leaf}
use Rattle.format.specs.declared.Node.{Node}
use Rattle.tree.specs.Arena.{node_at, nodes_of, build, tree_at, Below}
use Rattle.tree.specs.Form.{Sized}
use Rattle.tree.specs.Tree.{Tree}

-- the tree under an index of the first `count` nodes
abbrev pub tree_of : (count : ℕ) → List ℕ → ℕ → Tree
tree_of count words i = tree_at (nodes_of count words) i

-- node i is given back by its node, and its children lie below
pub record Good (words : List ℕ) (i : ℕ) : Type 0 where
  pub header_is : header_of (node_at words i) ≡ header_at words i
  pub payload_is : payload_of (node_at words i) ≡ payload_at words i
  pub below : Below i (node_at words i)

pub record Live (words : List ℕ) (count : ℕ) : Type 0 where
  pub room : count ≤ capacity (length words)
  pub good : (i : ℕ) → i < count → Good words i
  pub sized : (i : ℕ) → i < count → Sized (tree_of count words i)

-- a node that may be appended to an arena
pub record New (arena : List Node) (node : Node) : Type 0 where
  pub below : Below (length arena) node
  pub narrow : Narrow node
  pub sized : Sized (build (tree_at arena) node)
