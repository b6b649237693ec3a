-- What nodes and views show of a constant. Assumes nothing.
use Rattle.std.specs.Prelude.{cond, List, ◌≡◌, refl, ℕ, ◌<◌, None, Option, Some}
use Rattle.std.proofs.Common.{ap, arith, ◌∙◌}
use Rattle.arena.specs.Live.{Live, tree_of, node_is_const}
use Rattle.arena.specs.LiveLaws.{tree_of_node}
use Rattle.format.specs.Header.{kind_of}
use Rattle.format.specs.Kinds.{shape_of}
use Rattle.format.specs.Limits.{header_at, payload_at}
use Rattle.format.specs.Nodes.{node_of, shaped}
use Rattle.format.specs.declared.Bin.{Bin}
use Rattle.format.specs.declared.Node.{Node}
use Rattle.format.specs.declared.Shape.{Shape}
use Rattle.rules.specs.Rules.{constant_of, bin_view, view}
use Rattle.rules.specs.Seen.{view_constant}
use Rattle.rules.specs.declared.View.{View}
use Rattle.tree.specs.Arena.{node_at, build}
use Rattle.tree.specs.Tree.{Tree}

-- the tree of a node that is a constant shows its payload, and another one nothing
module _ (tree : ℕ → Tree) (word payload : ℕ) where
  constant_of_shape : (shape : Shape) →
      constant_of (build tree (shaped shape word payload)) ≡ cond (node_is_const (shaped shape word payload)) (Some payload) None
  constant_of_shape shape = grind arith

pub constant_at : {words : List ℕ} {count : ℕ} → Live words count → (i : ℕ) → i < count →
    constant_of (tree_of count words i) ≡ cond (node_is_const (node_at words i)) (Some (payload_at words i)) None
unfolding node_of
constant_at {words} {count} l i h =
    ap constant_of (tree_of_node l i h (node_at words i) refl)
    ∙ constant_of_shape (tree_of count words) (header_at words i) (payload_at words i) (shape_of (kind_of (header_at words i)))

-- a tree's constant is its view's
pub view_constant_lem : (t : Tree) → view_constant (view t) ≡ constant_of t
view_constant_lem t = grind arith

-- the view of a live node
pub view_of_node : {words : List ℕ} {count : ℕ} → Live words count → (i : ℕ) → i < count →
    view (tree_of count words i) ≡ view (build (tree_of count words) (node_at words i))
view_of_node {words} l i h = ap view (tree_of_node l i h (node_at words i) refl)

-- a node that is a constant shows its payload, and another one nothing
abbrev pub node_constant : Node → Option ℕ
node_constant (Node.Const size value) = Some value
node_constant _ = None

shown_of_shape : (word payload : ℕ) (shape : Shape) →
    node_constant (shaped shape word payload) ≡ cond (node_is_const (shaped shape word payload)) (Some payload) None
shown_of_shape word payload shape = grind arith

pub payload_shown : (words : List ℕ) (i : ℕ) →
    node_constant (node_at words i) ≡ cond (node_is_const (node_at words i)) (Some (payload_at words i)) None
unfolding node_of
payload_shown words i = shown_of_shape (header_at words i) (payload_at words i) (shape_of (kind_of (header_at words i)))

-- a tree's constant is its node's
pub constant_of_node : (tree : ℕ → Tree) (n : Node) → constant_of (build tree n) ≡ node_constant n
constant_of_node tree n = grind arith

-- beside what is no constant a node of two children shows nothing
pub no_bin_view : (op : Bin) → bin_view op None ≡ View.Other
no_bin_view op = grind arith

pub constant_of_node_at : {words : List ℕ} {count : ℕ} → Live words count → (i : ℕ) → i < count →
    constant_of (tree_of count words i) ≡ node_constant (node_at words i)
constant_of_node_at {words} {count} l i h = ap constant_of (tree_of_node l i h (node_at words i) refl) ∙ constant_of_node (tree_of count words) (node_at words i)
