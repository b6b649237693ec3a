-- Laws of a live arena: what a node's kind tells of it, that the nodes are in order, and that each tree is its node over its
-- children's trees. Assumes nothing.
use Rattle.std.specs.Prelude.{List, ◌≡◌, refl, ℕ, ◌+◌, ◌*◌, ◌/◌, ◌≤◌, ◌<◌, eqb, ltb, length, get_or, Option, unwrap_or}
use Rattle.std.proofs.Common.{ap, ap₂, sym, ◌∙◌, arith}
use Rattle.std.proofs.Math.Decide.{dec_lt}
use Rattle.std.proofs.Math.Nat.{min-le_left, min-le_right}
use Rattle.arena.specs.Live.{Live, Good, tree_of}
use Rattle.format.specs.Header.{kind_of}
use Rattle.format.specs.KindRules.{number_of, leaf_kinds, is_const, is_leaf}
use Rattle.format.proofs.KindRules.{const_by_kind, leaf_by_kind}
use Rattle.format.specs.Kinds.{kind_count, shape_of}
use Rattle.format.specs.Limits.{node_words, max_nodes, capacity, header_at, payload_at}
use Rattle.format.specs.Nodes.{node_of, shaped, header_of, payload_of, node_size, node_is_top, node_is_const, node_is_leaf, node_left_child}
use Rattle.format.proofs.NodesOfWords.{node_of_unknown}
use Rattle.format.specs.declared.Node.{Node}
use Rattle.format.specs.declared.Shape.{Shape}
use Rattle.rules.specs.Run.{left_child}
use Rattle.tree.specs.Arena.{node_at, nodes_of, at, build, Below, Ordered}
use Rattle.tree.specs.ArenaLaws.{length-nodes_of, nodes_of_cong, at-nodes_of, tree_eq}
use Rattle.tree.specs.Tree.{Tree, size, is_top}

-- what the capacity allows
pub capacity_room : (len n : ℕ) → n ≤ capacity len → node_words * n ≤ len
capacity_room len n h = omega (arith, min-le_left (len / node_words) max_nodes)

pub capacity_few : (len n : ℕ) → n ≤ capacity len → n ≤ max_nodes
capacity_few len n h = omega (arith, min-le_right (len / node_words) max_nodes)

-- a node's tree has its size, and is Top if it is
module _ (tree : ℕ → Tree) where
  pub size_of_node : (node : Node) → size (build tree node) ≡ node_size node
  size_of_node Node.Top = refl
  size_of_node _ = refl

  pub top_of_node : (node : Node) → is_top (build tree node) ≡ node_is_top node
  top_of_node Node.Top = refl
  top_of_node _ = refl

-- a leaf's left child is itself, where one is asked for
left_or : (node : Node) (i : ℕ) → unwrap_or (node_left_child node) i ≡ left_child node i
left_or Node.Top i = refl
left_or _ i = refl

-- a node is a constant, or a leaf, if its shape is
const_of_shape : (word payload : ℕ) (shape : Shape) → node_is_const (shaped shape word payload) ≡ is_const shape
const_of_shape word payload Shape.Const = refl
const_of_shape word payload _ = refl

leaf_of_shape : (word payload : ℕ) (shape : Shape) → node_is_leaf (shaped shape word payload) ≡ is_leaf shape
leaf_of_shape word payload Shape.Top = refl
leaf_of_shape word payload _ = refl

-- a node is a constant if it has Const's kind
pub const_at : (words : List ℕ) (i : ℕ) → node_is_const (node_at words i) ≡ eqb (kind_of (header_at words i)) (number_of Shape.Const)
unfolding node_of
const_at words i =
    let kind = kind_of (header_at words i) in
    const_of_shape (header_at words i) (payload_at words i) (shape_of kind) ∙ const_by_kind kind

-- a live arena's kinds are known: an unknown one would read as Top, whose header has kind 0
pub kind_known : {words : List ℕ} {i : ℕ} → Good words i → kind_of (header_at words i) < kind_count
kind_known {words} {i} good = go (dec_lt (kind_of (header_at words i)) kind_count)
  where
    go : Dec (kind_of (header_at words i) < kind_count) → kind_of (header_at words i) < kind_count
    go (yes p) = p
    go (no p) =
        let unknown : node_at words i ≡ Node.Top = node_of_unknown (header_at words i) (payload_at words i) (omega arith) in
        omega (arith, ap kind_of (sym good.header_is ∙ ap header_of unknown))

-- so a node is a leaf if its kind is one of the first
pub leaf_at : {words : List ℕ} {i : ℕ} → Good words i → node_is_leaf (node_at words i) ≡ ltb (kind_of (header_at words i)) leaf_kinds
unfolding node_of
leaf_at {words} {i} good =
    let kind = kind_of (header_at words i) in
    leaf_of_shape (header_at words i) (payload_at words i) (shape_of kind) ∙ leaf_by_kind kind (kind_known good)

pub live_ordered : {words : List ℕ} {count : ℕ} → Live words count → Ordered (nodes_of count words)
live_ordered {words} {count} l i b =
    let h : i < count = omega (arith, length-nodes_of count words) in
    rw (at-nodes_of count words i h) (l.good i h).below

-- words that agree below the count hold the same live arena
module _ {words : List ℕ} {count : ℕ} (l : Live words count) (after : List ℕ) (same_length : length after ≡ length words)
    (kept : (k : ℕ) → k < node_words * count → get_or after k 0 ≡ get_or words k 0) where
  pub node_kept : (i : ℕ) → i < count → node_at after i ≡ node_at words i
  node_kept i h = ap₂ node_of (kept (node_words * i) (omega arith)) (kept (node_words * i + 1) (omega arith))

  pub nodes_kept : nodes_of count after ≡ nodes_of count words
  nodes_kept = nodes_of_cong count words after node_kept

  pub good_kept : (i : ℕ) → i < count → Good after i
  good_kept i h =
      let g = l.good i h in
      record {
        header_is = ap header_of (node_kept i h) ∙ g.header_is ∙ sym (kept (node_words * i) (omega arith));
        payload_is = ap payload_of (node_kept i h) ∙ g.payload_is ∙ sym (kept (node_words * i + 1) (omega arith));
        below = rw (node_kept i h) g.below;
      }

  pub live_kept : Live after count
  live_kept = record { room = rw same_length l.room; good = good_kept; sized = λ i h. rw nodes_kept (l.sized i h) }

module _ {words : List ℕ} {count : ℕ} (l : Live words count) (i : ℕ) (h : i < count) where
  -- node i's words lie in the slice
  pub node_inside : node_words * i + 1 < length words
  node_inside = omega (arith, capacity_room (length words) count l.room)

  pub in_arena : i < length (nodes_of count words)
  in_arena = omega (arith, length-nodes_of count words)

  pub tree_of_node : (node : Node) → node_at words i ≡ node → tree_of count words i ≡ build (tree_of count words) node
  tree_of_node node e =
      tree_eq (nodes_of count words) (live_ordered l) i in_arena ∙ ap (build (tree_of count words)) (at-nodes_of count words i h ∙ e)

  pub size_at : size (tree_of count words i) ≡ node_size (node_at words i)
  size_at = ap size (tree_of_node (node_at words i) refl) ∙ size_of_node (tree_of count words) (node_at words i)

  pub top_at : is_top (tree_of count words i) ≡ node_is_top (node_at words i)
  top_at = ap is_top (tree_of_node (node_at words i) refl) ∙ top_of_node (tree_of count words) (node_at words i)

  pub below_at : (node : Node) → node_at words i ≡ node → Below i node
  below_at node e = rw e at (l.good i h).below

  left_below : (node : Node) → Below i node → left_child node i < count
  left_below (Node.Unary op s j) b = omega arith
  left_below (Node.Binary op s j k) b = omega (arith, b.0)
  left_below _ b = h

  -- the left child that was read off the words is the arena's
  pub left_child_at : (left : Option ℕ) → left ≡ node_left_child (node_at words i) →
      (unwrap_or left i ≡ left_child (at (nodes_of count words) i) i) × (unwrap_or left i < count)
  left_child_at left e =
      let node = node_at words i in
      rw (e, left_or node i) (ap (λ (n : Node). left_child n i) (sym (at-nodes_of count words i h)), left_below node (below_at node refl))

  -- and so it is of the node
  pub left_child_read : (node : Node) → node ≡ node_at words i → (left_child node i ≡ left_child (at (nodes_of count words) i) i) × (left_child node i < count)
  left_child_read node e =
      (ap (λ (n : Node). left_child n i) (e ∙ sym (at-nodes_of count words i h)), left_below node (below_at node (sym e)))
