-- The rule of sizes over words is the rule over trees. Assumes nothing.
use Rattle.std.specs.Prelude.{Bool, true, false, cond, List, ◌≡◌, refl, ℕ, zero, suc, ◌<◌, eqb, leb, None, Option, Some}
use Rattle.std.proofs.Common.{ap, sym, ◌∙◌, arith, ne_eqb}
use Rattle.arena.specs.Live.{Good, tree_of, node_size}
use Rattle.format.specs.Header.{kind_of, size_of}
use Rattle.format.specs.KindRules.{number_of, arity_of}
use Rattle.format.proofs.KindRules.{same_number}
use Rattle.format.specs.Kinds.{row_of}
use Rattle.format.specs.Limits.{header_at, payload_at}
use Rattle.format.specs.Nodes.{header_of, payload_of, Narrow}
use Rattle.format.proofs.NodesOfWords.{narrow_of_words}
use Rattle.format.specs.declared.Node.{Node}
use Rattle.format.specs.declared.Shape.{Shape}
use Rattle.formed.specs.NodeFields.{node_shape, node_left, node_right, fields_of_node, line_of_shape}
use Rattle.tree.specs.Arena.{node_at, nodes_of, build, Below, Ordered}
use Rattle.tree.specs.ArenaLaws.{length-nodes_of, at-nodes_of, tree_eq}
use Rattle.tree.specs.Form.{sized, child_size, row_sized, well_sized, un_sizing, bin_sizing, size_seen, Sized}
use Rattle.tree.specs.Tree.{Tree}

-- the rule that a node is under, with its children's sizes read off the words
abbrev pub node_sized : List ℕ → Node → Bool
node_sized words node =
    sized (row_of (number_of (node_shape node))).sizing (node_size node) (payload_of node)
    (child_size words (leb 1 (arity_of (node_shape node))) (node_left node))
    (child_size words (leb 2 (arity_of (node_shape node))) (node_right node))

not_top : (shape : Shape) → (shape ≡ Shape.Top → ⊥) → eqb (number_of shape) 0 ≡ false
not_top shape other = ne_eqb (number_of shape) 0 (λ e. other (same_number shape Shape.Top e))

-- what a node shows as a child, by its number: only Top's is 0
seen_by_number : (tree : ℕ → Tree) (node : Node) →
    cond (eqb (number_of (node_shape node)) 0) None (Some (node_size node)) ≡ size_seen (build tree node)
seen_by_number tree Node.Top = refl
seen_by_number tree (Node.Entry s space offset) = refl
seen_by_number tree (Node.Const s value) = refl
seen_by_number tree (Node.Bind s id) = refl
seen_by_number tree (Node.Unary op s left) = rw (not_top (Shape.Unary op) (λ e. let z : ◌≡◌ {A = ℕ} 0 1 = cc in omega arith))
seen_by_number tree (Node.Binary op s left right) = rw (not_top (Shape.Binary op) (λ e. let z : ◌≡◌ {A = ℕ} 0 1 = cc in omega arith))

-- words that are a node's
module _ (words : List ℕ) (word payload : ℕ) (node : Node) (narrow : Narrow node) (header_is : header_of node ≡ word) where
  seen_by_node : (tree : ℕ → Tree) →
      cond (eqb (kind_of word) 0) None (Some (size_of word)) ≡ size_seen (build tree node)
  seen_by_node tree =
      let f = fields_of_node node narrow in
      rw (← header_is, f.kind_is, f.size_is) (seen_by_number tree node)

  sized_by_node : payload_of node ≡ payload → row_sized words (row_of (kind_of word)) word payload ≡ node_sized words node
  sized_by_node payload_is =
      let f = fields_of_node node narrow in
      let line = line_of_shape (node_shape node) in
      rw (← header_is, ← payload_is, f.kind_is, line.arity_is, f.size_is, f.left_is, f.right_is)

-- a node over trees whose sizes are those that the words show
module _ (words : List ℕ) (tree : ℕ → Tree) (i : ℕ) (seen : (j : ℕ) → j < i → child_size words true j ≡ size_seen (tree j)) where
  sized_tree : (node : Node) → Narrow node → Below i node → ((j : ℕ) → j < i → Sized (tree j)) → node_sized words node ≡ true → Sized (build tree node)
  unfolding row_of
  sized_tree Node.Top narrow b deep e = tt
  sized_tree (Node.Entry s space offset) narrow b deep e = (e, narrow.1)
  sized_tree (Node.Const s value) narrow b deep e = e
  sized_tree (Node.Bind s id) narrow b deep e = e
  sized_tree (Node.Unary op s left) narrow b deep e =
      (sym (ap (λ (c : Option ℕ). sized (un_sizing op) s 0 c None) (seen left b)) ∙ e, deep left b)
  sized_tree (Node.Binary op s left right) narrow b deep e =
      let l = ap (λ (c : Option ℕ). sized (bin_sizing op) s 0 c (child_size words true right)) (seen left b.0) in
      let r = ap (sized (bin_sizing op) s 0 (size_seen (tree left))) (seen right b.1) in
      (sym (l ∙ r) ∙ e, deep left b.0, deep right b.1)

  sized_node : (node : Node) → Below i node → Sized (build tree node) → node_sized words node ≡ true
  unfolding row_of
  sized_node Node.Top b e = refl
  sized_node (Node.Entry s space offset) b e = e.0
  sized_node (Node.Const s value) b e = e
  sized_node (Node.Bind s id) b e = e
  sized_node (Node.Unary op s left) b e =
      ap (λ (c : Option ℕ). sized (un_sizing op) s 0 c None) (seen left b) ∙ e.0
  sized_node (Node.Binary op s left right) b e =
      ap (λ (c : Option ℕ). sized (bin_sizing op) s 0 c (child_size words true right)) (seen left b.0)
      ∙ ap (sized (bin_sizing op) s 0 (size_seen (tree left))) (seen right b.1)
      ∙ e.0

module _ (words : List ℕ) (count : ℕ) (good : (i : ℕ) → i < count → Good words i) where
  ordered : Ordered (nodes_of count words)
  ordered i b =
      let h : i < count = omega (arith, length-nodes_of count words) in
      rw (at-nodes_of count words i h) (good i h).below

  tree_is : (i : ℕ) → i < count → tree_of count words i ≡ build (tree_of count words) (node_at words i)
  tree_is i h =
      tree_eq (nodes_of count words) ordered i (omega (arith, length-nodes_of count words))
      ∙ ap (build (tree_of count words)) (at-nodes_of count words i h)

  seen : (i : ℕ) → i < count → child_size words true i ≡ size_seen (tree_of count words i)
  seen i h =
      let narrow = narrow_of_words (header_at words i) (payload_at words i) in
      seen_by_node words (header_at words i) (payload_at words i) (node_at words i) narrow (good i h).header_is (tree_of count words)
      ∙ ap size_seen (sym (tree_is i h))

  as_node : (i : ℕ) → i < count → well_sized words i ≡ node_sized words (node_at words i)
  unfolding well_sized
  as_node i h =
      let narrow = narrow_of_words (header_at words i) (payload_at words i) in
      sized_by_node words (header_at words i) (payload_at words i) (node_at words i) narrow (good i h).header_is (good i h).payload_is

  sized_within : ((i : ℕ) → i < count → well_sized words i ≡ true) → (steps i : ℕ) → i < steps → i < count → Sized (tree_of count words i)
  sized_within fit zero i s h = absurd (omega arith)
  sized_within fit (suc steps) i s h =
      let narrow = narrow_of_words (header_at words i) (payload_at words i) in
      rw (tree_is i h)
      (sized_tree words (tree_of count words) i (λ j b. seen j (omega arith)) (node_at words i) narrow (good i h).below
      (λ j b. sized_within fit steps j (omega arith) (omega arith)) (sym (as_node i h) ∙ fit i h))

  pub trees_sized : ((i : ℕ) → i < count → well_sized words i ≡ true) → (i : ℕ) → i < count → Sized (tree_of count words i)
  trees_sized fit i h = sized_within fit (suc i) i (omega arith) h

  pub well_sized_of_tree : (i : ℕ) → i < count → Sized (tree_of count words i) → well_sized words i ≡ true
  well_sized_of_tree i h e =
      as_node i h
      ∙ sized_node words (tree_of count words) i (λ j b. seen j (omega arith)) (node_at words i) (good i h).below (rw (tree_is i h) at e)
