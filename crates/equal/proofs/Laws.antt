-- Two trees are equal exactly where their nodes are alike and their children's trees are equal. Assumes nothing.
use Rattle.std.specs.Prelude.{Bool, true, false, ◌&&◌, List, ◌≡◌, refl, ℕ, ◌<◌, eqb}
use Rattle.std.proofs.Common.{ap, ap₂, sym, ◌∙◌, arith, eq-eqb, eqb-true}
use Rattle.arena.specs.Live.{Live, tree_of}
use Rattle.arena.specs.LiveLaws.{tree_of_node, below_at}
use Rattle.equal.specs.Alike.{label_of, alike_at}
use Rattle.format.specs.Header.{kind_of, size_of, left_of, right_of, space_of}
use Rattle.format.proofs.KindRules.{un_number_known, bin_number_known}
use Rattle.format.specs.Kinds.{shape_of}
use Rattle.format.specs.Limits.{header_at, payload_at}
use Rattle.format.specs.Nodes.{node_of, shaped, header_of, payload_of, Narrow}
use Rattle.format.proofs.NodesOfWords.{narrow_of_words}
use Rattle.format.specs.Truth.{and_left, and_right, not_both}
use Rattle.format.specs.declared.Bin.{Bin}
use Rattle.format.specs.declared.Node.{Node}
use Rattle.format.specs.declared.Shape.{Shape}
use Rattle.format.specs.declared.Un.{Un}
use Rattle.tree.specs.Arena.{node_at, build, Below}
use Rattle.tree.specs.Tree.{Tree, top, entry, const, bind, unary, binary, same, same_yes, same_no, same_eq}

-- A TREE SHOWS ITS NODE'S LABEL AND PAYLOAD

-- a tree's node, without its children
abbrev root : Tree → Node
root top = Node.Top
root (entry size space offset) = Node.Entry size space offset
root (const size value) = Node.Const size value
root (bind size id) = Node.Bind size id
root (unary op size a) = Node.Unary op size 0
root (binary op size a b) = Node.Binary op size 0 0

module _ (tree : ℕ → Tree) where
  label_of_node : (node : Node) → Narrow node → header_of (root (build tree node)) ≡ label_of (header_of node)
  label_of_node (Node.Unary op size left) h = omega (arith, un_number_known op)
  label_of_node (Node.Binary op size left right) h = omega (arith, bin_number_known op)
  label_of_node _ h = omega arith

  payload_of_node : (node : Node) → payload_of (root (build tree node)) ≡ payload_of node
  payload_of_node Node.Top = refl
  payload_of_node _ = refl

-- NODES THAT DIFFER IN THEIR CHILDREN

-- a node with other children
abbrev pub over : (left right : ℕ) → Node → Node
over left right (Node.Unary op size _) = Node.Unary op size left
over left right (Node.Binary op size _ _) = Node.Binary op size left right
over left right node = node

-- equal labels have equal fields
record Agree (word word' : ℕ) : Type 0 where
  kind : kind_of word ≡ kind_of word'
  size : size_of word ≡ size_of word'
  space : space_of word ≡ space_of word'

agree : (word word' : ℕ) → label_of word ≡ label_of word' → Agree word word'
agree word word' e = omega arith

-- the node of a word that agrees has that word's children
over_own : (word word' payload : ℕ) → Agree word word' → (shape : Shape) →
    shaped shape word' payload ≡ over (left_of word') (right_of word') (shaped shape word payload)
over_own word word' payload agreed Shape.Top = refl
over_own word word' payload agreed Shape.Entry = rw (agreed.size, agreed.space)
over_own word word' payload agreed _ = rw agreed.size

-- `same` is any truth value that decides whether two trees are equal
same_by : (a b : Tree) (decided : Bool) → (a ≡ b → decided ≡ true) → (decided ≡ true → a ≡ b) → same a b ≡ decided
same_by a b true to from = same_yes a b (from refl)
same_by a b false to from = same_no a b (λ e. not_both (to e) refl)

module _ (tree : ℕ → Tree) (left' right' : ℕ) where
  -- whether the other children, as many as a node has, stand for the same trees
  abbrev pub same_children : Node → Bool
  same_children (Node.Unary op size left) = same (tree left) (tree left')
  same_children (Node.Binary op size left right) = same (tree left) (tree left') && same (tree right) (tree right')
  same_children _ = true

  same_over : (node : Node) → same (build tree node) (build tree (over left' right' node)) ≡ same_children node
  same_over (Node.Unary op size left) =
      same_by _ _ (same (tree left) (tree left')) (λ e. same_yes (tree left) (tree left') (cc))
      (λ e. cc (same_eq (tree left) (tree left') e))
  same_over (Node.Binary op size left right) =
      let lefts : Bool = same (tree left) (tree left') in
      let rights : Bool = same (tree right) (tree right') in
      same_by _ _ (lefts && rights)
      (λ e. rw (same_yes (tree left) (tree left') (cc), same_yes (tree right) (tree right') (cc)))
      (λ e. cc (
        same_eq (tree left) (tree left') (and_left lefts rights e),
        same_eq (tree right) (tree right') (and_right lefts rights e),
      ))
  same_over _ = same_yes _ _ refl

-- NODES OF A LIVE ARENA

module _ {words : List ℕ} {count : ℕ} (live : Live words count) where
  abbrev tree : ℕ → Tree
  tree = tree_of count words

  label_at : (i : ℕ) → i < count → header_of (root (tree i)) ≡ label_of (header_at words i)
  label_at i h =
      ap (λ (t : Tree). header_of (root t)) (tree_of_node live i h (node_at words i) refl)
      ∙ label_of_node tree (node_at words i) (narrow_of_words (header_at words i) (payload_at words i))
      ∙ ap label_of (live.good i h).header_is

  payload_shown : (i : ℕ) → i < count → payload_of (root (tree i)) ≡ payload_at words i
  payload_shown i h =
      ap (λ (t : Tree). payload_of (root t)) (tree_of_node live i h (node_at words i) refl)
      ∙ payload_of_node tree (node_at words i)
      ∙ (live.good i h).payload_is

  module _ (i j : ℕ) (hi : i < count) (hj : j < count) where
    equal_alike : tree i ≡ tree j → alike_at words i j ≡ true
    equal_alike e =
        let label = sym (label_at i hi) ∙ ap (λ (t : Tree). header_of (root t)) e ∙ label_at j hj in
        let payload = sym (payload_shown i hi) ∙ ap (λ (t : Tree). payload_of (root t)) e ∙ payload_shown j hj in
        rw (eq-eqb _ _ label, eq-eqb _ _ payload)

    -- node i with the children of node j
    abbrev other : Node
    other = over (left_of (header_at words j)) (right_of (header_at words j)) (node_at words i)

    -- is node j, where the two are alike
    node_j : alike_at words i j ≡ true → node_at words j ≡ other
    unfolding node_of
    node_j e =
        let labels : Bool = eqb (label_of (header_at words i)) (label_of (header_at words j)) in
        let payloads : Bool = eqb (payload_at words i) (payload_at words j) in
        let agreed = agree _ _ (eqb-true _ _ (and_left labels payloads e)) in
        let payload = eqb-true _ _ (and_right labels payloads e) in
        ap₂ (λ (kind p : ℕ). shaped (shape_of kind) (header_at words j) p) (sym agreed.kind) (sym payload)
        ∙ over_own (header_at words i) (header_at words j) (payload_at words i) agreed (shape_of (kind_of (header_at words i)))

    -- so its children lie below
    pub both_below : alike_at words i j ≡ true → Below i (node_at words i) × Below j other
    both_below e = (below_at live i hi (node_at words i) refl, below_at live j hj other (node_j e))

    pub one_below : {op : Un} {s left : ℕ} → node_at words i ≡ Node.Unary op s left → alike_at words i j ≡ true →
        (left < i) × (left_of (header_at words j) < j)
    one_below p e = rw p at both_below e

    pub two_below : {op : Bin} {s left right : ℕ} → node_at words i ≡ Node.Binary op s left right → alike_at words i j ≡ true →
        (left < i) × (right < i) × (left_of (header_at words j) < j) × (right_of (header_at words j) < j)
    two_below p e = let b = rw p at both_below e in (b.0.0, b.0.1, b.1.0, b.1.1)

    abbrev children : Bool
    children = same_children (tree_of count words) (left_of (header_at words j)) (right_of (header_at words j)) (node_at words i)

    pub same_at : same (tree_of count words i) (tree_of count words j) ≡ (alike_at words i j && children)
    same_at = go (alike_at words i j) refl
      where
        go : (a : Bool) → alike_at words i j ≡ a → same (tree i) (tree j) ≡ (a && children)
        go true e =
            ap₂ same (tree_of_node live i hi (node_at words i) refl) (tree_of_node live j hj other (node_j e))
            ∙ same_over tree (left_of (header_at words j)) (right_of (header_at words j)) (node_at words i)
        go false e = same_no _ _ (λ p. not_both (equal_alike p) e)
