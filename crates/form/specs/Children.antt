-- What a tree's nodes and paths are by its node's children, and what a walk from the node leaves by the walks from them. Assumes nothing.
use Rattle.std.specs.Prelude.{Err, Ok, ◌≤◌, true, ◌≡◌, List, ℕ, suc, ◌+◌, ◌-◌, ◌<◌, max, refl}
use Rattle.std.proofs.Common.{ap, ◌∙◌, arith, le-leb}
use Rattle.std.proofs.lemmas.Bool.{lt-leb}
use Rattle.arena.specs.Live.{Live, tree_of}
use Rattle.arena.specs.LiveLaws.{tree_of_node, below_at}
use Rattle.form.specs.Paths.{left_over, no_budget, no_path, over_leaf, over_one, over_two, some_left, none_left}
use Rattle.format.specs.Limits.{max_path, max_unfolded}
use Rattle.format.specs.Nodes.{node_is_leaf}
use Rattle.format.specs.Truth.{not_both}
use Rattle.format.specs.declared.Bin.{Bin}
use Rattle.format.specs.declared.Node.{Node}
use Rattle.format.specs.declared.Un.{Un}
use Rattle.theory.specs.Falls.{path_positive}
use Rattle.tree.specs.Arena.{node_at, build, Below}
use Rattle.tree.specs.Form.{limited}
use Rattle.tree.specs.Tree.{Tree, nodes, path}
use Rattle.tree.specs.declared.Refusal.{Refusal}

-- the nodes and the longest path over a node's children's trees
abbrev pub nodes_over : (ℕ → Tree) → Node → ℕ
nodes_over tree (Node.Unary op size left) = suc (nodes (tree left))
nodes_over tree (Node.Binary op size left right) = suc (nodes (tree left) + nodes (tree right))
nodes_over tree _ = 1

abbrev pub path_over : (ℕ → Tree) → Node → ℕ
path_over tree (Node.Unary op size left) = suc (path (tree left))
path_over tree (Node.Binary op size left right) = suc (max (path (tree left)) (path (tree right)))
path_over tree _ = 1

module _ (tree : ℕ → Tree) where
  nodes_of_build : (node : Node) → nodes (build tree node) ≡ nodes_over tree node
  nodes_of_build Node.Top = refl
  nodes_of_build _ = refl

  path_of_build : (node : Node) → path (build tree node) ≡ path_over tree node
  path_of_build Node.Top = refl
  path_of_build _ = refl

  leaf_alone : (node : Node) → node_is_leaf node ≡ true → (nodes_over tree node ≡ 1) × (path_over tree node ≡ 1)
  leaf_alone (Node.Unary op size left) l = absurd (not_both l refl)
  leaf_alone (Node.Binary op size left right) l = absurd (not_both l refl)
  leaf_alone Node.Top l = (refl, refl)
  leaf_alone _ l = (refl, refl)

-- a node that has no one child and no two
leaf_of_other : (node : Node) → ((op : Un) (s left : ℕ) → node ≡ Node.Unary op s left → ⊥) →
    ((op : Bin) (s left right : ℕ) → node ≡ Node.Binary op s left right → ⊥) → node_is_leaf node ≡ true
leaf_of_other (Node.Unary op s left) u b = absurd (u op s left refl)
leaf_of_other (Node.Binary op s left right) u b = absurd (b op s left right refl)
leaf_of_other Node.Top u b = refl
leaf_of_other _ u b = refl

pub nothing_left : (budget : ℕ) → budget ≡ 0 → (t : Tree) → 0 ≡ budget - nodes t
nothing_left budget none t = omega arith

pub no_budget_left : (budget most : ℕ) → budget ≡ 0 → (t : Tree) → 0 ≡ left_over (nodes t) (path t) budget most
no_budget_left budget most none t = no_budget (nodes t) (path t) budget most none

-- every tree has a path
pub no_path_left : (budget most : ℕ) → most ≡ 0 → (t : Tree) → 0 ≡ left_over (nodes t) (path t) budget most
no_path_left budget most none t = no_path (nodes t) (path t) budget most none (path_positive t)

module _ {words : List ℕ} {count i : ℕ} (live : Live words count) (below : i < count) where
  abbrev tree : ℕ → Tree
  tree = tree_of count words

  -- what a walk from node i asks of the walk from a child
  pub down : {child steps : ℕ} → i ≡ steps → child < i → (child < steps) × (child < count)
  down measure under = (omega arith, omega (arith, below))

  -- the node that was read
  module _ (node : Node) (read : node_at words i ≡ node) where
    pub nodes_at : nodes (tree i) ≡ nodes_over tree node
    nodes_at = ap nodes (tree_of_node live i below node read) ∙ nodes_of_build tree node

    pub path_at : path (tree i) ≡ path_over tree node
    path_at = ap path (tree_of_node live i below node read) ∙ path_of_build tree node

    pub children_below : Below i node
    children_below = below_at live i below node read

  -- a node is spent before its children
  module _ (budget : ℕ) where
    pub spend_leaf : (node : Node) → node_at words i ≡ node → node_is_leaf node ≡ true → budget - 1 ≡ budget - nodes (tree i)
    spend_leaf node e l = rw (nodes_at node e, (leaf_alone tree node l).0)

    pub spend_other : (node : Node) → node_at words i ≡ node → ((op : Un) (s left : ℕ) → node ≡ Node.Unary op s left → ⊥) →
        ((op : Bin) (s left right : ℕ) → node ≡ Node.Binary op s left right → ⊥) → budget - 1 ≡ budget - nodes (tree i)
    spend_other node e u b = spend_leaf node e (leaf_of_other node u b)

    pub spend_one : (op : Un) (s left : ℕ) → node_at words i ≡ Node.Unary op s left → budget - 1 - nodes (tree left) ≡ budget - nodes (tree i)
    spend_one op s left e = rw (nodes_at _ e) (omega arith)

    pub spend_two : (op : Bin) (s left right rest : ℕ) → node_at words i ≡ Node.Binary op s left right → rest ≡ budget - 1 - nodes (tree left) →
        rest - nodes (tree right) ≡ budget - nodes (tree i)
    spend_two op s left right rest e r = rw (nodes_at _ e) (omega arith)

  -- and each path goes through it
  module _ (budget most : ℕ) (some : most ≡ 0 → ⊥) where
    pub over_at_leaf : (node : Node) → node_at words i ≡ node → node_is_leaf node ≡ true →
        budget - 1 ≡ left_over (nodes (tree i)) (path (tree i)) budget most
    over_at_leaf node e l = rw (nodes_at node e, path_at node e, (leaf_alone tree node l).0, (leaf_alone tree node l).1) (over_leaf budget most some)

    pub over_at_one : (op : Un) (s left over : ℕ) → node_at words i ≡ Node.Unary op s left →
        over ≡ left_over (nodes (tree left)) (path (tree left)) (budget - 1) (most - 1) →
        over ≡ left_over (nodes (tree i)) (path (tree i)) budget most
    over_at_one op s left over e r = rw (r, nodes_at _ e, path_at _ e) (over_one budget most some (nodes (tree left)) (path (tree left)))

    pub over_at_two : (op : Bin) (s left right rest over : ℕ) → node_at words i ≡ Node.Binary op s left right →
        rest ≡ left_over (nodes (tree left)) (path (tree left)) (budget - 1) (most - 1) →
        over ≡ left_over (nodes (tree right)) (path (tree right)) rest (most - 1) →
        over ≡ left_over (nodes (tree i)) (path (tree i)) budget most
    over_at_two op s left right rest over e r q =
        rw (q, nodes_at _ e, path_at _ e)
        (over_two budget most some (nodes (tree left)) (path (tree left)) (nodes (tree right)) (path (tree right)) rest r)

-- the limits, by what a walk that counts nodes alone and one that looks at paths too leave
module _ (t : Tree) where
  pub too_many_spent : (spent : ℕ) → spent ≡ max_unfolded + 1 - nodes t → spent ≡ 0 → Err Refusal.TooManyNodes ≡ limited t
  too_many_spent spent is none = rw (lt-leb (nodes t) max_unfolded (omega arith))

  module _ (rest : ℕ) (over : rest ≡ left_over (nodes t) (path t) (max_unfolded + 1) max_path) where
    pub passed_over : 0 < rest → Ok tt ≡ limited t
    passed_over some =
        let kept = some_left (nodes t) (path t) max_unfolded max_path (rw over at some) in
        rw (le-leb (nodes t) max_unfolded kept.0, le-leb (path t) max_path kept.1)

    pub too_long_over : rest ≤ 0 → (spent : ℕ) → spent ≡ max_unfolded + 1 - nodes t → (spent ≡ 0 → ⊥) → Err Refusal.PathTooLong ≡ limited t
    too_long_over none spent is some =
        let few : nodes t ≤ max_unfolded = omega arith in
        let long = none_left (nodes t) (path t) max_unfolded max_path (rw over at none) few in
        rw (le-leb (nodes t) max_unfolded few, lt-leb (path t) max_path long)
