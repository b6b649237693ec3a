-- What a walk over a tree leaves of a budget of nodes, under a limit on paths, from a node to its children. Assumes nothing.
use Rattle.std.specs.Prelude.{cond, List, ◌≡◌, refl, ℕ, ◌+◌, ◌-◌, ◌≤◌, ◌<◌, leb, Err, Ok}
use Rattle.std.proofs.Common.{sym, ◌∙◌, arith, le-leb, leb-true, leb-false}
use Rattle.std.proofs.lemmas.Bool.{lt-leb}
use Rattle.arena.specs.Live.{Live, tree_of}
use Rattle.arena.specs.LiveLaws.{tree_of_node}
use Rattle.format.specs.Limits.{max_path, max_unfolded}
use Rattle.format.specs.Truth.{either_knowing}
use Rattle.format.specs.declared.Bin.{Bin}
use Rattle.format.specs.declared.Node.{Node}
use Rattle.format.specs.declared.Un.{Un}
use Rattle.theory.specs.Falls.{path_positive}
use Rattle.tree.specs.Arena.{node_at, build}
use Rattle.tree.specs.Form.{limited}
use Rattle.tree.specs.Tree.{Tree, top, entry, const, bind, unary, binary, nodes, path}
use Rattle.tree.specs.declared.Refusal.{Refusal}

-- a budget less a tree's nodes; nothing where its longest path has more than `most`
abbrev pub left_over : Tree → (budget most : ℕ) → ℕ
left_over t budget most = cond (leb (path t) most) (budget - nodes t) 0

module _ (t : Tree) (budget most : ℕ) where
  short : path t ≤ most → left_over t budget most ≡ budget - nodes t
  short h = rw (le-leb (path t) most h)

  long : most < path t → left_over t budget most ≡ 0
  long h = rw (lt-leb (path t) most h)

  -- what holds of a tree of short paths and of another
  by_path : (Q : ℕ → Type 0) → (path t ≤ most → Q (budget - nodes t)) → (most < path t → Q 0) → Q (left_over t budget most)
  by_path Q q r = either_knowing Q (leb (path t) most) (λ e. q (leb-true (path t) most e)) (λ e. r (leb-false (path t) most e))

  pub no_budget : budget ≡ 0 → 0 ≡ left_over t budget most
  no_budget none = by_path (λ (x : ℕ). 0 ≡ x) (λ h. omega arith) (λ h. refl)

  -- every tree has a path
  pub no_path : most ≡ 0 → 0 ≡ left_over t budget most
  no_path none = sym (long (omega (arith, path_positive t)))

alone : (t : Tree) (budget most : ℕ) → (most ≡ 0 → ⊥) → nodes t ≡ 1 → path t ≡ 1 → budget - 1 ≡ left_over t budget most
alone t budget most some n p = rw (n, p, le-leb 1 most (omega arith))

-- a node is counted, and is on the path, before its children
module _ {words : List ℕ} {count i : ℕ} (live : Live words count) (below : i < count) (budget most : ℕ) (some : most ≡ 0 → ⊥) where
  abbrev tree : ℕ → Tree
  tree = tree_of count words

  pub over_leaf : (node : Node) → node_at words i ≡ node → ((op : Un) (s left : ℕ) → node ≡ Node.Unary op s left → ⊥) →
      ((op : Bin) (s left right : ℕ) → node ≡ Node.Binary op s left right → ⊥) → budget - 1 ≡ left_over (tree i) budget most
  over_leaf node e u b = rw (tree_of_node live i below node e) (by_node node u b)
    where
      by_node : (node : Node) → ((op : Un) (s left : ℕ) → node ≡ Node.Unary op s left → ⊥) →
          ((op : Bin) (s left right : ℕ) → node ≡ Node.Binary op s left right → ⊥) → budget - 1 ≡ left_over (build tree node) budget most
      by_node Node.Top u b = alone top budget most some refl refl
      by_node (Node.Entry s space offset) u b = alone (entry s space offset) budget most some refl refl
      by_node (Node.Const s v) u b = alone (const s v) budget most some refl refl
      by_node (Node.Bind s id) u b = alone (bind s id) budget most some refl refl
      by_node (Node.Unary op s left) u b = absurd (u op s left refl)
      by_node (Node.Binary op s left right) u b = absurd (b op s left right refl)

  pub over_one : (op : Un) (s left : ℕ) → node_at words i ≡ Node.Unary op s left →
      left_over (tree left) (budget - 1) (most - 1) ≡ left_over (tree i) budget most
  over_one op s left e =
      let t = unary op s (tree left) in
      rw (tree_of_node live i below _ e)
      (by_path (tree left) (budget - 1) (most - 1) (λ (x : ℕ). x ≡ left_over t budget most)
      (λ h. rw (short t budget most (omega arith)) (omega arith))
      (λ h. sym (long t budget most (omega arith))))

  pub over_two : (op : Bin) (s left right : ℕ) → node_at words i ≡ Node.Binary op s left right →
      (rest : ℕ) → rest ≡ left_over (tree left) (budget - 1) (most - 1) →
      left_over (tree right) rest (most - 1) ≡ left_over (tree i) budget most
  over_two op s left right e rest is =
      let t = binary op s (tree left) (tree right) in
      rw (tree_of_node live i below _ e, is)
      (by_path (tree left) (budget - 1) (most - 1) (λ (x : ℕ). left_over (tree right) x (most - 1) ≡ left_over t budget most)
      (λ h. by_path (tree right) (budget - 1 - nodes (tree left)) (most - 1) (λ (x : ℕ). x ≡ left_over t budget most)
      (λ h'. rw (short t budget most (omega arith)) (omega arith))
      (λ h'. sym (long t budget most (omega arith))))
      (λ h. sym (no_budget (tree right) 0 (most - 1) refl) ∙ sym (long t budget most (omega arith))))

-- a path is no longer than its tree
path_within : (t : Tree) → path t ≤ nodes t
path_within top = omega arith
path_within (entry s space offset) = omega arith
path_within (const s v) = omega arith
path_within (bind s id) = omega arith
path_within (unary op s a) = omega (arith, path_within a)
path_within (binary op s a b) = omega (arith, path_within a, path_within b)

-- with one more than the limit as the budget, something is left exactly where the limits are kept
module _ (t : Tree) where
  pub passed : 0 < left_over t (max_unfolded + 1) max_path → Ok tt ≡ limited t
  passed =
      by_path t (max_unfolded + 1) max_path (λ (x : ℕ). 0 < x → Ok tt ≡ limited t)
      (λ h some. rw (le-leb (nodes t) max_unfolded (omega arith), le-leb (path t) max_path h))
      (λ h some. absurd (omega arith))

  pub too_many : left_over t (max_unfolded + 1) (max_unfolded + 1) ≡ 0 → Err Refusal.TooManyNodes ≡ limited t
  too_many =
      by_path t (max_unfolded + 1) (max_unfolded + 1) (λ (x : ℕ). x ≡ 0 → Err Refusal.TooManyNodes ≡ limited t)
      (λ h none. rw (lt-leb (nodes t) max_unfolded (omega arith)))
      (λ h none. rw (lt-leb (nodes t) max_unfolded (omega (arith, path_within t))))

  pub too_long : left_over t (max_unfolded + 1) max_path ≤ 0 → (left_over t (max_unfolded + 1) (max_unfolded + 1) ≡ 0 → ⊥) →
      Err Refusal.PathTooLong ≡ limited t
  too_long =
      by_path t (max_unfolded + 1) (max_unfolded + 1)
      (λ (x : ℕ). left_over t (max_unfolded + 1) max_path ≤ 0 → (x ≡ 0 → ⊥) → Err Refusal.PathTooLong ≡ limited t)
      (λ h. by_path t (max_unfolded + 1) max_path
      (λ (x : ℕ). x ≤ 0 → (max_unfolded + 1 - nodes t ≡ 0 → ⊥) → Err Refusal.PathTooLong ≡ limited t)
      (λ h' none some. absurd (omega arith))
      (λ h' none some. rw (le-leb (nodes t) max_unfolded (omega arith), lt-leb (path t) max_path h')))
      (λ h none some. absurd (some refl))
