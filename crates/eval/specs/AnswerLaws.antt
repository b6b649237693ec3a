-- A node's answer from its children's, and what their values are fit for. Assumes nothing.
use Rattle.std.specs.Prelude.{false, List, ◌≡◌, refl, ℕ, ◌<◌, Err, None, Ok, Option, Some, Result}
use Rattle.std.specs.Option.{ok_or}
use Rattle.std.proofs.Math.Path.{ap, ap₂}
use Rattle.std.proofs.Common.{sym, ◌∙◌, arith}
use Rattle.arena.specs.Live.{Live, tree_of, node_size}
use Rattle.arena.specs.LiveLaws.{live_ordered, in_arena, tree_of_node, below_at, size_at}
use Rattle.arith.specs.Operands.{Extension}
use Rattle.eval.specs.Answers.{answered, answer_at}
use Rattle.theory.specs.MissingLaws.{missing_eq}
use Rattle.theory.specs.RowLaws.{assigned_fitting}
use Rattle.values.specs.SizedOperands.{unary_operand, binary_operands}
use Rattle.format.specs.Limits.{header_at, payload_at}
use Rattle.format.specs.Nodes.{header_of, payload_of}
use Rattle.format.specs.Truth.{or_left, or_right}
use Rattle.format.specs.declared.Bin.{Bin}
use Rattle.format.specs.declared.Node.{Node}
use Rattle.format.specs.declared.Un.{Un}
use Rattle.tree.specs.Arena.{node_at, nodes_of, build}
use Rattle.tree.specs.ArenaLaws.{at-nodes_of}
use Rattle.tree.specs.Form.{bin_sizing, Sized}
use Rattle.tree.specs.Meaning.{un_value, bin_value, value}
use Rattle.tree.specs.Rows.{bad_row, found, or_zero, assigned, first_of, unless_found, missing_step, missing}
use Rattle.tree.specs.Tree.{Tree, size, has_top}
use Rattle.values.specs.Operands.{Fitting}

-- ANSWERS

-- an operator of a node of s bytes over its operand's answer, the left child having c bytes
abbrev pub over_one : Un → (s c : ℕ) → Result ℕ ℕ → Result ℕ ℕ
over_one op s c (Ok x) = Ok (un_value op s c x)
over_one op s c (Err j) = Err j

-- left before right
abbrev pub over_two : Bin → (s c : ℕ) → (left right : Result ℕ ℕ) → Result ℕ ℕ
over_two op s c (Ok x) (Ok y) = Ok (bin_value op s c x y)
over_two op s c (Ok x) (Err j) = Err j
over_two op s c (Err j) right = Err j

-- node i's, given its two words and its children's sizes and answers
abbrev pub answer_step : (rows : List ℕ) (word payload : ℕ) → (child_size : ℕ → ℕ) (answer : ℕ → Result ℕ ℕ) → ℕ → Node → Result ℕ ℕ
answer_step rows word payload child_size answer i Node.Top = Ok 0
answer_step rows word payload child_size answer i (Node.Entry s space offset) = ok_or (found rows word payload) i
answer_step rows word payload child_size answer i (Node.Const s v) = Ok v
answer_step rows word payload child_size answer i (Node.Bind s id) = ok_or (found rows word payload) i
answer_step rows word payload child_size answer i (Node.Unary op s left) = over_one op s (child_size left) (answer left)
answer_step rows word payload child_size answer i (Node.Binary op s left right) = over_two op s (child_size left) (answer left) (answer right)

-- what was found tells an input's answer
pub found_answer : (rows : List ℕ) (word payload i v : ℕ) → Some v ≡ found rows word payload → Ok v ≡ ok_or (found rows word payload) i
found_answer rows word payload i v e = rw (sym e)

pub nothing_answer : (rows : List ℕ) (word payload i : ℕ) → None ≡ found rows word payload → Err i ≡ ok_or (found rows word payload) i
nothing_answer rows word payload i e = rw (sym e)

answered_input : (i : ℕ) (row : Option ℕ) → answered (unless_found row i) (or_zero row) ≡ ok_or row i
answered_input i None = refl
answered_input i (Some v) = refl

answered_one : (op : Un) (s c : ℕ) (m : Option ℕ) (x : ℕ) → answered m (un_value op s c x) ≡ over_one op s c (answered m x)
answered_one op s c None x = refl
answered_one op s c (Some j) x = refl

answered_two : (op : Bin) (s c : ℕ) (m n : Option ℕ) (x y : ℕ) → answered (first_of m n) (bin_value op s c x y) ≡ over_two op s c (answered m x) (answered n y)
answered_two op s c None None x y = refl
answered_two op s c None (Some j) x y = refl
answered_two op s c (Some j) n x y = refl

module _ (rows : List ℕ) (tree : ℕ → Tree) (miss : ℕ → Option ℕ) where
  abbrev answer : ℕ → Result ℕ ℕ
  answer j = answered (miss j) (value (assigned rows) (tree j))

  answered_node : (i : ℕ) (node : Node) (word payload : ℕ) → header_of node ≡ word → payload_of node ≡ payload →
      answered (missing_step rows miss i node) (value (assigned rows) (build tree node)) ≡ answer_step rows word payload (λ j. size (tree j)) answer i node
  answered_node i Node.Top word payload h p = refl
  answered_node i (Node.Entry s space offset) word payload h p = rw (← h, ← p) (answered_input i (found rows (header_of (Node.Entry s space offset)) offset))
  answered_node i (Node.Const s v) word payload h p = refl
  answered_node i (Node.Bind s id) word payload h p = rw (← h, ← p) (answered_input i (found rows (header_of (Node.Bind s id)) id))
  answered_node i (Node.Unary op s left) word payload h p = answered_one op s (size (tree left)) (miss left) (value (assigned rows) (tree left))
  answered_node i (Node.Binary op s left right) word payload h p =
      answered_two op s (size (tree left)) (miss left) (miss right) (value (assigned rows) (tree left)) (value (assigned rows) (tree right))

-- an answer that is a value is the tree's
answered_ok : (m : Option ℕ) (v x : ℕ) → Ok x ≡ answered m v → v ≡ x
answered_ok None v x e = cc
answered_ok (Some i) v x e = let z : ◌≡◌ {A = ℕ} 0 1 = cc in absurd (omega arith)

-- only a Top, or a node with children, reaches one
pub leaf_topless : (tree : ℕ → Tree) (node : Node) → (node ≡ Node.Top → ⊥) → ((op : Un) (s left : ℕ) → node ≡ Node.Unary op s left → ⊥) →
    ((op : Bin) (s left right : ℕ) → node ≡ Node.Binary op s left right → ⊥) → false ≡ has_top (build tree node)
leaf_topless tree Node.Top t u b = absurd (t refl)
leaf_topless tree (Node.Entry s space offset) t u b = refl
leaf_topless tree (Node.Const s v) t u b = refl
leaf_topless tree (Node.Bind s id) t u b = refl
leaf_topless tree (Node.Unary op s left) t u b = absurd (u op s left refl)
leaf_topless tree (Node.Binary op s left right) t u b = absurd (b op s left right refl)

-- OF AN ARENA

module _ {words : List ℕ} {count i : ℕ} (live : Live words count) (below : i < count) (rows : List ℕ) where
  abbrev tree : ℕ → Tree
  tree = tree_of count words

  pub answer_of_node : (node : Node) → node_at words i ≡ node →
      answer_at words count rows i ≡ answer_step rows (header_at words i) (payload_at words i) (λ j. size (tree j)) (answer_at words count rows) i node
  unfolding answer_at
  answer_of_node node e =
      let arena = nodes_of count words in
      let good = live.good i below in
      ap₂ answered
      (missing_eq rows arena (live_ordered live) i (in_arena live i below)
      ∙ ap (missing_step rows (missing rows arena) i) (at-nodes_of count words i below ∙ e))
      (ap (value (assigned rows)) (tree_of_node live i below node e))
      ∙ answered_node rows tree (missing rows arena) i node (header_at words i) (payload_at words i)
      (ap header_of (sym e) ∙ good.header_is) (ap payload_of (sym e) ∙ good.payload_is)

  pub answer_one : (op : Un) (s left : ℕ) → node_at words i ≡ Node.Unary op s left →
      answer_at words count rows i ≡ over_one op s (node_size (node_at words left)) (answer_at words count rows left)
  answer_one op s left e =
      let b = below_at live i below _ e in
      answer_of_node _ e ∙ rw (size_at live left (omega arith))

  pub answer_two : (op : Bin) (s left right : ℕ) → node_at words i ≡ Node.Binary op s left right →
      answer_at words count rows i
      ≡ over_two op s (node_size (node_at words left)) (answer_at words count rows left) (answer_at words count rows right)
  answer_two op s left right e =
      let b = below_at live i below _ e in
      answer_of_node _ e ∙ rw (size_at live left (omega (arith, b.0)))

  -- the children of a node that no Top is reached from, where no row is bad
  module _ (good : bad_row rows ≡ None) (topless : has_top (tree i) ≡ false) where
    sized_node : (node : Node) → node_at words i ≡ node → Sized (build tree node)
    sized_node node e = rw (tree_of_node live i below node e) at (live.sized i below)

    topless_node : (node : Node) → node_at words i ≡ node → has_top (build tree node) ≡ false
    topless_node node e = ap has_top (sym (tree_of_node live i below node e)) ∙ topless

    module _ (op : Un) (s left : ℕ) (e : node_at words i ≡ Node.Unary op s left) where
      pub only_child : (left < i) × ((left < count) × (has_top (tree left) ≡ false))
      only_child = let b = below_at live i below _ e in (b, (omega arith, topless_node _ e))

      pub operand_fits : (x : ℕ) → Ok x ≡ answer_at words count rows left → Extension (node_size (node_at words left)) s x
      unfolding answer_at
      operand_fits x is =
          rw (size_at live left only_child.1.0, answered_ok (missing rows (nodes_of count words) left) _ x is) at
          (unary_operand (assigned rows) (assigned_fitting rows good) op s (tree left) (sized_node _ e) (topless_node _ e))

    module _ (op : Bin) (s left right : ℕ) (e : node_at words i ≡ Node.Binary op s left right) where
      pub left_child : (left < i) × ((left < count) × (has_top (tree left) ≡ false))
      left_child = let b = below_at live i below _ e in (b.0, (omega (arith, b.0), or_left _ _ (topless_node _ e)))

      pub right_child : (right < i) × ((right < count) × (has_top (tree right) ≡ false))
      right_child = let b = below_at live i below _ e in (b.1, (omega (arith, b.1), or_right (has_top (tree left)) _ (topless_node _ e)))

      pub operands_fit : (x y : ℕ) → Ok x ≡ answer_at words count rows left → Ok y ≡ answer_at words count rows right →
          Fitting (bin_sizing op) s (node_size (node_at words left)) x y
      unfolding answer_at
      operands_fit x y is is' =
          rw (
            size_at live left left_child.1.0,
            answered_ok (missing rows (nodes_of count words) left) _ x is,
            answered_ok (missing rows (nodes_of count words) right) _ y is',
          ) at
          (binary_operands (assigned rows) (assigned_fitting rows good) op s (tree left) (tree right) (sized_node _ e) (topless_node _ e))
