-- A node's visit and its rule, put together from the calls that they are made of. Assumes nothing.
use Rattle.std.specs.Prelude.{Bool, true, false, ◌||◌, ◌≡◌, refl, ℕ, ◌≤◌, ◌<◌, Result, Ok, Err}
use Rattle.std.proofs.Common.{sym, ◌∙◌}
use Rattle.arena.specs.Ended.{step_of}
use Rattle.arena.specs.Ends.{Ends}
use Rattle.arena.specs.Live.{node_is_leaf}
use Rattle.arena.specs.declared.Arena.{Arena}
use Rattle.arena.specs.declared.NoRoom.{NoRoom}
use Rattle.format.specs.Truth.{or_left, or_right}
use Rattle.format.specs.declared.Bin.{Bin}
use Rattle.format.specs.declared.Node.{Node}
use Rattle.format.specs.declared.Un.{Un}
use Rattle.rules.specs.Run.{weight}
use Rattle.run.specs.Ready.{tree_in, simplified_in, OneStands, TwoStands, OneReadyIn, TwoReadyIn, Ready, Prepared, after_one_in, after_two_in, one_at, two_at, one_ready, right_child, two_ready, ended_leaf, child_is_itself, one_child_ready, left_child_ready, right_child_ready}
use Rattle.settle.specs.Chains.{unary_child, unary_lighter, unary_unfinished, unary_ended, binary_children, right_lighter, binary_lighter, left_unfinished, right_unfinished, binary_ended}
use Rattle.settle.specs.Visits.{OneRuns, TwoRuns, one_again_ended, one_again_falls, one_again_over_normal, two_again_ended, two_again_falls, two_again_over_normal}
use Rattle.settle.specs.declared.rule.One.{One}
use Rattle.settle.specs.declared.rule.Outcome.{Outcome}
use Rattle.settle.specs.declared.rule.Two.{Two}
use Rattle.tree.specs.Arena.{node_at}
use Rattle.tree.specs.Tree.{unary, binary, is_top}

-- A LEAF IS ITSELF, and so is a tree that is simplified already

-- a node of no operator is a leaf
leaf_otherwise : (node : Node) → ((op : Un) (s j : ℕ) → node ≡ Node.Unary op s j → ⊥) → ((op : Bin) (s j k : ℕ) → node ≡ Node.Binary op s j k → ⊥) → node_is_leaf node ≡ true
leaf_otherwise Node.Top p q = refl
leaf_otherwise (Node.Entry s sp o) p q = refl
leaf_otherwise (Node.Const s v) p q = refl
leaf_otherwise (Node.Bind s d) p q = refl
leaf_otherwise (Node.Unary op s j) p q = absurd (p op s j refl)
leaf_otherwise (Node.Binary op s j k) p q = absurd (q op s j k refl)

pub leaf_ends : (arena : Arena) (i : ℕ) → i < arena.count → (node : Node) → node ≡ node_at arena.words.now i → ((op : Un) (s j : ℕ) → node ≡ Node.Unary op s j → ⊥) →
    ((op : Bin) (s j k : ℕ) → node ≡ Node.Binary op s j k → ⊥) → Ends arena arena (simplified_in arena i) (Ok i)
leaf_ends arena i h node e p q = record { same_reference = refl; ended = ended_leaf arena.live i h node (sym e) (leaf_otherwise node p q) }

pub child_ends : (arena : Arena) (i : ℕ) → i < arena.count → (ready : Bool) → Ready ready (tree_in arena i) → (leaf : Bool) → leaf ≡ node_is_leaf (node_at arena.words.now i) →
    (ready || leaf) ≡ true → Ends arena arena (simplified_in arena i) (Ok i)
child_ends arena i h ready p leaf e t = record { same_reference = refl; ended = child_is_itself arena.live i h ready leaf p e t }

-- A NODE OF ONE CHILD: its child first, then what comes after it

pub one_child : (old : Arena) (node : One) → OneStands old node → (ready : Bool) → Prepared ready (tree_in old node.index) →
    (weight (tree_in old node.left) < weight (tree_in old node.index)) × (node.left < old.count) × Ready ready (tree_in old node.left)
one_child old node at ready p =
    let child = unary_child old.live node.index at.0 node.op node.size node.left at.1 in
    (child.1, child.0, one_child_ready old.live node.index at.0 node.op node.size node.left at.1 ready p)

module _ {old : Arena} {node : One} (at : OneStands old node) where
  pub one_stops : {mid : Arena} {none : NoRoom} → Ends old mid (simplified_in old node.left) (Err none) → Ends old mid (simplified_in old node.index) (Err none)
  one_stops {mid} h = record {
    same_reference = h.same_reference;
    ended = unary_unfinished old.live node.index at.0 node.op node.size node.left at.1 mid.words.now h.ended;
  }

  module _ {mid : Arena} {a : ℕ} (h : Ends old mid (simplified_in old node.left) (Ok a)) where
    pub one_next : (weight (unary node.op node.size (tree_in mid a)) ≤ weight (tree_in old node.index)) × OneReadyIn mid node a
    one_next = (
      unary_lighter old.live node.index at.0 node.op node.size node.left at.1 mid.words.now a mid.count h.ended,
      one_ready old.live node.index at.0 node.op node.size node.left at.1 mid.words.now a mid.count h.ended,
    )

    pub one_ends : {new : Arena} {root : Result ℕ NoRoom} → Ends mid new (after_one_in mid node a) root → Ends old new (simplified_in old node.index) root
    one_ends {new} {root} g = record {
      same_reference = g.same_reference ∙ h.same_reference;
      ended =
          unary_ended old.live node.index at.0 node.op node.size node.left at.1 mid.words.now a mid.count h.ended
          new.words.now (step_of new.count root) (is_top (tree_in mid a)) refl g.ended;
    }

-- A NODE OF TWO CHILDREN: the left one, the right one, then what comes after them

pub left_child : (old : Arena) (node : Two) → TwoStands old node → (ready : Bool) → Prepared ready (tree_in old node.index) →
    (weight (tree_in old node.left) < weight (tree_in old node.index)) × (node.left < old.count) × Ready ready (tree_in old node.left)
left_child old node at ready p =
    let children = binary_children old.live node.index at.0 node.op node.size node.left node.right at.1 in
    (children.2, children.0, left_child_ready old.live node.index at.0 node.op node.size node.left node.right at.1 ready p)

module _ {old : Arena} {node : Two} (at : TwoStands old node) where
  pub left_stops : {mid : Arena} {none : NoRoom} → Ends old mid (simplified_in old node.left) (Err none) → Ends old mid (simplified_in old node.index) (Err none)
  left_stops {mid} h = record {
    same_reference = h.same_reference;
    ended = left_unfinished old.live node.index at.0 node.op node.size node.left node.right at.1 mid.words.now h.ended;
  }

  module _ {mid : Arena} {a : ℕ} (h : Ends old mid (simplified_in old node.left) (Ok a)) where
    pub right_child_in : (ready : Bool) → Prepared ready (tree_in old node.index) →
        (weight (tree_in mid node.right) < weight (tree_in old node.index)) × (node.right < mid.count) × Ready ready (tree_in mid node.right)
    right_child_in ready p = (
      right_lighter old.live node.index at.0 node.op node.size node.left node.right at.1 mid.words.now a mid.count h.ended,
      (right_child old.live node.index at.0 node.op node.size node.left node.right at.1 mid.words.now a mid.count h.ended).1,
      right_child_ready old.live node.index at.0 node.op node.size node.left node.right at.1 mid.words.now a mid.count h.ended ready p,
    )

    pub right_stops : {late : Arena} {none : NoRoom} → Ends mid late (simplified_in mid node.right) (Err none) → Ends old late (simplified_in old node.index) (Err none)
    right_stops {late} g = record {
      same_reference = g.same_reference ∙ h.same_reference;
      ended =
          right_unfinished old.live node.index at.0 node.op node.size node.left node.right at.1 mid.words.now a mid.count h.ended
          late.words.now g.ended;
    }

    module _ {late : Arena} {b : ℕ} (g : Ends mid late (simplified_in mid node.right) (Ok b)) where
      pub two_next : (weight (binary node.op node.size (tree_in late a) (tree_in late b)) ≤ weight (tree_in old node.index)) × TwoReadyIn late node a b
      two_next = (
        binary_lighter old.live node.index at.0 node.op node.size node.left node.right at.1 mid.words.now a mid.count h.ended
            late.words.now b late.count g.ended,
        two_ready old.live node.index at.0 node.op node.size node.left node.right at.1 mid.words.now a mid.count h.ended
            late.words.now b late.count g.ended,
      )

      pub two_ends : {new : Arena} {root : Result ℕ NoRoom} → Ends late new (after_two_in late node a b) root → Ends old new (simplified_in old node.index) root
      two_ends {new} {root} r = record {
        same_reference = r.same_reference ∙ g.same_reference ∙ h.same_reference;
        ended =
            binary_ended old.live node.index at.0 node.op node.size node.left node.right at.1 mid.words.now a mid.count h.ended
            late.words.now b late.count g.ended new.words.now (step_of new.count root) (is_top (tree_in late a) || is_top (tree_in late b)) refl r.ended;
      }

-- A RULE: what it rebuilds is simplified again

module _ {old : Arena} {node : One} {a : ℕ} (ready : OneReadyIn old node a) (topless : is_top (tree_in old a) ≡ false) {mid : Arena} where
  module _ {root : ℕ} (h : OneRuns old mid node a (Ok (Outcome.Again root))) where
    pub one_rebuilt : (weight (tree_in mid root) < weight (unary node.op node.size (tree_in old a))) × (root < mid.count) × Prepared true (tree_in mid root)
    one_rebuilt =
        let at = one_at ready topless in (
          one_again_falls old.live at mid.words.now root mid.count h.ran,
          h.ran.1.ran.root_below,
          one_again_over_normal old.live at mid.words.now root mid.count h.ran,
        )

    pub one_again_ends : {new : Arena} {end : Result ℕ NoRoom} → Ends mid new (simplified_in mid root) end → Ends old new (after_one_in old node a) end
    one_again_ends {new} {end} g = record {
      same_reference = g.same_reference ∙ h.same_reference;
      ended =
          rw topless
          (one_again_ended old.live (one_at ready topless) mid.words.now new.words.now root mid.count (step_of new.count end) h.ran g.ended);
    }

module _ {old : Arena} {node : Two} {a b : ℕ} (ready : TwoReadyIn old node a b) (topless : (is_top (tree_in old a) || is_top (tree_in old b)) ≡ false) {mid : Arena} where
  module _ {root : ℕ} (h : TwoRuns old mid node a b (Ok (Outcome.Again root))) where
    pub two_rebuilt : (weight (tree_in mid root) < weight (binary node.op node.size (tree_in old a) (tree_in old b))) × (root < mid.count) × Prepared true (tree_in mid root)
    two_rebuilt =
        let at = two_at ready (or_left _ _ topless) (or_right _ _ topless) in (
          two_again_falls old.live at mid.words.now root mid.count h.ran,
          h.ran.1.ran.root_below,
          two_again_over_normal old.live at mid.words.now root mid.count h.ran,
        )

    pub two_again_ends : {new : Arena} {end : Result ℕ NoRoom} → Ends mid new (simplified_in mid root) end → Ends old new (after_two_in old node a b) end
    two_again_ends {new} {end} g = record {
      same_reference = g.same_reference ∙ h.same_reference;
      ended =
          rw topless
          (two_again_ended old.live (two_at ready (or_left _ _ topless) (or_right _ _ topless)) mid.words.now new.words.now root mid.count (step_of new.count end) h.ran g.ended);
    }
