-- What a rule is called on, and what it leaves. Assumes nothing.
use Rattle.std.specs.Bool.{then_some}
use Rattle.std.specs.Prelude.{Bool, true, false, ◌&&◌, List, ◌≡◌, refl, ℕ, ◌<◌, eqb, Result, Ok, Err, Option}
use Rattle.std.proofs.Common.{sym}
use Rattle.acts.specs.Operated.{UnaryOver, BinaryOver}
use Rattle.arena.specs.Ended.{Ended, step_of}
use Rattle.arena.specs.Ends.{Ends}
use Rattle.arena.specs.Live.{Live, tree_of}
use Rattle.arena.specs.Step.{Step}
use Rattle.arena.specs.declared.Arena.{Arena}
use Rattle.arena.specs.declared.NoRoom.{NoRoom}
use Rattle.format.specs.declared.Bin.{Bin}
use Rattle.format.specs.declared.Node.{Node}
use Rattle.format.specs.declared.Un.{Un}
use Rattle.rules.specs.Rules.{bin_act, un_act}
use Rattle.rules.specs.Run.{Out, append, kept_as, unary_run, binary_run, weight, simplified}
use Rattle.rules.specs.declared.Act.{Act}
use Rattle.settle.specs.Chains.{two_unfinished, two_done, two_again, two_falls, two_redo_over_normal, one_unfinished, one_done, one_again, one_redo_falls, one_redo_over_normal}
use Rattle.settle.specs.Settled.{settled, kept_same}
use Rattle.settle.specs.declared.rule.One.{One}
use Rattle.settle.specs.declared.rule.Outcome.{Outcome}
use Rattle.settle.specs.declared.rule.Two.{Two}
use Rattle.theory.specs.Normal.{Normal}
use Rattle.theory.specs.Visits.{redoes, carried, OverNormal}
use Rattle.tree.specs.Arena.{node_at, nodes_of}
use Rattle.tree.specs.Tree.{unary, binary}

abbrev pub outcome_of : (again : Bool) → (root : ℕ) → Outcome
outcome_of true root = Outcome.Again root
outcome_of false root = Outcome.Done root

abbrev pub outcome_as : (again : Bool) → Result ℕ NoRoom → Result Outcome NoRoom
outcome_as again (Ok root) = Ok (outcome_of again root)
outcome_as again (Err none) = Err none

-- node i has the child j, which has become a, a simplified tree
pub record OneAt (words : List ℕ) (count i : ℕ) (op : Un) (s j a : ℕ) : Type 0 where
  pub below : i < count
  pub node_is : node_at words i ≡ Node.Unary op s j
  pub over : UnaryOver words count op s a
  pub normal : Normal (tree_of count words a)

-- node i has the children j and k, which have become a and b, simplified trees
pub record TwoAt (words : List ℕ) (count i : ℕ) (op : Bin) (s j k a b : ℕ) : Type 0 where
  pub below : i < count
  pub node_is : node_at words i ≡ Node.Binary op s j k
  pub over : BinaryOver words count op s a b
  pub left_normal : Normal (tree_of count words a)
  pub right_normal : Normal (tree_of count words b)

-- what the rule's action makes of the arena, short of simplifying again
abbrev pub one_part : List ℕ → (count i : ℕ) → Un → (s j a : ℕ) → Out
one_part words count i op s j a =
    let arena = nodes_of count words in
    carried (un_act op s (tree_of count words a)) (kept_as (eqb a j) i (Node.Unary op s a) arena) (append (Node.Unary op s a) arena) s arena a a

abbrev pub two_part : List ℕ → (count i : ℕ) → Bin → (s j k a b : ℕ) → Out
two_part words count i op s j k a b =
    let arena = nodes_of count words in
    carried (bin_act op s (tree_of count words a) (tree_of count words b)) (kept_as (eqb a j && eqb b k) i (Node.Binary op s a b) arena)
    (append (Node.Binary op s b a) arena) s arena a b

-- the whole rule
abbrev pub one_whole : List ℕ → (count i : ℕ) → Un → (s j a : ℕ) → Out
one_whole words count i op s j a = unary_run simplified false i op s j (nodes_of count words) a

abbrev pub two_whole : List ℕ → (count i : ℕ) → Bin → (s j k a b : ℕ) → Out
two_whole words count i op s j k a b = binary_run simplified false i op s j k (nodes_of count words) a b

-- what the rule has made of the words, of which the first m are nodes
abbrev pub OneRan : (words after : List ℕ) → (count m i : ℕ) → Un → (s j a : ℕ) → Result Outcome NoRoom → Type 0
OneRan words after count m i op s j a (Ok (Outcome.Done root)) =
    (redoes (un_act op s (tree_of count words a)) ≡ false) × Ended words after count (one_whole words count i op s j a) (Step.Done root m)
OneRan words after count m i op s j a (Ok (Outcome.Again root)) =
    (redoes (un_act op s (tree_of count words a)) ≡ true) × Ended words after count (one_part words count i op s j a) (Step.Done root m)
OneRan words after count m i op s j a (Err none) = Ended words after count (one_whole words count i op s j a) Step.NoRoom

abbrev pub TwoRan : (words after : List ℕ) → (count m i : ℕ) → Bin → (s j k a b : ℕ) → Result Outcome NoRoom → Type 0
TwoRan words after count m i op s j k a b (Ok (Outcome.Done root)) =
    (redoes (bin_act op s (tree_of count words a) (tree_of count words b)) ≡ false)
    × Ended words after count (two_whole words count i op s j k a b) (Step.Done root m)
TwoRan words after count m i op s j k a b (Ok (Outcome.Again root)) =
    (redoes (bin_act op s (tree_of count words a) (tree_of count words b)) ≡ true)
    × Ended words after count (two_part words count i op s j k a b) (Step.Done root m)
TwoRan words after count m i op s j k a b (Err none) = Ended words after count (two_whole words count i op s j k a b) Step.NoRoom

-- the same of an arena and a node of it
abbrev pub OneIn : Arena → One → (a : ℕ) → Type 0
OneIn arena node a = OneAt arena.words.now arena.count node.index node.op node.size node.left a

abbrev pub TwoIn : Arena → Two → (a b : ℕ) → Type 0
TwoIn arena node a b = TwoAt arena.words.now arena.count node.index node.op node.size node.left node.right a b

pub record OneRuns (old new : Arena) (node : One) (a : ℕ) (result : Result Outcome NoRoom) : Type 0 where
  pub same_reference : new.words.ghost_name ≡ old.words.ghost_name
  pub ran : OneRan old.words.now new.words.now old.count new.count node.index node.op node.size node.left a result

pub record TwoRuns (old new : Arena) (node : Two) (a b : ℕ) (result : Result Outcome NoRoom) : Type 0 where
  pub same_reference : new.words.ghost_name ≡ old.words.ghost_name
  pub ran : TwoRan old.words.now new.words.now old.count new.count node.index node.op node.size node.left node.right a b result

module _ {words : List ℕ} {count : ℕ} (live : Live words count) where
  module _ {i : ℕ} {op : Un} {s j a : ℕ} (at : OneAt words count i op s j a) where
    one_done_as : (after : List ℕ) (m root : ℕ) (again : Bool) → redoes (un_act op s (tree_of count words a)) ≡ again →
        Ended words after count (one_part words count i op s j a) (Step.Done root m) → OneRan words after count m i op s j a (Ok (outcome_of again root))
    one_done_as after m root true q h = (q, h)
    one_done_as after m root false q h =
        (q, one_done words count live i at.below op s j at.node_is a at.over.below (un_act op s (tree_of count words a)) refl (eqb a j) refl after (Step.Done root m) q h)

    one_ran_as : (after : List ℕ) (m : ℕ) (again : Bool) → redoes (un_act op s (tree_of count words a)) ≡ again → (root : Result ℕ NoRoom) →
        Ended words after count (one_part words count i op s j a) (step_of m root) → OneRan words after count m i op s j a (outcome_as again root)
    one_ran_as after m again q (Ok root) h = one_done_as after m root again q h
    one_ran_as after m again q (Err none) h =
        one_unfinished words count live i at.below op s j at.node_is a at.over.below (un_act op s (tree_of count words a)) refl (eqb a j) refl after h

    -- by what the code has decided
    pub one_ran : (after : List ℕ) (m : ℕ) (act : Act) (again kept : Bool) (root : Result ℕ NoRoom) → act ≡ un_act op s (tree_of count words a) → again ≡ redoes act → kept ≡ eqb a j →
        Ended words after count (carried act (kept_as kept i (Node.Unary op s a) (nodes_of count words)) (append (Node.Unary op s a) (nodes_of count words)) s (nodes_of count words) a a) (step_of m root) →
        OneRan words after count m i op s j a (outcome_as again root)
    one_ran after m act again kept root p q r h = one_ran_as after m again (rw (← p) (sym q)) root (rw (p, r) at h)

    pub one_again_ended : (mid after : List ℕ) (root n : ℕ) (step : Step) → OneRan words mid count n i op s j a (Ok (Outcome.Again root)) →
        Ended mid after n (simplified (nodes_of n mid) root) step → Ended words after count (one_whole words count i op s j a) step
    one_again_ended mid after root n step h g =
        one_again words count live i at.below op s j at.node_is a at.over.below (un_act op s (tree_of count words a)) refl (eqb a j) refl mid after root n step h.0 h.1 g

    pub one_again_falls : (mid : List ℕ) (root n : ℕ) → OneRan words mid count n i op s j a (Ok (Outcome.Again root)) →
        weight (tree_of n mid root) < weight (unary op s (tree_of count words a))
    one_again_falls mid root n h =
        one_redo_falls words count live i at.below op s j at.node_is a at.over.below (un_act op s (tree_of count words a)) refl (eqb a j) refl mid root n h.0 h.1

    pub one_again_over_normal : (mid : List ℕ) (root n : ℕ) → OneRan words mid count n i op s j a (Ok (Outcome.Again root)) → OverNormal (tree_of n mid root)
    one_again_over_normal mid root n h =
        one_redo_over_normal words count live i at.below op s j at.node_is a at.over.below (un_act op s (tree_of count words a)) refl (eqb a j) refl mid root n h.0 h.1
        at.normal

  module _ {i : ℕ} {op : Bin} {s j k a b : ℕ} (at : TwoAt words count i op s j k a b) where
    abbrev decided : Act
    decided = bin_act op s (tree_of count words a) (tree_of count words b)

    two_done_as : (after : List ℕ) (m root : ℕ) (again : Bool) → redoes decided ≡ again →
        Ended words after count (two_part words count i op s j k a b) (Step.Done root m) → TwoRan words after count m i op s j k a b (Ok (outcome_of again root))
    two_done_as after m root true q h = (q, h)
    two_done_as after m root false q h =
        (q, two_done words count live i at.below op s j k at.node_is a b at.over.left_below at.over.right_below decided refl (eqb a j && eqb b k) refl after (Step.Done root m) q h)

    two_ran_as : (after : List ℕ) (m : ℕ) (again : Bool) → redoes decided ≡ again → (root : Result ℕ NoRoom) →
        Ended words after count (two_part words count i op s j k a b) (step_of m root) → TwoRan words after count m i op s j k a b (outcome_as again root)
    two_ran_as after m again q (Ok root) h = two_done_as after m root again q h
    two_ran_as after m again q (Err none) h =
        two_unfinished words count live i at.below op s j k at.node_is a b at.over.left_below at.over.right_below decided refl (eqb a j && eqb b k) refl after h

    pub two_ran : (after : List ℕ) (m : ℕ) (act : Act) (again kept : Bool) (root : Result ℕ NoRoom) → act ≡ decided → again ≡ redoes act → kept ≡ (eqb a j && eqb b k) →
        Ended words after count (carried act (kept_as kept i (Node.Binary op s a b) (nodes_of count words)) (append (Node.Binary op s b a) (nodes_of count words)) s (nodes_of count words) a b) (step_of m root) →
        TwoRan words after count m i op s j k a b (outcome_as again root)
    two_ran after m act again kept root p q r h = two_ran_as after m again (rw (← p) (sym q)) root (rw (p, r) at h)

    pub two_again_ended : (mid after : List ℕ) (root n : ℕ) (step : Step) → TwoRan words mid count n i op s j k a b (Ok (Outcome.Again root)) →
        Ended mid after n (simplified (nodes_of n mid) root) step → Ended words after count (two_whole words count i op s j k a b) step
    two_again_ended mid after root n step h g =
        two_again words count live i at.below op s j k at.node_is a b at.over.left_below at.over.right_below decided refl (eqb a j && eqb b k) refl mid after root n step h.0 h.1 g

    pub two_again_falls : (mid : List ℕ) (root n : ℕ) → TwoRan words mid count n i op s j k a b (Ok (Outcome.Again root)) →
        weight (tree_of n mid root) < weight (binary op s (tree_of count words a) (tree_of count words b))
    two_again_falls mid root n h =
        two_falls words count live i at.below op s j k at.node_is a b at.over.left_below at.over.right_below decided refl (eqb a j && eqb b k) refl mid root n h.0 h.1

    pub two_again_over_normal : (mid : List ℕ) (root n : ℕ) → TwoRan words mid count n i op s j k a b (Ok (Outcome.Again root)) → OverNormal (tree_of n mid root)
    two_again_over_normal mid root n h =
        two_redo_over_normal words count live i at.below op s j k at.node_is a b at.over.left_below at.over.right_below decided refl (eqb a j && eqb b k) refl mid root n
        h.0 h.1 at.left_normal at.right_normal

-- THE RULE IN CODE: a decision, and the writer's run of it

pub one_runs : {old new : Arena} {node : One} {a : ℕ} → OneIn old node a → (act : Act) (again : Bool) (kept : Option ℕ) (root : Result ℕ NoRoom) →
    act ≡ un_act node.op node.size (tree_of old.count old.words.now a) → again ≡ redoes act → kept ≡ then_some (eqb a node.left) node.index →
    Ends old new (settled act kept (λ x y. Node.Unary node.op node.size x) node.size (nodes_of old.count old.words.now) a a) root →
    OneRuns old new node a (outcome_as again root)
one_runs {old} {new} {node} {a} at act again kept root p q r h =
    let same = eqb a node.left in
    let stays = kept_same same node.index (Node.Unary node.op node.size a) (nodes_of old.count old.words.now) in
    record { same_reference = h.same_reference; ran = one_ran old.live at new.words.now new.count act again same root p q refl (rw (r, stays) at h.ended) }

pub two_runs : {old new : Arena} {node : Two} {a b : ℕ} → TwoIn old node a b → (act : Act) (again : Bool) (kept : Option ℕ) (root : Result ℕ NoRoom) →
    act ≡ bin_act node.op node.size (tree_of old.count old.words.now a) (tree_of old.count old.words.now b) → again ≡ redoes act →
    kept ≡ then_some (eqb a node.left && eqb b node.right) node.index →
    Ends old new (settled act kept (Node.Binary node.op node.size) node.size (nodes_of old.count old.words.now) a b) root →
    TwoRuns old new node a b (outcome_as again root)
two_runs {old} {new} {node} {a} {b} at act again kept root p q r h =
    let same = eqb a node.left && eqb b node.right in
    let stays = kept_same same node.index (Node.Binary node.op node.size a b) (nodes_of old.count old.words.now) in
    record { same_reference = h.same_reference; ran = two_ran old.live at new.words.now new.count act again same root p q refl (rw (r, stays) at h.ended) }

-- without room it makes no difference whether a rule simplifies again
pub no_room_either : (again : Bool) (none : NoRoom) → outcome_as again (Err none) ≡ Err none
no_room_either again none = refl
