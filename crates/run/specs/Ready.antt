-- What is known of a node once its children are simplified, and what its visit then is. Assumes nothing.
use Rattle.std.specs.Prelude.{Bool, true, false, ◌||◌, List, ◌≡◌, refl, ℕ, ◌<◌, None}
use Rattle.std.proofs.Common.{ap, sym, ◌∙◌, arith}
use Rattle.arena.specs.Ended.{Ended}
use Rattle.arena.specs.Live.{Live, New, tree_of, node_is_top, node_is_leaf}
use Rattle.arena.specs.LiveLaws.{live_ordered, in_arena, top_at, tree_of_node}
use Rattle.arena.specs.Step.{Step}
use Rattle.arena.specs.declared.Arena.{Arena}
use Rattle.format.specs.Truth.{or_neither, not_both}
use Rattle.format.specs.declared.Bin.{Bin}
use Rattle.format.specs.declared.Node.{Node}
use Rattle.format.specs.declared.Un.{Un}
use Rattle.rules.specs.Run.{Out, out, unary_run, binary_run, weight, simplified}
use Rattle.settle.specs.Chains.{after_run, ended_here, unary_child, binary_children}
use Rattle.settle.specs.Visits.{OneAt, TwoAt}
use Rattle.settle.specs.declared.rule.One.{One}
use Rattle.settle.specs.declared.rule.Two.{Two}
use Rattle.theory.specs.Normal.{Normal, normal_top}
use Rattle.theory.proofs.Reduced.{reduced_normal, reduced_top}
use Rattle.theory.specs.Simulation.{run_on_normal}
use Rattle.theory.proofs.Simulation.{simplified_stands}
use Rattle.theory.specs.TreeRun.{reduced}
use Rattle.theory.proofs.Values.{over_reduced_one, over_reduced_two}
use Rattle.theory.specs.Visits.{OverNormal}
use Rattle.theory.proofs.Visits.{leaf_top, leaf_entry, leaf_const, leaf_bind}
use Rattle.tree.specs.Arena.{node_at, nodes_of}
use Rattle.tree.specs.ArenaLaws.{at-nodes_of, tree_stays}
use Rattle.tree.specs.Form.{Sized, sized, un_sizing, bin_sizing, size_seen}
use Rattle.tree.specs.Tree.{Tree, unary, binary, is_top, has_top}

-- node i has the child j, which has become a, a simplified tree: where that is not Top, the node over it is well sized
pub record OneReady (words : List ℕ) (count i : ℕ) (op : Un) (s j a : ℕ) : Type 0 where
  pub below : i < count
  pub node_is : node_at words i ≡ Node.Unary op s j
  pub child_below : a < count
  pub child_normal : Normal (tree_of count words a)
  pub sized_over : is_top (tree_of count words a) ≡ false → sized (un_sizing op) s 0 (size_seen (tree_of count words a)) None ≡ true

pub record TwoReady (words : List ℕ) (count i : ℕ) (op : Bin) (s j k a b : ℕ) : Type 0 where
  pub below : i < count
  pub node_is : node_at words i ≡ Node.Binary op s j k
  pub left_below : a < count
  pub right_below : b < count
  pub left_normal : Normal (tree_of count words a)
  pub right_normal : Normal (tree_of count words b)
  pub sized_over : is_top (tree_of count words a) ≡ false → is_top (tree_of count words b) ≡ false →
      sized (bin_sizing op) s 0 (size_seen (tree_of count words a)) (size_seen (tree_of count words b)) ≡ true

-- what the simplifying of a child may rely on: `ready` tells that it is simplified already
abbrev pub Ready : (ready : Bool) → Tree → Type 0
Ready true t = Normal t
Ready false t = Unit {0}

-- what a visit may rely on: `ready` tells that the node's children are simplified already
abbrev pub Prepared : (ready : Bool) → Tree → Type 0
Prepared true t = OverNormal t
Prepared false t = Unit {0}

-- the rest of the visit
abbrev pub after_one : List ℕ → (count i : ℕ) → Un → (s j a : ℕ) → Out
after_one words count i op s j a = unary_run simplified (is_top (tree_of count words a)) i op s j (nodes_of count words) a

abbrev pub after_two : List ℕ → (count i : ℕ) → Bin → (s j k a b : ℕ) → Out
after_two words count i op s j k a b =
    binary_run simplified (is_top (tree_of count words a) || is_top (tree_of count words b)) i op s j k (nodes_of count words) a b

-- THE SAME OF AN ARENA, and a node of it

abbrev pub tree_in : Arena → ℕ → Tree
tree_in arena i = tree_of arena.count arena.words.now i

abbrev pub simplified_in : Arena → ℕ → Out
simplified_in arena i = simplified (nodes_of arena.count arena.words.now) i

abbrev pub OneStands : Arena → One → Type 0
OneStands arena node = (node.index < arena.count) × (node_at arena.words.now node.index ≡ Node.Unary node.op node.size node.left)

abbrev pub TwoStands : Arena → Two → Type 0
TwoStands arena node = (node.index < arena.count) × (node_at arena.words.now node.index ≡ Node.Binary node.op node.size node.left node.right)

abbrev pub OneReadyIn : Arena → One → (a : ℕ) → Type 0
OneReadyIn arena node a = OneReady arena.words.now arena.count node.index node.op node.size node.left a

abbrev pub TwoReadyIn : Arena → Two → (a b : ℕ) → Type 0
TwoReadyIn arena node a b = TwoReady arena.words.now arena.count node.index node.op node.size node.left node.right a b

abbrev pub after_one_in : Arena → One → (a : ℕ) → Out
after_one_in arena node a = after_one arena.words.now arena.count node.index node.op node.size node.left a

abbrev pub after_two_in : Arena → Two → (a b : ℕ) → Out
after_two_in arena node a b = after_two arena.words.now arena.count node.index node.op node.size node.left node.right a b

pub new_top : (arena : List Node) → New arena Node.Top
new_top arena = record { below = tt; narrow = tt; sized = tt }

-- NOT TOP, so the rule may look

topless : (t : Tree) → Normal t → is_top t ≡ false → has_top t ≡ false
topless t p e = sym (normal_top t p) ∙ e

pub one_at : {words : List ℕ} {count i : ℕ} {op : Un} {s j a : ℕ} → OneReady words count i op s j a → is_top (tree_of count words a) ≡ false → OneAt words count i op s j a
one_at {words} {count} {i} {op} {s} {j} {a} r e = record {
  below = r.below;
  node_is = r.node_is;
  over = record { below = r.child_below; topless = topless (tree_of count words a) r.child_normal e; sized_over = r.sized_over e };
  normal = r.child_normal;
}

pub two_at : {words : List ℕ} {count i : ℕ} {op : Bin} {s j k a b : ℕ} → TwoReady words count i op s j k a b → is_top (tree_of count words a) ≡ false →
    is_top (tree_of count words b) ≡ false → TwoAt words count i op s j k a b
two_at {words} {count} {i} {op} {s} {j} {k} {a} {b} r e f = record {
  below = r.below;
  node_is = r.node_is;
  over = record {
    left_below = r.left_below;
    right_below = r.right_below;
    left_topless = topless (tree_of count words a) r.left_normal e;
    right_topless = topless (tree_of count words b) r.right_normal f;
    sized_over = r.sized_over e f;
  };
  left_normal = r.left_normal;
  right_normal = r.right_normal;
}

-- what the test of a node that was read tells of its tree
pub top_read : {words : List ℕ} {count : ℕ} → Live words count → (a : ℕ) → a < count → (node : Node) (test answer : Bool) → node ≡ node_at words a → test ≡ node_is_top node →
    test ≡ answer → is_top (tree_of count words a) ≡ answer
top_read live a h node test answer p q r = top_at live a h ∙ ap node_is_top (sym p) ∙ sym q ∙ r

-- THE CHILDREN ARE REDUCED TREES

module _ {words : List ℕ} {n : ℕ} (live : Live words n) (i : ℕ) (hi : i < n) where
  module _ (op : Un) (s j : ℕ) (e : node_at words i ≡ Node.Unary op s j) (mid : List ℕ) (a m : ℕ) (h : Ended words mid n (simplified (nodes_of n words) j) (Step.Done a m)) where
    child_is : tree_of m mid a ≡ reduced (tree_of n words j)
    child_is = rw (h.ran.nodes_are, h.ran.root_is) (simplified_stands (nodes_of n words) (live_ordered live) j (in_arena live j (unary_child live i hi op s j e).0)).is

    node_sized : Sized (unary op s (tree_of n words j))
    node_sized = rw (tree_of_node live i hi (Node.Unary op s j) e) at (live.sized i hi)

    free : is_top (tree_of m mid a) ≡ false → has_top (tree_of n words j) ≡ false
    free q = sym (reduced_top (tree_of n words j)) ∙ ap is_top (sym child_is) ∙ q

    pub one_ready : OneReady mid m i op s j a
    one_ready =
        let f = after_run live i j a m hi (unary_child live i hi op s j e).0 h in
        record {
          below = omega (arith, f.more);
          node_is = f.same_node ∙ e;
          child_below = f.below;
          child_normal = rw child_is (reduced_normal (tree_of n words j));
          sized_over = λ q. rw child_is (over_reduced_one op s (tree_of n words j) node_sized (free q)).0;
        }

  module _ (op : Bin) (s j k : ℕ) (e : node_at words i ≡ Node.Binary op s j k) (mid : List ℕ) (a m : ℕ) (h : Ended words mid n (simplified (nodes_of n words) j) (Step.Done a m)) where
    abbrev kids : (j < n) × (k < n) × (weight (tree_of n words j) < weight (tree_of n words i))
    kids = binary_children live i hi op s j k e

    -- the right child may be simplified
    pub right_child : Live mid m × (k < m)
    right_child =
        let f = after_run live i j a m hi kids.0 h in
        (f.live, omega (arith, f.more, kids.1))

    left_is : tree_of m mid a ≡ reduced (tree_of n words j)
    left_is = rw (h.ran.nodes_are, h.ran.root_is) (simplified_stands (nodes_of n words) (live_ordered live) j (in_arena live j kids.0)).is

    right_same : tree_of m mid k ≡ tree_of n words k
    right_same = rw h.ran.nodes_are (tree_stays (live_ordered live) (simplified_stands (nodes_of n words) (live_ordered live) j (in_arena live j kids.0)).extends (in_arena live k kids.1))

    module _ (late : List ℕ) (c p : ℕ) (g : Ended mid late m (simplified (nodes_of m mid) k) (Step.Done c p)) where
      right_is : tree_of p late c ≡ reduced (tree_of n words k)
      right_is =
          rw (g.ran.nodes_are, g.ran.root_is) (simplified_stands (nodes_of m mid) (live_ordered right_child.0) k (in_arena right_child.0 k right_child.1)).is ∙ ap reduced right_same

      left_stays : tree_of p late a ≡ reduced (tree_of n words j)
      left_stays =
          let f = after_run live i j a m hi kids.0 h in
          rw g.ran.nodes_are (tree_stays (live_ordered right_child.0) (simplified_stands (nodes_of m mid) (live_ordered right_child.0) k (in_arena right_child.0 k right_child.1)).extends (in_arena right_child.0 a f.below)) ∙ left_is

      both_sized : Sized (binary op s (tree_of n words j) (tree_of n words k))
      both_sized = rw (tree_of_node live i hi (Node.Binary op s j k) e) at (live.sized i hi)

      both_free : is_top (tree_of p late a) ≡ false → is_top (tree_of p late c) ≡ false → (has_top (tree_of n words j) || has_top (tree_of n words k)) ≡ false
      both_free q r =
          or_neither _ _ (sym (reduced_top (tree_of n words j)) ∙ ap is_top (sym left_stays) ∙ q) (sym (reduced_top (tree_of n words k)) ∙ ap is_top (sym right_is) ∙ r)

      pub two_ready : TwoReady late p i op s j k a c
      two_ready =
          let f = after_run live i j a m hi kids.0 h in
          let f' = after_run f.live i k c p (omega (arith, f.more)) right_child.1 g in
          record {
            below = omega (arith, f.more, f'.more);
            node_is = f'.same_node ∙ f.same_node ∙ e;
            left_below = omega (arith, f.below, f'.more);
            right_below = f'.below;
            left_normal = rw left_stays (reduced_normal (tree_of n words j));
            right_normal = rw right_is (reduced_normal (tree_of n words k));
            sized_over = λ q r. rw (left_stays, right_is) (over_reduced_two op s (tree_of n words j) (tree_of n words k) both_sized (both_free q r)).0;
          }

-- A LEAF IS ITSELF, and so is a tree that is simplified already

module _ {words : List ℕ} {n : ℕ} (live : Live words n) (i : ℕ) (hi : i < n) where
  here : simplified (nodes_of n words) i ≡ out (nodes_of n words) i → Ended words words n (simplified (nodes_of n words) i) (Step.Done i n)
  here e = rw e (ended_here live i hi)

  pub ended_leaf : (node : Node) → node_at words i ≡ node → node_is_leaf node ≡ true → Ended words words n (simplified (nodes_of n words) i) (Step.Done i n)
  ended_leaf Node.Top e l = here (leaf_top (nodes_of n words) (live_ordered live) i (in_arena live i hi) (at-nodes_of n words i hi ∙ e))
  ended_leaf (Node.Entry s sp o) e l = here (leaf_entry (nodes_of n words) (live_ordered live) i (in_arena live i hi) (at-nodes_of n words i hi ∙ e))
  ended_leaf (Node.Const s v) e l = here (leaf_const (nodes_of n words) (live_ordered live) i (in_arena live i hi) (at-nodes_of n words i hi ∙ e))
  ended_leaf (Node.Bind s d) e l = here (leaf_bind (nodes_of n words) (live_ordered live) i (in_arena live i hi) (at-nodes_of n words i hi ∙ e))
  ended_leaf (Node.Unary op s j) e l = absurd (not_both l refl)
  ended_leaf (Node.Binary op s j k) e l = absurd (not_both l refl)

  ended_normal : Normal (tree_of n words i) → Ended words words n (simplified (nodes_of n words) i) (Step.Done i n)
  ended_normal p = here (run_on_normal (nodes_of n words) (live_ordered live) (weight (tree_of n words i)) i (in_arena live i hi) p)

  pub child_is_itself : (ready leaf : Bool) → Ready ready (tree_of n words i) → leaf ≡ node_is_leaf (node_at words i) → (ready || leaf) ≡ true →
      Ended words words n (simplified (nodes_of n words) i) (Step.Done i n)
  child_is_itself true leaf p e t = ended_normal p
  child_is_itself false leaf p e t = ended_leaf (node_at words i) refl (sym e ∙ t)

-- the children of a node whose visit may rely on them
module _ {words : List ℕ} {n : ℕ} (live : Live words n) (i : ℕ) (hi : i < n) where
  pub one_child_ready : (op : Un) (s j : ℕ) → node_at words i ≡ Node.Unary op s j → (ready : Bool) → Prepared ready (tree_of n words i) → Ready ready (tree_of n words j)
  one_child_ready op s j e true p = rw (tree_of_node live i hi (Node.Unary op s j) e) at p
  one_child_ready op s j e false p = tt

  module _ (op : Bin) (s j k : ℕ) (e : node_at words i ≡ Node.Binary op s j k) where
    pub left_child_ready : (ready : Bool) → Prepared ready (tree_of n words i) → Ready ready (tree_of n words j)
    left_child_ready true p = (rw (tree_of_node live i hi (Node.Binary op s j k) e) at p).0
    left_child_ready false p = tt

    pub right_child_ready : (mid : List ℕ) (a m : ℕ) → Ended words mid n (simplified (nodes_of n words) j) (Step.Done a m) → (ready : Bool) → Prepared ready (tree_of n words i) →
        Ready ready (tree_of m mid k)
    right_child_ready mid a m h true p =
        rw (right_same live i hi op s j k e mid a m h) (rw (tree_of_node live i hi (Node.Binary op s j k) e) at p).1
    right_child_ready mid a m h false p = tt
