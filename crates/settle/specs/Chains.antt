-- A visit of the code, put together from the calls that it is made of. Assumes nothing.
use Rattle.std.specs.Prelude.{Bool, true, false, ◌&&◌, ◌||◌, List, [], ◌∷◌, ◌++◌, ◌≡◌, refl, ℕ, ◌+◌, ◌*◌, ◌≤◌, ◌<◌, eqb, length, get_or}
use Rattle.std.proofs.Common.{ap, ap₂, sym, ◌∙◌, le_refl, arith}
use Rattle.arena.specs.Ended.{Did, Ran, Ended}
use Rattle.arena.specs.Live.{Live, tree_of}
use Rattle.arena.specs.LiveLaws.{in_arena, live_ordered}
use Rattle.arena.specs.Step.{Step}
use Rattle.format.specs.Limits.{node_words}
use Rattle.format.specs.Nodes.{node_of}
use Rattle.format.specs.declared.Bin.{Bin}
use Rattle.format.specs.declared.Node.{Node}
use Rattle.format.specs.declared.Un.{Un}
use Rattle.rules.specs.Rules.{bin_act, un_act}
use Rattle.rules.specs.Run.{Out, out, append, make_const, acted, kept_as, unary_run, binary_run, weight, simplified}
use Rattle.rules.specs.declared.Act.{Act}
use Rattle.theory.specs.Normal.{Normal}
use Rattle.theory.specs.Simulation.{Stands}
use Rattle.theory.proofs.Simulation.{simplified_stands}
use Rattle.theory.specs.TreeRun.{acted_tree}
use Rattle.theory.specs.Visits.{redoes, carried, OverNormal, redone, not_redone, one_falls, left_falls}
use Rattle.theory.proofs.Visits.{one_below, one_eq, one_grows, one_lighter, two_below, two_eq, left_grows, right_grows, right_falls, two_lighter, carried_two, carried_two_stands, carried_two_lighter, carried_two_over_normal, carried_one, carried_one_stands, carried_one_lighter, carried_one_over_normal}
use Rattle.tree.specs.Arena.{node_at, nodes_of, at}
use Rattle.tree.specs.ArenaLaws.{length-nodes_of, at-nodes_of, length_appended}
use Rattle.tree.specs.Tree.{Tree, unary, binary, is_top}

-- how many nodes a call that was done has left
pub did_length : {words after : List ℕ} {o : Out} {root m : ℕ} → Did words after o root m → length o.arena ≡ m
did_length {words} {after} {o} {root} {m} d = sym (ap length d.nodes_are) ∙ length-nodes_of m after

-- ONE CALL AFTER ANOTHER

chained_ran : (words mid after : List ℕ) (m : ℕ) (p : Out) (x : Step) → length mid ≡ length words →
    ((k : ℕ) → node_words * m ≤ k → get_or mid k 0 ≡ get_or words k 0) → m ≤ length p.arena → Ran mid after p x → Ran words after p x
chained_ran words mid after m p (Step.Done r n) e later h d =
    let q = did_length d in
    record { live = d.live; nodes_are = d.nodes_are; root_is = d.root_is; root_below = d.root_below; later = λ k z. d.later k z ∙ later k (omega arith) }
chained_ran words mid after m p Step.NoRoom e later h d = rw e at d

pub chained : (words mid after : List ℕ) (n r m : ℕ) (o p : Out) (x : Step) → n ≤ m → m ≤ length p.arena → Ended words mid n o (Step.Done r m) → Ended mid after m p x →
    Ended words after n p x
chained words mid after n r m o p x h i a b = record {
  same_length = b.same_length ∙ a.same_length;
  kept = λ k z. b.kept k (omega arith) ∙ a.kept k z;
  past = λ k z. b.past k (rw a.same_length z) ∙ a.past k z;
  ran = chained_ran words mid after m p x a.same_length a.ran.later i b.ran;
}

-- a part of a run that has no room leaves none for the whole
pub unfinished : (words after : List ℕ) (n : ℕ) (o p : Out) → length o.arena ≤ length p.arena → Ended words after n o Step.NoRoom → Ended words after n p Step.NoRoom
unfinished words after n o p h a = record { same_length = a.same_length; kept = a.kept; past = a.past; ran = omega (arith, a.ran) }

-- nothing appended
pub ended_here : {words : List ℕ} {n : ℕ} → Live words n → (i : ℕ) → i < n → Ended words words n (out (nodes_of n words) i) (Step.Done i n)
ended_here live i h = record {
  same_length = refl;
  kept = λ k z. refl;
  past = λ k z. refl;
  ran = record { live = live; nodes_are = refl; root_is = refl; root_below = h; later = λ k z. refl };
}

-- A CONSTANT AND A NODE OVER IT, appended

module _ (words mid : List ℕ) (n : ℕ) (op : Bin) (s e v : ℕ) where
  abbrev constant : Out
  constant = append (make_const s v) (nodes_of n words)

  abbrev over : Out
  over = append (Node.Binary op s e (length (nodes_of n words))) (nodes_of n words ++ make_const s v ∷ [])

  constant_grows : length constant.arena ≤ length over.arena
  constant_grows = omega (arith, length_appended (nodes_of n words ++ make_const s v ∷ []) (Node.Binary op s e (length (nodes_of n words))))

  pub redo_unfinished : Ended words mid n constant Step.NoRoom → Ended words mid n over Step.NoRoom
  redo_unfinished h = unfinished words mid n constant over constant_grows h

  module _ (c m : ℕ) (h : Ended words mid n constant (Step.Done c m)) where
    pub redo_more : n < m
    redo_more = omega (arith, did_length h.ran, length_appended (nodes_of n words) (make_const s v), length-nodes_of n words)

    pub redo_ended : (after : List ℕ) (x : Step) → Ended mid after m (append (Node.Binary op s e c) (nodes_of m mid)) x → Ended words after n over x
    redo_ended after x g =
        let q = did_length h.ran in
        let l = constant_grows in
        let z = redo_more in
        chained words mid after n c m constant over x (omega arith) (omega arith) h (rw (h.ran.nodes_are, h.ran.root_is) at g)

-- A RULE: the writer has carried its action out, and what is to be simplified again is

module _ (words : List ℕ) (n : ℕ) (act : Act) (kept swapped : Out) (s a b : ℕ) (t : Tree) (S : Stands (nodes_of n words) t (carried act kept swapped s (nodes_of n words) a b)) where
  abbrev part : Out
  part = carried act kept swapped s (nodes_of n words) a b

  abbrev whole : Out
  whole = acted simplified act kept swapped s (nodes_of n words) a b

  again_grows : length part.arena ≤ length (simplified part.arena part.index).arena
  again_grows = (simplified_stands part.arena S.ordered part.index S.bound).extends.grown

  whole_grows : (c : Bool) → redoes act ≡ c → length part.arena ≤ length whole.arena
  whole_grows true e = rw (redone simplified act kept swapped s (nodes_of n words) a b e) again_grows
  whole_grows false e = rw (not_redone simplified act kept swapped s (nodes_of n words) a b e) (le_refl (length part.arena))

  rule_unfinished : (after : List ℕ) → Ended words after n part Step.NoRoom → Ended words after n whole Step.NoRoom
  rule_unfinished after h = unfinished words after n part whole (whole_grows (redoes act) refl) h

  rule_done : (after : List ℕ) (x : Step) → redoes act ≡ false → Ended words after n part x → Ended words after n whole x
  rule_done after x e h = rw (not_redone simplified act kept swapped s (nodes_of n words) a b e) h

  rule_again : (mid after : List ℕ) (root m : ℕ) (x : Step) → redoes act ≡ true → Ended words mid n part (Step.Done root m) → Ended mid after m (simplified (nodes_of m mid) root) x →
      Ended words after n whole x
  rule_again mid after root m x e h g =
      let d = h.ran in
      let q = did_length d in
      let l = S.extends.grown in
      let z = length-nodes_of n words in
      let grown = again_grows in
      let g' : Ended mid after m (simplified part.arena part.index) x = rw (d.nodes_are, d.root_is) at g in
      rw (redone simplified act kept swapped s (nodes_of n words) a b e) (chained words mid after n root m part (simplified part.arena part.index) x (omega arith) (omega arith) h g')

-- what the code has decided on a node of two children
module _ (words : List ℕ) (n : ℕ) (live : Live words n) (i : ℕ) (hi : i < n) (op : Bin) (s j k : ℕ) (e : node_at words i ≡ Node.Binary op s j k) (a b : ℕ) (ha : a < n) (hb : b < n)
    (act : Act) (e_a : act ≡ bin_act op s (tree_of n words a) (tree_of n words b)) (kept : Bool) (ek : kept ≡ (eqb a j && eqb b k)) where
  abbrev pub part_two : Out
  part_two = carried act (kept_as kept i (Node.Binary op s a b) (nodes_of n words)) (append (Node.Binary op s b a) (nodes_of n words)) s (nodes_of n words) a b

  abbrev pub whole_two : Out
  whole_two = binary_run simplified false i op s j k (nodes_of n words) a b

  same_part : part_two ≡ carried_two (nodes_of n words) (live_ordered live) i (in_arena live i hi) s op j k (at-nodes_of n words i hi ∙ e) a b (in_arena live a ha) (in_arena live b hb)
  same_part = rw (e_a, ek)

  same_whole : acted simplified act (kept_as kept i (Node.Binary op s a b) (nodes_of n words)) (append (Node.Binary op s b a) (nodes_of n words)) s (nodes_of n words) a b ≡ whole_two
  same_whole = rw (e_a, ek)

  T : Tree
  T = acted_tree (λ (t : Tree). t) (bin_act op s (tree_of n words a) (tree_of n words b)) (binary op s (tree_of n words a) (tree_of n words b)) (binary op s (tree_of n words b) (tree_of n words a)) s (tree_of n words a) (tree_of n words b)

  S : Stands (nodes_of n words) T part_two
  unfolding T
  S = rw same_part (carried_two_stands (nodes_of n words) (live_ordered live) i (in_arena live i hi) s op j k (at-nodes_of n words i hi ∙ e) a b (in_arena live a ha) (in_arena live b hb))

  pub two_unfinished : (after : List ℕ) → Ended words after n part_two Step.NoRoom → Ended words after n whole_two Step.NoRoom
  two_unfinished after h = rw (← same_whole) (rule_unfinished words n act _ _ s a b T S after h)

  pub two_done : (after : List ℕ) (x : Step) → redoes act ≡ false → Ended words after n part_two x → Ended words after n whole_two x
  two_done after x q h = rw (← same_whole) (rule_done words n act _ _ s a b T S after x q h)

  pub two_again : (mid after : List ℕ) (root m : ℕ) (x : Step) → redoes act ≡ true → Ended words mid n part_two (Step.Done root m) → Ended mid after m (simplified (nodes_of m mid) root) x →
      Ended words after n whole_two x
  two_again mid after root m x q h g = rw (← same_whole) (rule_again words n act _ _ s a b T S mid after root m x q h g)

  pub two_falls : (mid : List ℕ) (root m : ℕ) → redoes act ≡ true → Ended words mid n part_two (Step.Done root m) →
      weight (tree_of m mid root) < weight (binary op s (tree_of n words a) (tree_of n words b))
  two_falls mid root m q h =
      rw (h.ran.nodes_are, h.ran.root_is, same_part)
      (carried_two_lighter (nodes_of n words) (live_ordered live) i (in_arena live i hi) s op j k (at-nodes_of n words i hi ∙ e) a b (in_arena live a ha) (in_arena live b hb) (rw e_a at q))

  pub two_redo_over_normal : (mid : List ℕ) (root m : ℕ) → redoes act ≡ true → Ended words mid n part_two (Step.Done root m) → Normal (tree_of n words a) → Normal (tree_of n words b) →
      OverNormal (tree_of m mid root)
  two_redo_over_normal mid root m q h p p' =
      rw (h.ran.nodes_are, h.ran.root_is, same_part)
      (carried_two_over_normal (nodes_of n words) (live_ordered live) i (in_arena live i hi) s op j k (at-nodes_of n words i hi ∙ e) a b (in_arena live a ha) (in_arena live b hb) (rw e_a at q) p p')

-- and on a node of one
module _ (words : List ℕ) (n : ℕ) (live : Live words n) (i : ℕ) (hi : i < n) (op : Un) (s j : ℕ) (e : node_at words i ≡ Node.Unary op s j) (a : ℕ) (ha : a < n)
    (act : Act) (e_a : act ≡ un_act op s (tree_of n words a)) (kept : Bool) (ek : kept ≡ eqb a j) where
  abbrev pub part_one : Out
  part_one = carried act (kept_as kept i (Node.Unary op s a) (nodes_of n words)) (append (Node.Unary op s a) (nodes_of n words)) s (nodes_of n words) a a

  abbrev pub whole_one : Out
  whole_one = unary_run simplified false i op s j (nodes_of n words) a

  same_part_one : part_one ≡ carried_one (nodes_of n words) (live_ordered live) i (in_arena live i hi) s op j (at-nodes_of n words i hi ∙ e) a (in_arena live a ha)
  same_part_one = rw (e_a, ek)

  same_whole_one : acted simplified act (kept_as kept i (Node.Unary op s a) (nodes_of n words)) (append (Node.Unary op s a) (nodes_of n words)) s (nodes_of n words) a a ≡ whole_one
  same_whole_one = rw (e_a, ek)

  T₁ : Tree
  T₁ = acted_tree (λ (t : Tree). t) (un_act op s (tree_of n words a)) (unary op s (tree_of n words a)) (unary op s (tree_of n words a)) s (tree_of n words a) (tree_of n words a)

  S₁ : Stands (nodes_of n words) T₁ part_one
  unfolding T₁
  S₁ = rw same_part_one (carried_one_stands (nodes_of n words) (live_ordered live) i (in_arena live i hi) s op j (at-nodes_of n words i hi ∙ e) a (in_arena live a ha))

  pub one_unfinished : (after : List ℕ) → Ended words after n part_one Step.NoRoom → Ended words after n whole_one Step.NoRoom
  one_unfinished after h = rw (← same_whole_one) (rule_unfinished words n act _ _ s a a T₁ S₁ after h)

  pub one_done : (after : List ℕ) (x : Step) → redoes act ≡ false → Ended words after n part_one x → Ended words after n whole_one x
  one_done after x q h = rw (← same_whole_one) (rule_done words n act _ _ s a a T₁ S₁ after x q h)

  pub one_again : (mid after : List ℕ) (root m : ℕ) (x : Step) → redoes act ≡ true → Ended words mid n part_one (Step.Done root m) → Ended mid after m (simplified (nodes_of m mid) root) x →
      Ended words after n whole_one x
  one_again mid after root m x q h g = rw (← same_whole_one) (rule_again words n act _ _ s a a T₁ S₁ mid after root m x q h g)

  pub one_redo_falls : (mid : List ℕ) (root m : ℕ) → redoes act ≡ true → Ended words mid n part_one (Step.Done root m) →
      weight (tree_of m mid root) < weight (unary op s (tree_of n words a))
  one_redo_falls mid root m q h =
      rw (h.ran.nodes_are, h.ran.root_is, same_part_one)
      (carried_one_lighter (nodes_of n words) (live_ordered live) i (in_arena live i hi) s op j (at-nodes_of n words i hi ∙ e) a (in_arena live a ha) (rw e_a at q))

  pub one_redo_over_normal : (mid : List ℕ) (root m : ℕ) → redoes act ≡ true → Ended words mid n part_one (Step.Done root m) → Normal (tree_of n words a) → OverNormal (tree_of m mid root)
  one_redo_over_normal mid root m q h p =
      rw (h.ran.nodes_are, h.ran.root_is, same_part_one)
      (carried_one_over_normal (nodes_of n words) (live_ordered live) i (in_arena live i hi) s op j (at-nodes_of n words i hi ∙ e) a (in_arena live a ha) (rw e_a at q) p)

-- A NODE, after the run of a child

pub node_stays : (words after : List ℕ) (n i : ℕ) → i < n → ((k : ℕ) → k < node_words * n → get_or after k 0 ≡ get_or words k 0) → node_at after i ≡ node_at words i
node_stays words after n i h kept = ap₂ node_of (kept (node_words * i) (omega arith)) (kept (node_words * i + 1) (omega arith))

-- what is known once the child j of node i has become a
pub record After (words after : List ℕ) (n i a m : ℕ) : Type 0 where
  pub live : Live after m
  pub more : n ≤ m
  pub below : a < m
  pub same_node : node_at after i ≡ node_at words i

pub after_run : {words after : List ℕ} {n : ℕ} → Live words n → (i j a m : ℕ) → i < n → j < n → Ended words after n (simplified (nodes_of n words) j) (Step.Done a m) → After words after n i a m
after_run {words} {after} {n} live i j a m hi hj h =
    let d = h.ran in
    let q = did_length d in
    let z = length-nodes_of n words in
    let grown = (simplified_stands (nodes_of n words) (live_ordered live) j (omega arith)).extends.grown in
    record { live = d.live; more = omega arith; below = d.root_below; same_node = node_stays words after n i hi h.kept }

-- A NODE OF ONE CHILD
module _ {words : List ℕ} {n : ℕ} (live : Live words n) (i : ℕ) (hi : i < n) (op : Un) (s j : ℕ) (e : node_at words i ≡ Node.Unary op s j) where
  e₁ : at (nodes_of n words) i ≡ Node.Unary op s j
  e₁ = at-nodes_of n words i hi ∙ e

  pub unary_child : (j < n) × (weight (tree_of n words j) < weight (tree_of n words i))
  unary_child =
      let z = one_below (nodes_of n words) (live_ordered live) i (in_arena live i hi) op s j e₁ in
      (omega arith, one_falls (nodes_of n words) (live_ordered live) i (in_arena live i hi) op s j e₁)

  pub unary_unfinished : (mid : List ℕ) → Ended words mid n (simplified (nodes_of n words) j) Step.NoRoom → Ended words mid n (simplified (nodes_of n words) i) Step.NoRoom
  unary_unfinished mid h = unfinished words mid n _ _ (one_grows (nodes_of n words) (live_ordered live) i (in_arena live i hi) op s j e₁) h

  module _ (mid : List ℕ) (a m : ℕ) (h : Ended words mid n (simplified (nodes_of n words) j) (Step.Done a m)) where
    pub unary_lighter : weight (unary op s (tree_of m mid a)) ≤ weight (tree_of n words i)
    unary_lighter = rw (h.ran.nodes_are, h.ran.root_is) (one_lighter (nodes_of n words) (live_ordered live) i (in_arena live i hi) op s j e₁)

    pub unary_ended : (after : List ℕ) (x : Step) (c : Bool) → is_top (tree_of m mid a) ≡ c → Ended mid after m (unary_run simplified c i op s j (nodes_of m mid) a) x →
        Ended words after n (simplified (nodes_of n words) i) x
    unary_ended after x c q g =
        let f = after_run live i j a m hi unary_child.0 h in
        let l = one_grows (nodes_of n words) (live_ordered live) i (in_arena live i hi) op s j e₁ in
        let d = did_length h.ran in
        chained words mid after n a m (simplified (nodes_of n words) j) (simplified (nodes_of n words) i) x f.more (omega arith) h
        (rw (one_eq (nodes_of n words) (live_ordered live) i (in_arena live i hi) op s j e₁ (nodes_of m mid) a h.ran.nodes_are h.ran.root_is, q) g)

-- A NODE OF TWO CHILDREN
module _ {words : List ℕ} {n : ℕ} (live : Live words n) (i : ℕ) (hi : i < n) (op : Bin) (s j k : ℕ) (e : node_at words i ≡ Node.Binary op s j k) where
  e₂ : at (nodes_of n words) i ≡ Node.Binary op s j k
  e₂ = at-nodes_of n words i hi ∙ e

  pub binary_children : (j < n) × (k < n) × (weight (tree_of n words j) < weight (tree_of n words i))
  binary_children =
      let z = two_below (nodes_of n words) (live_ordered live) i (in_arena live i hi) op s j k e₂ in
      (omega (arith, z.0), omega (arith, z.1), left_falls (nodes_of n words) (live_ordered live) i (in_arena live i hi) op s j k e₂)

  pub left_unfinished : (mid : List ℕ) → Ended words mid n (simplified (nodes_of n words) j) Step.NoRoom → Ended words mid n (simplified (nodes_of n words) i) Step.NoRoom
  left_unfinished mid h = unfinished words mid n _ _ (left_grows (nodes_of n words) (live_ordered live) i (in_arena live i hi) op s j k e₂) h

  module _ (mid : List ℕ) (a m : ℕ) (h : Ended words mid n (simplified (nodes_of n words) j) (Step.Done a m)) where
    pub right_lighter : weight (tree_of m mid k) < weight (tree_of n words i)
    right_lighter = rw h.ran.nodes_are (right_falls (nodes_of n words) (live_ordered live) i (in_arena live i hi) op s j k e₂)

    m_is : length (simplified (nodes_of n words) j).arena ≡ m
    m_is = did_length h.ran

    right_length : length (simplified (nodes_of m mid) k).arena ≤ length (simplified (nodes_of n words) i).arena
    right_length = rw h.ran.nodes_are (right_grows (nodes_of n words) (live_ordered live) i (in_arena live i hi) op s j k e₂)

    pub right_unfinished : (after : List ℕ) → Ended mid after m (simplified (nodes_of m mid) k) Step.NoRoom → Ended words after n (simplified (nodes_of n words) i) Step.NoRoom
    right_unfinished after g =
        let f = after_run live i j a m hi binary_children.0 h in
        let l = left_grows (nodes_of n words) (live_ordered live) i (in_arena live i hi) op s j k e₂ in
        let d = m_is in
        chained words mid after n a m (simplified (nodes_of n words) j) (simplified (nodes_of n words) i) Step.NoRoom f.more (omega arith) h
        (unfinished mid after m (simplified (nodes_of m mid) k) (simplified (nodes_of n words) i) right_length g)

    module _ (late : List ℕ) (c p : ℕ) (g : Ended mid late m (simplified (nodes_of m mid) k) (Step.Done c p)) where
      pub binary_lighter : weight (binary op s (tree_of p late a) (tree_of p late c)) ≤ weight (tree_of n words i)
      binary_lighter =
          let q = two_lighter (nodes_of n words) (live_ordered live) i (in_arena live i hi) op s j k e₂ in
          let q' = rw (← h.ran.nodes_are, ← h.ran.root_is) at q in
          rw (← g.ran.nodes_are, ← g.ran.root_is) at q'

      pub binary_ended : (after : List ℕ) (x : Step) (t : Bool) → (is_top (tree_of p late a) || is_top (tree_of p late c)) ≡ t →
          Ended late after p (binary_run simplified t i op s j k (nodes_of p late) a c) x → Ended words after n (simplified (nodes_of n words) i) x
      binary_ended after x t q r =
          let f = after_run live i j a m hi binary_children.0 h in
          let f' = after_run f.live i k c p (omega (arith, f.more)) (omega (arith, f.more, binary_children.1)) g in
          let l = left_grows (nodes_of n words) (live_ordered live) i (in_arena live i hi) op s j k e₂ in
          let l₂ = right_length in
          let d = m_is in
          let d' = did_length g.ran in
          chained words mid after n a m (simplified (nodes_of n words) j) (simplified (nodes_of n words) i) x f.more (omega arith) h
          (chained mid late after m c p (simplified (nodes_of m mid) k) (simplified (nodes_of n words) i) x f'.more (omega arith) g
          (rw (two_eq (nodes_of n words) (live_ordered live) i (in_arena live i hi) op s j k e₂ (nodes_of m mid) (nodes_of p late) a c h.ran.nodes_are h.ran.root_is g.ran.nodes_are g.ran.root_is, q) r))
