-- One visit of the run over an arena, put together from the runs of its children: what it equals, what it appends, and what falls. The
-- code is proved against these. Assumes nothing.
use Rattle.std.specs.Prelude.{Bool, true, ◌&&◌, ◌||◌, List, ◌≡◌, refl, ℕ, ◌≤◌, ◌<◌, eqb, length}
use Rattle.std.proofs.Common.{ap, ap₂, sym, ◌∙◌}
use native.Mathlib.Omega.{arith}
use Rattle.format.specs.declared.Bin.{Bin}
use Rattle.format.specs.declared.Node.{Node}
use Rattle.format.specs.declared.Un.{Un}
use Rattle.rules.specs.Rules.{bin_act, un_act}
use Rattle.rules.specs.Run.{Out, out, append, kept_as, unary_run, binary_run, visit, weight, simplified}
use Rattle.rules.specs.declared.Act.{Act}
use Rattle.theory.specs.Falls.{sub_le, Falls, unary_falls, binary_falls}
use Rattle.theory.specs.Normal.{Normal}
use Rattle.theory.proofs.Reduced.{near_normal, reduced_nodes}
use Rattle.theory.specs.Simulation.{Stands, Simulates, appended_stands, kept_unary, kept_binary}
use Rattle.theory.proofs.Simulation.{acted_stands, unary_stands, binary_stands, simplified_stands, simplified_eq}
use Rattle.theory.specs.TreeRun.{acted_tree, unary_tree, binary_tree, reduced}
use Rattle.tree.specs.Arena.{at, tree_at, Ordered}
use Rattle.tree.specs.ArenaLaws.{extends_refl, extends_trans, tree_stays, tree_eq}
use Rattle.tree.specs.Tree.{Tree, unary, binary, is_top}
use Rattle.theory.specs.Visits.{OverNormal, carried, redoes}

-- WHETHER AN ACTION IS SIMPLIFIED AGAIN, and what is left where it is not

-- what is simplified again weighs less
redo_lighter : (act : Act) (W P : ℕ) (kept swapped : Tree) (s : ℕ) (a b : Tree) → redoes act ≡ true → Falls act W P a b →
    weight (acted_tree (λ (t : Tree). t) act kept swapped s a b) < W
redo_lighter Act.Keep W P kept swapped s a b e f = let z : ◌≡◌ {A = ℕ} 0 1 = cc in absurd (omega arith)
redo_lighter Act.Swap W P kept swapped s a b e f = let z : ◌≡◌ {A = ℕ} 0 1 = cc in absurd (omega arith)
redo_lighter (Act.Give w) W P kept swapped s a b e f = let z : ◌≡◌ {A = ℕ} 0 1 = cc in absurd (omega arith)
redo_lighter (Act.Make v) W P kept swapped s a b e f = let z : ◌≡◌ {A = ℕ} 0 1 = cc in absurd (omega arith)
redo_lighter (Act.Redo op w v) W P kept swapped s a b e f = omega (arith, f.falls)
redo_lighter (Act.RedoUnary op w) W P kept swapped s a b e f = omega (arith, f.falls)

-- what is simplified again is such a node: a rule rebuilds it over a part of a simplified child, and a constant
redo_over_normal : (act : Act) (kept swapped : Tree) (s : ℕ) (a b : Tree) → redoes act ≡ true → Normal a → Normal b →
    OverNormal (acted_tree (λ (t : Tree). t) act kept swapped s a b)
redo_over_normal Act.Keep kept swapped s a b e p q = let z : ◌≡◌ {A = ℕ} 0 1 = cc in absurd (omega arith)
redo_over_normal Act.Swap kept swapped s a b e p q = let z : ◌≡◌ {A = ℕ} 0 1 = cc in absurd (omega arith)
redo_over_normal (Act.Give w) kept swapped s a b e p q = let z : ◌≡◌ {A = ℕ} 0 1 = cc in absurd (omega arith)
redo_over_normal (Act.Make v) kept swapped s a b e p q = let z : ◌≡◌ {A = ℕ} 0 1 = cc in absurd (omega arith)
redo_over_normal (Act.Redo op w v) kept swapped s a b e p q = (near_normal a b w p q, tt)
redo_over_normal (Act.RedoUnary op w) kept swapped s a b e p q = near_normal a b w p q

still : Simulates out (λ (t : Tree). t)
still arena w i b = record { ordered = w; extends = extends_refl arena; bound = b; is = refl }

module _ (arena : List Node) (w : Ordered arena) (i : ℕ) (b : i < length arena) where
  -- a leaf is itself
  pub leaf_top : at arena i ≡ Node.Top → simplified arena i ≡ out arena i
  leaf_top e = simplified_eq arena w i b ∙ rw e

  pub leaf_entry : {s sp o : ℕ} → at arena i ≡ Node.Entry s sp o → simplified arena i ≡ out arena i
  leaf_entry e = simplified_eq arena w i b ∙ rw e

  pub leaf_const : {s v : ℕ} → at arena i ≡ Node.Const s v → simplified arena i ≡ out arena i
  leaf_const e = simplified_eq arena w i b ∙ rw e

  pub leaf_bind : {s d : ℕ} → at arena i ≡ Node.Bind s d → simplified arena i ≡ out arena i
  leaf_bind e = simplified_eq arena w i b ∙ rw e

  -- A NODE OF ONE CHILD j
  module _ (op : Un) (s j : ℕ) (e : at arena i ≡ Node.Unary op s j) where
    pub one_below : j < i
    one_below = rw e at (w i b)

    hj : j < length arena
    hj = let z = one_below in omega arith

    -- its child's run has ended at o and a
    pub one_eq : (after : List Node) (a : ℕ) → after ≡ (simplified arena j).arena → a ≡ (simplified arena j).index →
        simplified arena i ≡ unary_run simplified (is_top (tree_at after a)) i op s j after a
    one_eq after a p q =
        simplified_eq arena w i b ∙ ap (visit simplified arena i) e
        ∙ ap₂ (λ (z : List Node) (a : ℕ). unary_run simplified (is_top (tree_at z a)) i op s j z a) (sym p) (sym q)

    one_stands : (c : Bool) → Stands (simplified arena j).arena (unary_tree reduced c op s (tree_at (simplified arena j).arena (simplified arena j).index))
        (unary_run simplified c i op s j (simplified arena j).arena (simplified arena j).index)
    one_stands c =
        let x = simplified_stands arena w j hj in
        unary_stands simplified reduced simplified_stands (simplified arena j).arena x.ordered i (omega (arith, x.extends.grown)) op s j (simplified arena j).index x.bound
        (x.extends.old i b ∙ e) c

    pub one_grows : length (simplified arena j).arena ≤ length (simplified arena i).arena
    one_grows =
        rw (one_eq (simplified arena j).arena (simplified arena j).index refl refl)
        (one_stands (is_top (tree_at (simplified arena j).arena (simplified arena j).index))).extends.grown

    pub one_lighter : weight (unary op s (tree_at (simplified arena j).arena (simplified arena j).index)) ≤ weight (tree_at arena i)
    one_lighter =
        let x = simplified_stands arena w j hj in
        rw (tree_eq arena w i b, e, x.is) (omega (arith, reduced_nodes (tree_at arena j)))

  -- A NODE OF TWO CHILDREN j AND k
  module _ (op : Bin) (s j k : ℕ) (e : at arena i ≡ Node.Binary op s j k) where
    pub two_below : (j < i) × (k < i)
    two_below = rw e at (w i b)

    left_inside : j < length arena
    left_inside = let z = two_below.0 in omega arith

    X : Stands arena (reduced (tree_at arena j)) (simplified arena j)
    X = simplified_stands arena w j left_inside

    right_inside : k < length (simplified arena j).arena
    unfolding X
    right_inside = let z = two_below.1 in let l = X.extends.grown in omega arith

    Y : Stands (simplified arena j).arena (reduced (tree_at (simplified arena j).arena k)) (simplified (simplified arena j).arena k)
    Y = simplified_stands (simplified arena j).arena X.ordered k right_inside

    pub two_eq : (after last : List Node) (a c : ℕ) → after ≡ (simplified arena j).arena → a ≡ (simplified arena j).index →
        last ≡ (simplified after k).arena → c ≡ (simplified after k).index →
        simplified arena i ≡ binary_run simplified (is_top (tree_at last a) || is_top (tree_at last c)) i op s j k last a c
    two_eq after last a c p q p' q' =
        simplified_eq arena w i b ∙ ap (visit simplified arena i) e
        ∙ ap₂ (λ (y : List Node) (a : ℕ). binary_run simplified (is_top (tree_at (simplified y k).arena a) || is_top (tree_at (simplified y k).arena (simplified y k).index)) i op s j k (simplified y k).arena a (simplified y k).index) (sym p) (sym q)
        ∙ ap₂ (λ (z : List Node) (c : ℕ). binary_run simplified (is_top (tree_at z a) || is_top (tree_at z c)) i op s j k z a c) (sym p') (sym q')

    two_stands : (c : Bool) → Stands (simplified (simplified arena j).arena k).arena
        (binary_tree reduced c op s (tree_at (simplified (simplified arena j).arena k).arena (simplified arena j).index) (tree_at (simplified (simplified arena j).arena k).arena (simplified (simplified arena j).arena k).index))
        (binary_run simplified c i op s j k (simplified (simplified arena j).arena k).arena (simplified arena j).index (simplified (simplified arena j).arena k).index)
    two_stands c =
        let z = extends_trans X.extends Y.extends in
        binary_stands simplified reduced simplified_stands (simplified (simplified arena j).arena k).arena Y.ordered i (omega (arith, z.grown)) op s j k (simplified arena j).index
        (simplified (simplified arena j).arena k).index (omega (arith, X.bound, Y.extends.grown)) Y.bound (z.old i b ∙ e) c

    pub right_grows : length (simplified (simplified arena j).arena k).arena ≤ length (simplified arena i).arena
    right_grows =
        rw (two_eq (simplified arena j).arena (simplified (simplified arena j).arena k).arena (simplified arena j).index (simplified (simplified arena j).arena k).index refl refl refl refl)
        (two_stands (is_top (tree_at (simplified (simplified arena j).arena k).arena (simplified arena j).index) || is_top (tree_at (simplified (simplified arena j).arena k).arena (simplified (simplified arena j).arena k).index))).extends.grown

    pub left_grows : length (simplified arena j).arena ≤ length (simplified arena i).arena
    left_grows = let l = Y.extends.grown in let m = right_grows in omega arith

    pub right_falls : weight (tree_at (simplified arena j).arena k) < weight (tree_at arena i)
    right_falls =
        let z = two_below.1 in
        let h : k < length arena = omega arith in
        rw (tree_stays w X.extends h, tree_eq arena w i b, e) (omega (arith, sub_le (tree_at arena k)))

    pub two_lighter : weight (binary op s (tree_at (simplified (simplified arena j).arena k).arena (simplified arena j).index) (tree_at (simplified (simplified arena j).arena k).arena (simplified (simplified arena j).arena k).index)) ≤ weight (tree_at arena i)
    two_lighter =
        let z = two_below.1 in
        let h : k < length arena = omega arith in
        rw (tree_stays X.ordered Y.extends X.bound, X.is, Y.is, tree_stays w X.extends h, tree_eq arena w i b, e)
        (omega (arith, reduced_nodes (tree_at arena j), reduced_nodes (tree_at arena k)))

-- WHAT A RULE LEAVES, short of simplifying again
module _ (arena : List Node) (w : Ordered arena) (i : ℕ) (b : i < length arena) (s : ℕ) where
  module _ (op : Bin) (j k : ℕ) (e : at arena i ≡ Node.Binary op s j k) (x y : ℕ) (hx : x < length arena) (hy : y < length arena) where
    abbrev pub carried_two : Out
    carried_two = carried (bin_act op s (tree_at arena x) (tree_at arena y)) (kept_as (eqb x j && eqb y k) i (Node.Binary op s x y) arena) (append (Node.Binary op s y x) arena) s arena x y

    pub carried_two_stands : Stands arena
        (acted_tree (λ (t : Tree). t) (bin_act op s (tree_at arena x) (tree_at arena y)) (binary op s (tree_at arena x) (tree_at arena y)) (binary op s (tree_at arena y) (tree_at arena x)) s (tree_at arena x) (tree_at arena y))
        carried_two
    carried_two_stands =
        acted_stands out (λ (t : Tree). t) still (bin_act op s (tree_at arena x) (tree_at arena y)) _ _ _ _ s arena w x y hx hy
        (kept_binary arena w i b op s j k x y hx hy e (eqb x j && eqb y k) refl) (appended_stands arena (Node.Binary op s y x) w (hy, hx))

    pub carried_two_lighter : redoes (bin_act op s (tree_at arena x) (tree_at arena y)) ≡ true →
        weight (tree_at carried_two.arena carried_two.index) < weight (binary op s (tree_at arena x) (tree_at arena y))
    carried_two_lighter q =
        rw carried_two_stands.is
        (redo_lighter (bin_act op s (tree_at arena x) (tree_at arena y)) _ _ _ _ s _ _ q (binary_falls op s (tree_at arena x) (tree_at arena y)))

    pub carried_two_over_normal : redoes (bin_act op s (tree_at arena x) (tree_at arena y)) ≡ true → Normal (tree_at arena x) → Normal (tree_at arena y) →
        OverNormal (tree_at carried_two.arena carried_two.index)
    carried_two_over_normal r p q =
        rw carried_two_stands.is (redo_over_normal (bin_act op s (tree_at arena x) (tree_at arena y)) _ _ s (tree_at arena x) (tree_at arena y) r p q)

  module _ (op : Un) (j : ℕ) (e : at arena i ≡ Node.Unary op s j) (x : ℕ) (hx : x < length arena) where
    abbrev pub carried_one : Out
    carried_one = carried (un_act op s (tree_at arena x)) (kept_as (eqb x j) i (Node.Unary op s x) arena) (append (Node.Unary op s x) arena) s arena x x

    pub carried_one_stands : Stands arena
        (acted_tree (λ (t : Tree). t) (un_act op s (tree_at arena x)) (unary op s (tree_at arena x)) (unary op s (tree_at arena x)) s (tree_at arena x) (tree_at arena x))
        carried_one
    carried_one_stands =
        acted_stands out (λ (t : Tree). t) still (un_act op s (tree_at arena x)) _ _ _ _ s arena w x x hx hx
        (kept_unary arena w i b op s j x hx e (eqb x j) refl) (appended_stands arena (Node.Unary op s x) w hx)

    pub carried_one_lighter : redoes (un_act op s (tree_at arena x)) ≡ true →
        weight (tree_at carried_one.arena carried_one.index) < weight (unary op s (tree_at arena x))
    carried_one_lighter q =
        rw carried_one_stands.is (redo_lighter (un_act op s (tree_at arena x)) _ _ _ _ s _ _ q (unary_falls op s (tree_at arena x)))

    pub carried_one_over_normal : redoes (un_act op s (tree_at arena x)) ≡ true → Normal (tree_at arena x) → OverNormal (tree_at carried_one.arena carried_one.index)
    carried_one_over_normal r p = rw carried_one_stands.is (redo_over_normal (un_act op s (tree_at arena x)) _ _ s (tree_at arena x) (tree_at arena x) r p p)
