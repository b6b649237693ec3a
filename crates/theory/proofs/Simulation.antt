-- The run over an arena ends at the tree that the run on trees makes; it keeps the arena in order and only appends; on a normal tree
-- it appends nothing; and enough steps are enough there too. Assumes nothing.
use Rattle.std.specs.Prelude.{Bool, true, false, ◌&&◌, ◌||◌, List, [], ◌∷◌, ◌++◌, ◌≡◌, refl, ℕ, zero, suc, ◌≤◌, ◌<◌, eqb, length}
use Rattle.std.proofs.Common.{ap, ap₂, sym, ◌∙◌, subst, arith}
use Rattle.format.specs.declared.Bin.{Bin}
use Rattle.format.specs.declared.Node.{Node}
use Rattle.format.specs.declared.Un.{Un}
use Rattle.rules.specs.Rules.{bin_act, un_act}
use Rattle.rules.specs.Run.{Out, append, make_const, near, acted, unary_run, binary_run, visit, run_for, weight, simplified}
use Rattle.rules.specs.declared.Act.{Act}
use Rattle.theory.specs.Falls.{nodes_positive, sub_le, Falls, falls_weaker, unary_falls, binary_falls}
use Rattle.theory.specs.Reduced.{WellBelow, no_more_nodes}
use Rattle.theory.proofs.Reduced.{outcome}
use Rattle.theory.specs.TreeRun.{const_tree, acted_tree, unary_tree, binary_tree, over_one, over_two, visit_tree, reduced_for, reduced}
use Rattle.tree.specs.Arena.{at, build, tree_at, Below, Ordered}
use Rattle.tree.specs.ArenaLaws.{extends_refl, extends_trans, tree_stays, tree_eq}
use Rattle.tree.specs.Tree.{Tree, unary, binary, path, nodes, is_top}
use Rattle.theory.specs.Simulation.{Simulates, Stands, appended_stands, itself_stands, kept_binary, kept_unary, near_stands, onward}

-- ON A NORMAL TREE nothing is appended and the index is the same, for any number of steps

-- SIMULATION

-- a constant and a node over it, appended
pub redo_stands : (arena : List Node) → Ordered arena → (op : Bin) (s v e : ℕ) → e < length arena →
    Stands arena (binary op s (tree_at arena e) (const_tree s v)) (append (Node.Binary op s e (length arena)) (arena ++ make_const s v ∷ []))
redo_stands arena w op s v e h =
    let x = appended_stands arena (make_const s v) w tt in
    let longer = arena ++ make_const s v ∷ [] in
    let y = appended_stands longer (Node.Binary op s e (length arena)) x.ordered (omega (arith, h, x.bound), x.bound) in
    onward x.extends (cc (tree_stays w x.extends h, x.is)) y

pub acted_stands : (f : List Node → ℕ → Out) (g : Tree → Tree) → Simulates f g → (act : Act) (kept_o swapped_o : Out) (kept swapped : Tree) (s : ℕ) (arena : List Node) →
    Ordered arena → (a b : ℕ) → a < length arena → b < length arena → Stands arena kept kept_o → Stands arena swapped swapped_o →
    Stands arena (acted_tree g act kept swapped s (tree_at arena a) (tree_at arena b)) (acted f act kept_o swapped_o s arena a b)
acted_stands f g h Act.Keep kept_o swapped_o kept swapped s arena w a b ha hb p q = p
acted_stands f g h Act.Swap kept_o swapped_o kept swapped s arena w a b ha hb p q = q
acted_stands f g h (Act.Give z) kept_o swapped_o kept swapped s arena w a b ha hb p q =
    let c = near_stands arena w a b ha hb z in
    record { ordered = w; extends = extends_refl arena; bound = c.0; is = c.1 }
acted_stands f g h (Act.Make v) kept_o swapped_o kept swapped s arena w a b ha hb p q = appended_stands arena (make_const s v) w tt
acted_stands f g h (Act.Redo op z v) kept_o swapped_o kept swapped s arena w a b ha hb p q =
    let c = near_stands arena w a b ha hb z in
    let y = redo_stands arena w op s v (near z arena a b) c.0 in
    onward y.extends (ap g (y.is ∙ ap (λ (t : Tree). binary op s t (const_tree s v)) c.1)) (h _ y.ordered _ y.bound)
acted_stands f g h (Act.RedoUnary op z) kept_o swapped_o kept swapped s arena w a b ha hb p q =
    let c = near_stands arena w a b ha hb z in
    let y = appended_stands arena (Node.Unary op s (near z arena a b)) w c.0 in
    onward y.extends (ap g (y.is ∙ ap (unary op s) c.1)) (h _ y.ordered (length arena) y.bound)

module _ (f : List Node → ℕ → Out) (g : Tree → Tree) (h : Simulates f g) where
  pub unary_stands : (arena : List Node) → Ordered arena → (i : ℕ) → i < length arena → (op : Un) (s j a : ℕ) → a < length arena → at arena i ≡ Node.Unary op s j →
      (c : Bool) → Stands arena (unary_tree g c op s (tree_at arena a)) (unary_run f c i op s j arena a)
  unary_stands arena w i b op s j a ha e true = appended_stands arena Node.Top w tt
  unary_stands arena w i b op s j a ha e false =
      acted_stands f g h (un_act op s (tree_at arena a)) _ _ (unary op s (tree_at arena a)) (unary op s (tree_at arena a)) s arena w a a ha ha
      (kept_unary arena w i b op s j a ha e (eqb a j) refl) (appended_stands arena (Node.Unary op s a) w ha)

  pub binary_stands : (arena : List Node) → Ordered arena → (i : ℕ) → i < length arena → (op : Bin) (s j k a b : ℕ) → a < length arena → b < length arena →
      at arena i ≡ Node.Binary op s j k → (c : Bool) → Stands arena (binary_tree g c op s (tree_at arena a) (tree_at arena b)) (binary_run f c i op s j k arena a b)
  binary_stands arena w i hi op s j k a b ha hb e true = appended_stands arena Node.Top w tt
  binary_stands arena w i hi op s j k a b ha hb e false =
      acted_stands f g h (bin_act op s (tree_at arena a) (tree_at arena b)) _ _ (binary op s (tree_at arena a) (tree_at arena b)) (binary op s (tree_at arena b) (tree_at arena a)) s arena w a b ha hb
      (kept_binary arena w i hi op s j k a b ha hb e (eqb a j && eqb b k) refl) (appended_stands arena (Node.Binary op s b a) w (hb, ha))

  two_stand : (arena : List Node) (i : ℕ) → i < length arena → (op : Bin) (s j k : ℕ) → at arena i ≡ Node.Binary op s j k →
      (l r : Out) (t u : Tree) → Stands arena t l → Stands l.arena u r →
      Stands arena (over_two g op s t u)
      (binary_run f (is_top (tree_at r.arena l.index) || is_top (tree_at r.arena r.index)) i op s j k r.arena l.index r.index)
  two_stand arena i b op s j k e l r t u x y =
      let z = extends_trans x.extends y.extends in
      let hx : l.index < length r.arena = omega (arith, x.bound, y.extends.grown) in
      let hi : i < length r.arena = omega (arith, z.grown) in
      onward z (ap₂ (over_two g op s) (tree_stays x.ordered y.extends x.bound ∙ x.is) y.is)
      (binary_stands r.arena y.ordered i hi op s j k l.index r.index hx y.bound (z.old i b ∙ e) (is_top (tree_at r.arena l.index) || is_top (tree_at r.arena r.index)))

  visit_stands : (arena : List Node) → Ordered arena → (i : ℕ) → i < length arena → (node : Node) → Below i node → at arena i ≡ node →
      Stands arena (visit_tree g (build (tree_at arena) node)) (visit f arena i node)
  visit_stands arena w i b Node.Top o e = itself_stands w i b e refl
  visit_stands arena w i b (Node.Entry s sp p) o e = itself_stands w i b e refl
  visit_stands arena w i b (Node.Const s v) o e = itself_stands w i b e refl
  visit_stands arena w i b (Node.Bind s d) o e = itself_stands w i b e refl
  visit_stands arena w i b (Node.Unary op s j) o e =
      let x = h arena w j (omega arith) in
      onward x.extends (ap (over_one g op s) x.is)
      (unary_stands _ x.ordered i (omega (arith, x.extends.grown)) op s j _ x.bound (x.extends.old i b ∙ e) (is_top (tree_at (f arena j).arena (f arena j).index)))
  visit_stands arena w i b (Node.Binary op s j k) o e =
      let x = h arena w j (omega (arith, o.0)) in
      let y = h (f arena j).arena x.ordered k (omega (arith, o.1, x.extends.grown)) in
      two_stand arena i b op s j k e _ _ _ _ x (onward (extends_refl _) (ap g (tree_stays w x.extends (omega (arith, o.1)))) y)

pub runs_stand : (n : ℕ) → Simulates (run_for n) (reduced_for n)
runs_stand zero arena w i b = record { ordered = w; extends = extends_refl arena; bound = b; is = refl }
runs_stand (suc n) arena w i b =
    onward (extends_refl arena) (ap (visit_tree (reduced_for n)) (sym (tree_eq arena w i b)))
    (visit_stands (run_for n) (reduced_for n) (runs_stand n) arena w i b (at arena i) (w i b) refl)

-- the run ends at the reduced tree
pub simplified_stands : Simulates simplified reduced
simplified_stands arena w i b = runs_stand (weight (tree_at arena i)) arena w i b

-- ENOUGH STEPS ARE ENOUGH

-- f and g agree on trees that weigh less than W
abbrev Agree : (List Node → ℕ → Out) → (List Node → ℕ → Out) → ℕ → Type 0
Agree f g W = (arena : List Node) → Ordered arena → (i : ℕ) → i < length arena → weight (tree_at arena i) < W → f arena i ≡ g arena i

acted_agree : (f g : List Node → ℕ → Out) (W P : ℕ) → Agree f g W → (act : Act) (kept swapped : Out) (s : ℕ) (arena : List Node) → Ordered arena → (a b : ℕ) →
    a < length arena → b < length arena → Falls act W P (tree_at arena a) (tree_at arena b) → acted f act kept swapped s arena a b ≡ acted g act kept swapped s arena a b
acted_agree f g W P e Act.Keep kept swapped s arena w a b ha hb d = refl
acted_agree f g W P e Act.Swap kept swapped s arena w a b ha hb d = refl
acted_agree f g W P e (Act.Give z) kept swapped s arena w a b ha hb d = refl
acted_agree f g W P e (Act.Make v) kept swapped s arena w a b ha hb d = refl
acted_agree f g W P e (Act.Redo op z v) kept swapped s arena w a b ha hb d =
    let c = near_stands arena w a b ha hb z in
    let y = redo_stands arena w op s v (near z arena a b) c.0 in
    e _ y.ordered _ y.bound (rw (y.is, c.1) (omega (arith, d.falls)))
acted_agree f g W P e (Act.RedoUnary op z) kept swapped s arena w a b ha hb d =
    let c = near_stands arena w a b ha hb z in
    let y = appended_stands arena (Node.Unary op s (near z arena a b)) w c.0 in
    e _ y.ordered (length arena) y.bound (rw (y.is, c.1) (omega (arith, d.falls)))

unary_agree : (f g : List Node → ℕ → Out) (t : Tree) (i : ℕ) (op : Un) (s j : ℕ) (arena : List Node) → Ordered arena → (a : ℕ) → a < length arena →
    nodes (tree_at arena a) ≤ nodes t → Agree f g (weight (unary op s t)) → (c : Bool) → unary_run f c i op s j arena a ≡ unary_run g c i op s j arena a
unary_agree f g t i op s j arena w a ha n e true = refl
unary_agree f g t i op s j arena w a ha n e false =
    let u = tree_at arena a in
    acted_agree f g (weight (unary op s t)) (path (unary op s u)) e (un_act op s u) _ _ s arena w a a ha ha
    (falls_weaker (un_act op s u) u u (omega arith) (omega arith) (unary_falls op s u))

binary_agree : (f g : List Node → ℕ → Out) (t u : Tree) (i : ℕ) (op : Bin) (s j k : ℕ) (arena : List Node) → Ordered arena → (a b : ℕ) → a < length arena → b < length arena →
    nodes (tree_at arena a) ≤ nodes t → nodes (tree_at arena b) ≤ nodes u → Agree f g (weight (binary op s t u)) → (c : Bool) →
    binary_run f c i op s j k arena a b ≡ binary_run g c i op s j k arena a b
binary_agree f g t u i op s j k arena w a b ha hb n m e true = refl
binary_agree f g t u i op s j k arena w a b ha hb n m e false =
    let x = tree_at arena a in
    let y = tree_at arena b in
    acted_agree f g (weight (binary op s t u)) (path (binary op s x y)) e (bin_act op s x y) _ _ s arena w a b ha hb
    (falls_weaker (bin_act op s x y) x y (omega arith) (omega arith) (binary_falls op s x y))

-- t is what g does on trees
visit_agree : (f g : List Node → ℕ → Out) (t : Tree → Tree) → Simulates g t → (arena : List Node) → Ordered arena → (i : ℕ) → i < length arena → (node : Node) → Below i node →
    WellBelow t (weight (build (tree_at arena) node)) → Agree f g (weight (build (tree_at arena) node)) → visit f arena i node ≡ visit g arena i node
visit_agree f g t z arena w i b Node.Top o p e = refl
visit_agree f g t z arena w i b (Node.Entry s sp q) o p e = refl
visit_agree f g t z arena w i b (Node.Const s v) o p e = refl
visit_agree f g t z arena w i b (Node.Bind s d) o p e = refl
visit_agree f g t z arena w i b (Node.Unary op s j) o p e =
    let x = z arena w j (omega arith) in
    let a = tree_at arena j in
    let n = no_more_nodes a (t a) (p a (omega (arith, sub_le a))) in
    ap (λ (l : Out). unary_run f (is_top (tree_at l.arena l.index)) i op s j l.arena l.index) (e arena w j (omega arith) (omega (arith, sub_le a)))
    ∙ unary_agree f g a i op s j (g arena j).arena x.ordered (g arena j).index x.bound (rw x.is n) e (is_top (tree_at (g arena j).arena (g arena j).index))
visit_agree f g t z arena w i b (Node.Binary op s j k) o p e =
    let hj : j < length arena = omega (arith, o.0) in
    let hk : k < length arena = omega (arith, o.1) in
    let x = z arena w j hj in
    let hk' : k < length (g arena j).arena = omega (arith, x.extends.grown) in
    let y = z (g arena j).arena x.ordered k hk' in
    let q = tree_stays w x.extends hk in
    let a = tree_at arena j in
    let c = tree_at arena k in
    let n = no_more_nodes a (t a) (p a (omega (arith, sub_le a))) in
    let m = no_more_nodes c (t c) (p c (omega (arith, sub_le c))) in
    ap (λ (l : Out). let r = f l.arena k in binary_run f (is_top (tree_at r.arena l.index) || is_top (tree_at r.arena r.index)) i op s j k r.arena l.index r.index)
    (e arena w j hj (omega (arith, sub_le a)))
    ∙ ap (λ (r : Out). binary_run f (is_top (tree_at r.arena (g arena j).index) || is_top (tree_at r.arena r.index)) i op s j k r.arena (g arena j).index r.index)
    (e (g arena j).arena x.ordered k hk' (rw q (omega (arith, sub_le c))))
    ∙ binary_agree f g a c i op s j k (g (g arena j).arena k).arena y.ordered (g arena j).index (g (g arena j).arena k).index
    (omega (arith, x.bound, y.extends.grown)) y.bound (rw (tree_stays x.ordered y.extends x.bound, x.is) n) (rw (y.is, q) m) e
    (is_top (tree_at (g (g arena j).arena k).arena (g arena j).index) || is_top (tree_at (g (g arena j).arena k).arena (g (g arena j).arena k).index))

pub runs_agree : (m n : ℕ) (arena : List Node) → Ordered arena → (i : ℕ) → i < length arena → weight (tree_at arena i) ≤ m → weight (tree_at arena i) ≤ n →
    run_for m arena i ≡ run_for n arena i
runs_agree zero n arena w i b p q = absurd (omega (arith, nodes_positive (tree_at arena i)))
runs_agree (suc m) zero arena w i b p q = absurd (omega (arith, nodes_positive (tree_at arena i)))
runs_agree (suc m) (suc n) arena w i b p q =
    let e = tree_eq arena w i b in
    visit_agree (run_for m) (run_for n) (reduced_for n) (runs_stand n) arena w i b (at arena i) (w i b)
    (subst (λ (t : Tree). WellBelow (reduced_for n) (weight t)) e (λ u h. outcome n u (omega arith)))
    (subst (λ (t : Tree). Agree (run_for m) (run_for n) (weight t)) e (λ arena' w' j b' h. runs_agree m n arena' w' j b' (omega arith) (omega arith)))

-- the run is a visit in which the run is called again: the equation that the code is proved against
pub simplified_eq : (arena : List Node) → Ordered arena → (i : ℕ) → i < length arena → simplified arena i ≡ visit simplified arena i (at arena i)
simplified_eq arena w i b =
    let W = weight (tree_at arena i) in
    let e = tree_eq arena w i b in
    runs_agree W (suc W) arena w i b (omega arith) (omega arith)
    ∙ sym (visit_agree simplified (run_for W) (reduced_for W) (runs_stand W) arena w i b (at arena i) (w i b)
    (subst (λ (t : Tree). WellBelow (reduced_for W) (weight t)) e (λ u h. outcome W u (omega arith)))
    (subst (λ (t : Tree). Agree simplified (run_for W) (weight t)) e (λ arena' w' j b' h. runs_agree (weight (tree_at arena' j)) W arena' w' j b' (omega arith) (omega arith))))
