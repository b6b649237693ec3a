-- The run keeps an arena storable: all its trees are well sized, and its payloads are words of 64 bits. Assumes nothing.
use Rattle.std.specs.Prelude.{Bool, true, false, ◌&&◌, ◌||◌, List, [], ◌∷◌, ◌++◌, ◌≡◌, refl, ℕ, zero, suc, ◌*◌, ◌%◌, ◌^◌, ◌≤◌, ◌<◌, eqb, length, None}
use Rattle.std.proofs.Common.{ap, sym, ◌∙◌, subst, arith, pow_mono}
use Rattle.std.proofs.Math.Decide.{dec_lt}
use Rattle.std.proofs.Math.ListN.{get_or-append}
use Rattle.format.specs.Nodes.{payload_of}
use Rattle.format.specs.Truth.{or_left, or_right, or_neither}
use Rattle.format.specs.declared.Bin.{Bin}
use Rattle.format.specs.declared.Node.{Node}
use Rattle.format.specs.declared.Sizing.{Sizing}
use Rattle.format.specs.declared.Un.{Un}
use Rattle.rules.specs.Rules.{bin_act, un_act}
use Rattle.rules.specs.Run.{Out, make_const, near, acted, kept_as, unary_run, binary_run, visit, weight, simplified}
use Rattle.rules.specs.declared.Act.{Act}
use Rattle.theory.specs.Falls.{sub_le, Falls, falls_weaker, unary_falls, binary_falls}
use Rattle.theory.specs.Normal.{normal_top}
use Rattle.theory.proofs.Reduced.{reduced_normal, reduced_top, reduced_nodes}
use Rattle.theory.specs.Simulation.{Stands, onward, near_stands, appended_stands}
use Rattle.theory.proofs.Simulation.{redo_stands, simplified_stands, simplified_eq}
use Rattle.theory.specs.Sizes.{size_bounds, tree_is_size}
use Rattle.theory.proofs.Sizes.{allowed}
use Rattle.theory.specs.TreeRun.{const_tree, reduced}
use Rattle.theory.specs.Values.{ActSized}
use Rattle.theory.proofs.Values.{over_reduced_one, over_reduced_two, bin_act_sized, un_act_sized}
use Rattle.tree.specs.Arena.{at, build, tree_at, Below, Ordered}
use Rattle.tree.specs.ArenaLaws.{extends_refl, tree_stays, tree_eq, length_appended, appended_extends, at_appended, tree_appended}
use Rattle.tree.specs.Form.{Sized}
use Rattle.tree.specs.Tree.{Tree, const, unary, binary, nodes, path, is_top, has_top}
use Rattle.theory.specs.SizedRun.{Storable}

-- a constant that fits its size is a word
const_word : (s v : ℕ) → Sized (const s v) → v < 2 ^ 64
const_word s v ok =
    let small = (size_bounds s (tree_is_size (const s v) ok refl)).1 in
    omega (arith, allowed s v None None Sizing.Constant ok, pow_mono {i = 8 * s} {j = 64} (omega arith))

module _ (arena : List Node) (w : Ordered arena) (st : Storable arena) where
  -- APPENDING

  appended : (node : Node) → Below (length arena) node → Sized (build (tree_at arena) node) → payload_of node < 2 ^ 64 → Storable (arena ++ node ∷ [])
  appended node b ok word = record { sized = λ i h. sized_at i h (dec_lt i (length arena)); payloads = λ i h. word_at i h (dec_lt i (length arena)) }
    where
      last : (i : ℕ) → i < length (arena ++ node ∷ []) → (i < length arena → ⊥) → length arena ≡ i
      last i h past = omega (arith, length_appended arena node)

      sized_at : (i : ℕ) → i < length (arena ++ node ∷ []) → Dec (i < length arena) → Sized (tree_at (arena ++ node ∷ []) i)
      sized_at i h (yes p) = rw (tree_stays w (appended_extends arena node) p) (st.sized i p)
      sized_at i h (no p) =
          subst (λ (n : ℕ). Sized (tree_at (arena ++ node ∷ []) n)) (last i h p) (rw (tree_appended arena node w b) ok)

      word_at : (i : ℕ) → i < length (arena ++ node ∷ []) → Dec (i < length arena) → payload_of (at (arena ++ node ∷ []) i) < 2 ^ 64
      word_at i h (yes p) = rw (get_or-append arena (node ∷ []) Node.Top i p) (st.payloads i p)
      word_at i h (no p) =
          subst (λ (n : ℕ). payload_of (at (arena ++ node ∷ []) n) < 2 ^ 64) (last i h p) (rw (at_appended arena node) word)

  with_top : Storable (arena ++ Node.Top ∷ [])
  with_top = appended Node.Top tt tt (omega arith)

  with_const : (s v : ℕ) → Sized (const_tree s v) → Storable (arena ++ make_const s v ∷ [])
  with_const s v ok = appended (make_const s v) tt ok (const_word s (v % 2 ^ (8 * s)) ok)

  with_unary : (op : Un) (s a : ℕ) → a < length arena → Sized (unary op s (tree_at arena a)) → Storable (arena ++ Node.Unary op s a ∷ [])
  with_unary op s a h ok = appended (Node.Unary op s a) h ok (omega arith)

  with_binary : (op : Bin) (s a b : ℕ) → a < length arena → b < length arena → Sized (binary op s (tree_at arena a) (tree_at arena b)) →
      Storable (arena ++ Node.Binary op s a b ∷ [])
  with_binary op s a b ha hb ok = appended (Node.Binary op s a b) (ha, hb) ok (omega arith)

  kept : (unchanged : Bool) (i : ℕ) (node : Node) → Storable (arena ++ node ∷ []) → Storable (kept_as unchanged i node arena).arena
  kept true i node more = st
  kept false i node more = more

-- WHAT AN ACTION LEAVES, if what is simplified again leaves a storable arena where it weighs less than W

abbrev StoresBelow : (List Node → ℕ → Out) → ℕ → Type 0
StoresBelow again W =
    (arena : List Node) → Ordered arena → Storable arena → (i : ℕ) → i < length arena → weight (tree_at arena i) < W → Storable (again arena i).arena

module _ (again : List Node → ℕ → Out) (W P : ℕ) (below : StoresBelow again W) (arena : List Node) (w : Ordered arena) (st : Storable arena)
    (s a b : ℕ) (ha : a < length arena) (hb : b < length arena) where
  acted_storable : (act : Act) (kept_o swapped_o : Out) (own swapped : Tree) → (Sized own → Storable kept_o.arena) → (Sized swapped → Storable swapped_o.arena) →
      ActSized act own swapped s (tree_at arena a) (tree_at arena b) → Falls act W P (tree_at arena a) (tree_at arena b) →
      Storable (acted again act kept_o swapped_o s arena a b).arena
  acted_storable Act.Keep kept_o swapped_o own swapped k z ok f = k ok
  acted_storable Act.Swap kept_o swapped_o own swapped k z ok f = z ok
  acted_storable (Act.Give p) kept_o swapped_o own swapped k z ok f = st
  acted_storable (Act.Make v) kept_o swapped_o own swapped k z ok f = with_const arena w st s v ok
  acted_storable (Act.Redo op p v) kept_o swapped_o own swapped k z ok f =
      let c = near_stands arena w a b ha hb p in
      let x = appended_stands arena (make_const s v) w tt in
      let y = redo_stands arena w op s v (near p arena a b) c.0 in
      let more = with_const arena w st s v ok.0 in
      below _ y.ordered
      (with_binary (arena ++ make_const s v ∷ []) x.ordered more op s (near p arena a b) (length arena) (omega (arith, c.0, x.extends.grown)) x.bound
      (rw (tree_stays w x.extends c.0, x.is, c.1) ok.1))
      _ y.bound (rw (y.is, c.1) (omega (arith, f.falls)))
  acted_storable (Act.RedoUnary op p) kept_o swapped_o own swapped k z ok f =
      let c = near_stands arena w a b ha hb p in
      let y = appended_stands arena (Node.Unary op s (near p arena a b)) w c.0 in
      below _ y.ordered (with_unary arena w st op s (near p arena a b) c.0 (rw c.1 ok))
      (length arena) y.bound (rw (y.is, c.1) (omega (arith, f.falls)))

module _ (arena : List Node) (o : Out) (t : Tree) (x : Stands arena (reduced t) o) where
  -- A VISIT. t and u are the trees of the children, before they are simplified

  free_before : is_top (tree_at o.arena o.index) ≡ false → has_top t ≡ false
  free_before e = sym (reduced_top t) ∙ ap is_top (sym x.is) ∙ e

  free_after : is_top (tree_at o.arena o.index) ≡ false → has_top (tree_at o.arena o.index) ≡ false
  free_after e = ap has_top x.is ∙ sym (normal_top (reduced t) (reduced_normal t)) ∙ ap is_top (sym x.is) ∙ e

module _ (arena : List Node) (i : ℕ) (op : Un) (s j : ℕ) (t : Tree) (ok : Sized (unary op s t)) (below : StoresBelow simplified (weight (unary op s t)))
    (o : Out) (x : Stands arena (reduced t) o) (st : Storable o.arena) where
  one_storable : (topped : Bool) → is_top (tree_at o.arena o.index) ≡ topped →
      Storable (unary_run simplified topped i op s j o.arena o.index).arena
  one_storable true e = with_top o.arena x.ordered st
  one_storable false e =
      let a = o.index in
      let u = tree_at o.arena a in
      let own = with_unary o.arena x.ordered st op s a x.bound in
      let fewer : nodes u ≤ nodes t = rw x.is (reduced_nodes t) in
      acted_storable simplified (weight (unary op s t)) (path (unary op s u)) below o.arena x.ordered st s a a x.bound x.bound (un_act op s u) _ _
      (unary op s u) (unary op s u) (λ fit. kept o.arena x.ordered st (eqb a j) i (Node.Unary op s a) (own fit)) own
      (un_act_sized op s u (st.sized a x.bound) (free_after arena o t x e) (rw x.is (over_reduced_one op s t ok (free_before arena o t x e)).0))
      (falls_weaker (un_act op s u) u u (omega arith) (omega arith) (unary_falls op s u))

-- l and r are where the left child's run and then the right child's ended
module _ (arena : List Node) (i : ℕ) (op : Bin) (s j k : ℕ) (t u : Tree) (ok : Sized (binary op s t u)) (below : StoresBelow simplified (weight (binary op s t u)))
    (l r : Out) (x : Stands arena (reduced t) l) (y : Stands l.arena (reduced u) r) (st : Storable r.arena) where
  abbrev a : Tree
  a = tree_at r.arena l.index

  abbrev b : Tree
  b = tree_at r.arena r.index

  left_is : a ≡ reduced t
  left_is = tree_stays x.ordered y.extends x.bound ∙ x.is

  left_bound : l.index < length r.arena
  left_bound = omega (arith, x.bound, y.extends.grown)

  left : Stands r.arena (reduced t) (record { arena = r.arena; index = l.index })
  left = record { ordered = y.ordered; extends = extends_refl r.arena; bound = left_bound; is = left_is }

  two_storable : (topped : Bool) → (is_top a || is_top b) ≡ topped → Storable (binary_run simplified topped i op s j k r.arena l.index r.index).arena
  two_storable true e = with_top r.arena y.ordered st
  two_storable false e =
      let p = or_left (is_top a) (is_top b) e in
      let q = or_right (is_top a) (is_top b) e in
      let free_t = free_before r.arena _ t left p in
      let free_u = free_before l.arena r u y q in
      let own = with_binary r.arena y.ordered st op s l.index r.index left_bound y.bound in
      let fewer_t : nodes a ≤ nodes t = rw left_is (reduced_nodes t) in
      let fewer_u : nodes b ≤ nodes u = rw y.is (reduced_nodes u) in
      acted_storable simplified (weight (binary op s t u)) (path (binary op s a b)) below r.arena y.ordered st s l.index r.index left_bound y.bound (bin_act op s a b) _ _
      (binary op s a b) (binary op s b a) (λ fit. kept r.arena y.ordered st (eqb l.index j && eqb r.index k) i (Node.Binary op s l.index r.index) (own fit))
      (with_binary r.arena y.ordered st op s r.index l.index y.bound left_bound)
      (bin_act_sized op s a b (st.sized l.index left_bound) (st.sized r.index y.bound) (free_after r.arena _ t left p) (free_after l.arena r u y q)
      (rw (left_is, y.is) (over_reduced_two op s t u ok (or_neither (has_top t) (has_top u) free_t free_u)).0))
      (falls_weaker (bin_act op s a b) a b (omega arith) (omega arith) (binary_falls op s a b))

visit_storable : (arena : List Node) → Ordered arena → Storable arena → (i : ℕ) → i < length arena → (node : Node) → Below i node → Sized (build (tree_at arena) node) →
    StoresBelow simplified (weight (build (tree_at arena) node)) → Storable (visit simplified arena i node).arena
visit_storable arena w st i b Node.Top o ok below = st
visit_storable arena w st i b (Node.Entry s sp p) o ok below = st
visit_storable arena w st i b (Node.Const s v) o ok below = st
visit_storable arena w st i b (Node.Bind s d) o ok below = st
visit_storable arena w st i b (Node.Unary op s j) o ok below =
    let hj : j < length arena = omega arith in
    let t = tree_at arena j in
    one_storable arena i op s j t ok below (simplified arena j) (simplified_stands arena w j hj) (below arena w st j hj (omega (arith, sub_le t))) _ refl
visit_storable arena w st i b (Node.Binary op s j k) o ok below =
    let hj : j < length arena = omega (arith, o.0) in
    let hk : k < length arena = omega (arith, o.1) in
    let l = simplified arena j in
    let x = simplified_stands arena w j hj in
    let t = tree_at arena j in
    let u = tree_at arena k in
    let same = tree_stays w x.extends hk in
    let hk' : k < length l.arena = omega (arith, x.extends.grown) in
    let y = onward (extends_refl l.arena) (ap reduced same) (simplified_stands l.arena x.ordered k hk') in
    let after_left = below arena w st j hj (omega (arith, sub_le t)) in
    two_storable arena i op s j k t u ok below l (simplified l.arena k) x y
    (below l.arena x.ordered after_left k hk' (rw same (omega (arith, sub_le u)))) _ refl

within : (n : ℕ) → StoresBelow simplified n
within zero arena w st i b h = absurd (omega arith)
within (suc n) arena w st i b h =
    let e = tree_eq arena w i b in
    rw (simplified_eq arena w i b)
    (visit_storable arena w st i b (at arena i) (w i b) (rw e at (st.sized i b))
    (subst (λ (t : Tree). StoresBelow simplified (weight t)) e (λ arena' w' st' j b' l. within n arena' w' st' j b' (omega arith))))

-- the run leaves a storable arena
pub simplified_storable : (arena : List Node) → Ordered arena → Storable arena → (i : ℕ) → i < length arena → Storable (simplified arena i).arena
simplified_storable arena w st i b = within (suc (weight (tree_at arena i))) arena w st i b (omega arith)
