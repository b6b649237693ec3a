-- What the run makes of a tree: a normal tree, no larger and with no longer path, that is Top exactly if a Top was reachable; and
-- enough steps are enough. Assumes nothing.
use Rattle.std.specs.Prelude.{Bool, true, false, ◌||◌, ◌≡◌, refl, ℕ, zero, suc, ◌+◌, ◌*◌, ◌≤◌, ◌<◌, max}
use Rattle.std.proofs.Common.{ap, sym, ◌∙◌, arith}
use Rattle.std.proofs.Math.Nat.{le-max_left, le-max_right, max-le, max_comm}
use Rattle.format.specs.declared.Bin.{Bin}
use Rattle.format.specs.declared.Un.{Un}
use Rattle.rules.specs.Rules.{bin_act, un_act}
use Rattle.rules.specs.Run.{is_sub, weight}
use Rattle.rules.specs.declared.Act.{Act}
use Rattle.rules.specs.declared.Near.{Near}
use Rattle.format.specs.Truth.{or_left, or_right, or_swapped, or_cong}
use Rattle.theory.specs.Falls.{nodes_positive, path_positive, sub_le, Falls, falls_weaker, unary_falls, binary_falls}
use Rattle.theory.specs.Keeps.{left_free}
use Rattle.theory.specs.Normal.{Normal, normal_top, swap_keeps, unary_no_swap}
use Rattle.theory.specs.TreeRun.{near_tree, const_tree, acted_tree, unary_tree, binary_tree, over_one, over_two, visit_tree, reduced_for, reduced}
use Rattle.tree.specs.Tree.{Tree, top, entry, const, bind, unary, binary, nodes, path, is_top, has_top}
use Rattle.theory.specs.Reduced.{Outcome, WellBelow, left_normal, no_more_nodes}

module _ (a b : Tree) where
  pub near_normal : (w : Near) → Normal a → Normal b → Normal (near_tree w a b)
  near_normal Near.Left p q = p
  near_normal Near.Right p q = q
  near_normal Near.LeftLeft p q = left_normal a p
  near_normal Near.RightLeft p q = left_normal b q

  pub near_topless : (w : Near) → has_top a ≡ false → has_top b ≡ false → has_top (near_tree w a b) ≡ false
  near_topless Near.Left p q = p
  near_topless Near.Right p q = q
  near_topless Near.LeftLeft p q = left_free a p
  near_topless Near.RightLeft p q = left_free b q

looser : {U W P Q : ℕ} {c d : Bool} {u : Tree} → U ≤ W → P ≤ Q → c ≡ d → Outcome U P c u → Outcome W Q d u
looser h i e g = record {
  normal = g.normal;
  within = record { light = omega (arith, g.within.light); short = omega (arith, g.within.short) };
  top_is = g.top_is ∙ e;
}

redo_short : (op : Bin) (s v P : ℕ) (e : Tree) → suc (path e) ≤ P → path (binary op s e (const_tree s v)) ≤ P
redo_short op s v P e h =
    let m : max (path e) 1 ≤ path e = max-le (omega arith) (path_positive e) in
    omega arith

acted_outcome : (again : Tree → Tree) (W P : ℕ) → 2 ≤ W → 1 ≤ P → WellBelow again W → (act : Act) (kept swapped : Tree) (s : ℕ) (a b : Tree) →
    Normal a → Normal b → has_top a ≡ false → has_top b ≡ false → Falls act W P a b →
    (act ≡ Act.Keep → Outcome W P false kept) → (act ≡ Act.Swap → Outcome W P false swapped) → Outcome W P false (acted_tree again act kept swapped s a b)
acted_outcome again W P i j g Act.Keep kept swapped s a b p q x y f k w = k refl
acted_outcome again W P i j g Act.Swap kept swapped s a b p q x y f k w = w refl
acted_outcome again W P i j g (Act.Give z) kept swapped s a b p q x y f k w =
    let h = near_normal a b z p q in
    record { normal = h; within = f; top_is = normal_top (near_tree z a b) h ∙ near_topless a b z x y }
acted_outcome again W P i j g (Act.Make v) kept swapped s a b p q x y f k w =
    record { normal = tt; within = record { light = omega arith; short = j }; top_is = refl }
acted_outcome again W P i j g (Act.Redo op z v) kept swapped s a b p q x y f k w =
    let u = binary op s (near_tree z a b) (const_tree s v) in
    looser (omega (arith, f.falls)) (redo_short op s v P (near_tree z a b) f.short) (rw (near_topless a b z x y)) (g u (omega (arith, f.falls)))
acted_outcome again W P i j g (Act.RedoUnary op z) kept swapped s a b p q x y f k w =
    looser (omega (arith, f.falls)) f.short (near_topless a b z x y) (g (unary op s (near_tree z a b)) (omega (arith, f.falls)))

max_mono : (m n p q : ℕ) → m ≤ p → n ≤ q → max m n ≤ max p q
max_mono m n p q h i = max-le (omega (arith, le-max_left p q)) (omega (arith, le-max_right p q))

unary_kept : (op : Un) (s : ℕ) (a a' : Tree) → Outcome (weight a) (path a) (has_top a) a' → is_top a' ≡ false → un_act op s a' ≡ Act.Keep →
    Outcome (weight (unary op s a)) (path (unary op s a)) false (unary op s a')
unary_kept op s a a' g e q = record {
  normal = (g.normal, e, q);
  within = record { light = omega (arith, sub_le a, g.within.light); short = omega (arith, g.within.short) };
  top_is = refl;
}

binary_kept : (op : Bin) (s W P : ℕ) (a b : Tree) → 2 * suc (nodes a + nodes b) + is_sub op ≤ W → suc (max (path a) (path b)) ≤ P → Normal a → Normal b →
    (is_top a || is_top b) ≡ false → bin_act op s a b ≡ Act.Keep → Outcome W P false (binary op s a b)
binary_kept op s W P a b h i p q e k = record { normal = (p, q, e, k); within = record { light = h; short = i }; top_is = refl }

unary_outcome : (again : Tree → Tree) (op : Un) (s : ℕ) (a a' : Tree) → WellBelow again (weight (unary op s a)) → Outcome (weight a) (path a) (has_top a) a' →
    (c : Bool) → is_top a' ≡ c → Outcome (weight (unary op s a)) (path (unary op s a)) (has_top a) (unary_tree again c op s a')
unary_outcome again op s a a' g h true e =
    record { normal = tt; within = record { light = omega (arith, nodes_positive a); short = omega arith }; top_is = sym e ∙ h.top_is }
unary_outcome again op s a a' g h false e =
    let x = normal_top a' h.normal in
    looser (omega arith) (omega arith) (sym e ∙ h.top_is)
    (acted_outcome again (weight (unary op s a)) (path (unary op s a)) (omega (arith, nodes_positive a)) (omega arith) g (un_act op s a') (unary op s a') (unary op s a') s a' a'
    h.normal h.normal (sym x ∙ e) (sym x ∙ e)
    (falls_weaker (un_act op s a') a' a' (omega (arith, no_more_nodes a a' h)) (omega (arith, h.within.short)) (unary_falls op s a'))
    (unary_kept op s a a' h e) (λ q. absurd (unary_no_swap op s a' q)))

module _ (again : Tree → Tree) (op : Bin) (s : ℕ) (a b a' b' : Tree) (g : WellBelow again (weight (binary op s a b)))
    (h : Outcome (weight a) (path a) (has_top a) a') (h' : Outcome (weight b) (path b) (has_top b) b') where
  fewer : nodes a' + nodes b' ≤ nodes a + nodes b
  fewer = omega (arith, no_more_nodes a a' h, no_more_nodes b b' h')

  shorter : max (path a') (path b') ≤ max (path a) (path b)
  shorter = max_mono (path a') (path b') (path a) (path b) h.within.short h'.within.short

  binary_outcome : (c : Bool) → (is_top a' || is_top b') ≡ c →
      Outcome (weight (binary op s a b)) (path (binary op s a b)) (has_top a || has_top b) (binary_tree again c op s a' b')
  binary_outcome true e = record {
    normal = tt;
    within = record { light = omega (arith, nodes_positive a); short = omega arith };
    top_is = sym e ∙ or_cong h.top_is h'.top_is;
  }
  binary_outcome false e =
      let x = normal_top a' h.normal in
      let y = normal_top b' h'.normal in
      looser (omega arith) (omega arith) (sym e ∙ or_cong h.top_is h'.top_is)
      (acted_outcome again (weight (binary op s a b)) (path (binary op s a b)) (omega (arith, nodes_positive a)) (omega arith) g (bin_act op s a' b')
      (binary op s a' b') (binary op s b' a') s a' b' h.normal h'.normal (sym x ∙ or_left _ _ e) (sym y ∙ or_right (is_top a') _ e)
      (falls_weaker (bin_act op s a' b') a' b' (omega (arith, fewer)) (omega (arith, shorter)) (binary_falls op s a' b'))
      (binary_kept op s _ _ a' b' (omega (arith, fewer)) (omega (arith, shorter)) h.normal h'.normal e)
      (λ q. binary_kept op s _ _ b' a' (omega (arith, fewer)) (omega (arith, shorter, max_comm (path a') (path b'))) h'.normal h.normal
      (or_swapped (is_top a') (is_top b') e) (swap_keeps op s a' b' q).1))

leaf_outcome : (t : Tree) {c : Bool} → Normal t → is_top t ≡ c → Outcome (weight t) (path t) c t
leaf_outcome t n e = record { normal = n; within = record { light = omega arith; short = omega arith }; top_is = e }

visit_outcome : (again : Tree → Tree) (t : Tree) → WellBelow again (weight t) → Outcome (weight t) (path t) (has_top t) (visit_tree again t)
visit_outcome again top g = leaf_outcome top tt refl
visit_outcome again (entry s sp o) g = leaf_outcome (entry s sp o) tt refl
visit_outcome again (const s v) g = leaf_outcome (const s v) tt refl
visit_outcome again (bind s d) g = leaf_outcome (bind s d) tt refl
visit_outcome again (unary op s a) g = unary_outcome again op s a (again a) g (g a (omega (arith, sub_le a))) (is_top (again a)) refl
visit_outcome again (binary op s a b) g =
    binary_outcome again op s a b (again a) (again b) g (g a (omega (arith, sub_le a))) (g b (omega (arith, sub_le b))) (is_top (again a) || is_top (again b)) refl

pub outcome : (n : ℕ) (t : Tree) → weight t ≤ n → Outcome (weight t) (path t) (has_top t) (reduced_for n t)
outcome zero t h = absurd (omega (arith, nodes_positive t))
outcome (suc n) t h = visit_outcome (reduced_for n) t (λ u p. outcome n u (omega arith))

-- ENOUGH STEPS ARE ENOUGH

acted_cong : (f g : Tree → Tree) (W P : ℕ) → ((u : Tree) → weight u < W → f u ≡ g u) → (act : Act) (kept swapped : Tree) (s : ℕ) (a b : Tree) → Falls act W P a b →
    acted_tree f act kept swapped s a b ≡ acted_tree g act kept swapped s a b
acted_cong f g W P e Act.Keep kept swapped s a b d = refl
acted_cong f g W P e Act.Swap kept swapped s a b d = refl
acted_cong f g W P e (Act.Give w) kept swapped s a b d = refl
acted_cong f g W P e (Act.Make v) kept swapped s a b d = refl
acted_cong f g W P e (Act.Redo op w v) kept swapped s a b d = e (binary op s (near_tree w a b) (const_tree s v)) (omega (arith, d.falls))
acted_cong f g W P e (Act.RedoUnary op w) kept swapped s a b d = e (unary op s (near_tree w a b)) (omega (arith, d.falls))

unary_cong : (f g : Tree → Tree) (op : Un) (s : ℕ) (a a' : Tree) → nodes a' ≤ nodes a → ((u : Tree) → weight u < weight (unary op s a) → f u ≡ g u) → (c : Bool) →
    unary_tree f c op s a' ≡ unary_tree g c op s a'
unary_cong f g op s a a' i e true = refl
unary_cong f g op s a a' i e false =
    acted_cong f g (weight (unary op s a)) (path (unary op s a')) e (un_act op s a') _ _ s a' a'
    (falls_weaker (un_act op s a') a' a' (omega arith) (omega arith) (unary_falls op s a'))

binary_cong : (f g : Tree → Tree) (op : Bin) (s : ℕ) (a b a' b' : Tree) → nodes a' ≤ nodes a → nodes b' ≤ nodes b →
    ((u : Tree) → weight u < weight (binary op s a b) → f u ≡ g u) → (c : Bool) → binary_tree f c op s a' b' ≡ binary_tree g c op s a' b'
binary_cong f g op s a b a' b' i j e true = refl
binary_cong f g op s a b a' b' i j e false =
    acted_cong f g (weight (binary op s a b)) (path (binary op s a' b')) e (bin_act op s a' b') _ _ s a' b'
    (falls_weaker (bin_act op s a' b') a' b' (omega arith) (omega arith) (binary_falls op s a' b'))

visit_cong : (f g : Tree → Tree) (t : Tree) → WellBelow g (weight t) → ((u : Tree) → weight u < weight t → f u ≡ g u) → visit_tree f t ≡ visit_tree g t
visit_cong f g top b e = refl
visit_cong f g (entry s sp o) b e = refl
visit_cong f g (const s v) b e = refl
visit_cong f g (bind s d) b e = refl
visit_cong f g (unary op s a) h e =
    ap (over_one f op s) (e a (omega (arith, sub_le a)))
    ∙ unary_cong f g op s a (g a) (no_more_nodes a (g a) (h a (omega (arith, sub_le a)))) e (is_top (g a))
visit_cong f g (binary op s a b) h e =
    ap (λ (x : Tree). over_two f op s x (f b)) (e a (omega (arith, sub_le a)))
    ∙ ap (over_two f op s (g a)) (e b (omega (arith, sub_le b)))
    ∙ binary_cong f g op s a b (g a) (g b) (no_more_nodes a (g a) (h a (omega (arith, sub_le a)))) (no_more_nodes b (g b) (h b (omega (arith, sub_le b)))) e (is_top (g a) || is_top (g b))

pub enough_steps : (m n : ℕ) (t : Tree) → weight t ≤ m → weight t ≤ n → reduced_for m t ≡ reduced_for n t
enough_steps zero n t h i = absurd (omega (arith, nodes_positive t))
enough_steps (suc m) zero t h i = absurd (omega (arith, nodes_positive t))
enough_steps (suc m) (suc n) t h i =
    visit_cong (reduced_for m) (reduced_for n) t (λ u p. outcome n u (omega arith)) (λ u p. enough_steps m n u (omega arith) (omega arith))

-- WHAT FOLLOWS FOR THE WHOLE RUN

pub reduced_normal : (t : Tree) → Normal (reduced t)
reduced_normal t = (outcome (weight t) t (omega arith)).normal

pub reduced_top : (t : Tree) → is_top (reduced t) ≡ has_top t
reduced_top t = (outcome (weight t) t (omega arith)).top_is

pub reduced_nodes : (t : Tree) → nodes (reduced t) ≤ nodes t
reduced_nodes t = no_more_nodes t (reduced t) (outcome (weight t) t (omega arith))

pub reduced_path : (t : Tree) → path (reduced t) ≤ path t
reduced_path t = (outcome (weight t) t (omega arith)).within.short
