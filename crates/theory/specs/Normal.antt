-- The normal form: at every node the rule says keep, and no child is Top. What is normal stays as it is. Assumes nothing.
-- The laws that rest on what an edit in must-fail/ changes are in proofs/Normal.antt.
use Rattle.std.specs.Prelude.{Bool, true, false, cond, ◌||◌, ◌≡◌, refl, ℕ, eqb, leb, None, Option, Some}
use Rattle.std.proofs.Common.{ap, sym, ◌∙◌, arith}
use Rattle.format.specs.declared.Bin.{Bin}
use Rattle.format.specs.declared.Un.{Un}
use Rattle.rules.specs.Rules.{constant_of, view, rule_of, on_left, on_right, on_equal, decided, bin_act, neg_act, sext_inner, un_act}
use Rattle.rules.specs.declared.Act.{Act}
use Rattle.rules.specs.declared.Beside.{Beside}
use Rattle.rules.specs.declared.Equals.{Equals}
use Rattle.rules.specs.declared.Near.{Near}
use Rattle.rules.specs.declared.View.{View}
use Rattle.format.specs.Truth.{or_left, or_right}
use Rattle.tree.specs.Tree.{Tree, top, entry, const, bind, unary, binary, size, is_top, has_top, has_input, same}

abbrev pub Normal : Tree → Type 0
Normal top = Unit {0}
Normal (entry s space offset) = Unit {0}
Normal (const s v) = Unit {0}
Normal (bind s id) = Unit {0}
Normal (unary op s a) = Normal a × (is_top a ≡ false) × (un_act op s a ≡ Act.Keep)
Normal (binary op s a b) = Normal a × Normal b × ((is_top a || is_top b) ≡ false) × (bin_act op s a b ≡ Act.Keep)

-- A NORMAL TREE STAYS, for any number of steps

-- a normal tree has a Top only if it is one
pub normal_top : (t : Tree) → Normal t → is_top t ≡ has_top t
normal_top top h = refl
normal_top (entry s sp o) h = refl
normal_top (const s v) h = refl
normal_top (bind s d) h = refl
normal_top (unary op s a) h = sym h.1 ∙ normal_top a h.0
normal_top (binary op s a b) h = sym h.2 ∙ cc (normal_top a h.0, normal_top b h.1)

-- A NORMAL TREE WITHOUT TOP AND INPUTS IS A CONSTANT: a rule never keeps a node over constants alone

unfoldable pub IsConst : Tree → Type 0
IsConst t = (s : ℕ) × (v : ℕ) × (t ≡ const s v)

-- a number for each action, to tell them apart
abbrev pub tag : Act → ℕ
tag Act.Keep = 0
tag Act.Swap = 1
tag (Act.Give w) = 2
tag (Act.Make v) = 3
tag (Act.Redo op w v) = 4
tag (Act.RedoUnary op w) = 5

unary_folds : (op : Un) (s c v : ℕ) → tag (un_act op s (const c v)) ≡ 0 → ⊥
unary_folds Un.Int2Comp s c v e = omega arith
unary_folds Un.SignExtend s c v e = go (eqb c s) e
  where
    go : (q : Bool) → tag (cond q (Act.Give Near.Left) (sext_inner s c (View.Constant v))) ≡ 0 → ⊥
    go true e = omega arith
    go false e = omega arith

unary_folds_const : (op : Un) (s : ℕ) (a : Tree) → IsConst a → un_act op s a ≡ Act.Keep → ⊥
unfolding IsConst
unary_folds_const op s a c e = unary_folds op s c.0 c.1 (rw c.2 at (ap tag e))

binary_folds_const : (op : Bin) (s : ℕ) (a b : Tree) → IsConst a → IsConst b → bin_act op s a b ≡ Act.Keep → ⊥
unfolding IsConst
binary_folds_const op s a b c d e =
    let z : tag (bin_act op s a b) ≡ 3 = rw (c.2, d.2) in
    omega (arith, ap tag e)

pub normal_inputless : (t : Tree) → Normal t → has_top t ≡ false → has_input t ≡ false → IsConst t
unfolding IsConst
normal_inputless top h p q = let z : ◌≡◌ {A = ℕ} 0 1 = cc in absurd (omega arith)
normal_inputless (entry s sp o) h p q = let z : ◌≡◌ {A = ℕ} 0 1 = cc in absurd (omega arith)
normal_inputless (const s v) h p q = (s, v, refl)
normal_inputless (bind s d) h p q = let z : ◌≡◌ {A = ℕ} 0 1 = cc in absurd (omega arith)
normal_inputless (unary op s a) h p q = absurd (unary_folds_const op s a (normal_inputless a h.0 p q) h.2)
normal_inputless (binary op s a b) h p q =
    absurd (binary_folds_const op s a b (normal_inputless a h.0 (or_left _ _ p) (or_left _ _ q))
    (normal_inputless b h.1 (or_right (has_top a) _ p) (or_right (has_input a) _ q)) h.3)

-- A RULE KEEPS WHAT IT SWAPPED

left_no_swap : (o : Beside) → tag (on_left o) ≡ 1 → ⊥
left_no_swap Beside.Stay e = omega arith
left_no_swap Beside.Itself e = omega arith
left_no_swap (Beside.Make v) e = omega arith
left_no_swap (Beside.Redo op v) e = omega arith
left_no_swap (Beside.RedoInner op v) e = omega arith

right_swap : (o : Beside) → tag (on_right o) ≡ 1 → on_left o ≡ Act.Keep
right_swap Beside.Stay e = refl
right_swap Beside.Itself e = absurd (omega arith)
right_swap (Beside.Make v) e = absurd (omega arith)
right_swap (Beside.Redo op v) e = absurd (omega arith)
right_swap (Beside.RedoInner op v) e = absurd (omega arith)

equal_no_swap : (alike : Bool) (o : Equals) → tag (cond alike (on_equal o) Act.Keep) ≡ 1 → ⊥
equal_no_swap true Equals.Stay e = omega arith
equal_no_swap true Equals.Zero e = omega arith
equal_no_swap true Equals.Left e = omega arith
equal_no_swap false o e = omega arith

swap_if_commuting : (swaps : Bool) (o : Beside) → tag (cond swaps (on_right o) Act.Keep) ≡ 1 → (swaps ≡ true) × (on_left o ≡ Act.Keep)
swap_if_commuting true o e = (refl, right_swap o e)
swap_if_commuting false o e = absurd (omega arith)

decided_swap : (op : Bin) (s : ℕ) (p q : Bool) (x y : View) (c d : ℕ) (u v : Option ℕ) → tag (decided op s p x y c u v) ≡ 1 →
    ((rule_of op).swaps ≡ true) × (decided op s q y x d v u ≡ Act.Keep)
decided_swap op s p q x y c d None None e = absurd (equal_no_swap p (rule_of op).equal e)
decided_swap op s p q x y c d None (Some n) e = absurd (left_no_swap ((rule_of op).beside s x n) e)
decided_swap op s p q x y c d (Some n) None e = swap_if_commuting (rule_of op).swaps ((rule_of op).beside s y n) e
decided_swap op s p q x y c d (Some m) (Some n) e = absurd (omega arith)

pub swap_keeps : (op : Bin) (s : ℕ) (a b : Tree) → bin_act op s a b ≡ Act.Swap → ((rule_of op).swaps ≡ true) × (bin_act op s b a ≡ Act.Keep)
swap_keeps op s a b e = decided_swap op s (same a b) (same b a) (view a) (view b) (size a) (size b) (constant_of a) (constant_of b) (ap tag e)

-- a rule of one child never swaps
neg_no_swap : (s : ℕ) (v : View) → tag (neg_act s v) ≡ 1 → ⊥
neg_no_swap s (View.Constant n) e = omega arith
neg_no_swap s (View.Plus n) e = omega arith
neg_no_swap s (View.Minus n) e = omega arith
neg_no_swap s View.Negation e = omega arith
neg_no_swap s (View.Extension c) e = omega arith
neg_no_swap s View.Other e = omega arith

extension_no_swap : (q : Bool) → tag (cond q (Act.RedoUnary Un.SignExtend Near.LeftLeft) Act.Keep) ≡ 1 → ⊥
extension_no_swap true e = omega arith
extension_no_swap false e = omega arith

sext_no_swap : (q : Bool) (s c : ℕ) (v : View) → tag (cond q (Act.Give Near.Left) (sext_inner s c v)) ≡ 1 → ⊥
sext_no_swap true s c v e = omega arith
sext_no_swap false s c (View.Constant n) e = omega arith
sext_no_swap false s c (View.Plus n) e = omega arith
sext_no_swap false s c (View.Minus n) e = omega arith
sext_no_swap false s c View.Negation e = omega arith
sext_no_swap false s c (View.Extension d) e = extension_no_swap (leb d s) e
sext_no_swap false s c View.Other e = omega arith

pub unary_no_swap : (op : Un) (s : ℕ) (a : Tree) → un_act op s a ≡ Act.Swap → ⊥
unary_no_swap Un.SignExtend s a e = sext_no_swap (eqb (size a) s) s (size a) (view a) (ap tag e)
unary_no_swap Un.Int2Comp s a e = neg_no_swap s (view a) (ap tag e)
