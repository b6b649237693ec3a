-- What an action makes is no larger than the node that it is for: it weighs less where it is simplified again, and its paths are no
-- longer. So the run ends, and no tree grows. Assumes nothing.
use Rattle.std.specs.Prelude.{Bool, cond, ℕ, suc, ◌+◌, ◌*◌, ◌^◌, ◌-◌, ◌≤◌, ◌<◌, eqb, leb, None, Option, Some}
use Rattle.std.proofs.Math.Nat.{le-max_left, le-max_right}
use Rattle.std.proofs.Common.{arith}
use Rattle.format.specs.declared.Bin.{Bin}
use Rattle.format.specs.declared.Un.{Un}
use Rattle.manual.specs.Operations.{int_sub, negative64}
use Rattle.rules.specs.Rules.{constant_of, bin_view, view, add_inner, sub_inner, rule_of, moved, on_left, on_right, on_equal, decided, bin_act, neg_act, sext_inner, un_act}
use Rattle.rules.specs.Run.{is_sub, sub_at_root, weight}
use Rattle.rules.specs.declared.Act.{Act}
use Rattle.rules.specs.declared.Beside.{Beside}
use Rattle.rules.specs.declared.Equals.{Equals}
use Rattle.rules.specs.declared.View.{View}
use Rattle.format.specs.Truth.{either}
use Rattle.theory.specs.TreeRun.{left_of, near_tree}
use Rattle.tree.specs.Tree.{Tree, top, entry, const, bind, unary, binary, size, nodes, path, same}

pub nodes_positive : (t : Tree) → 0 < nodes t
nodes_positive top = omega arith
nodes_positive (entry s sp o) = omega arith
nodes_positive (const s v) = omega arith
nodes_positive (bind s d) = omega arith
nodes_positive (unary op s a) = omega arith
nodes_positive (binary op s a b) = omega arith

pub path_positive : (t : Tree) → 0 < path t
path_positive top = omega arith
path_positive (entry s sp o) = omega arith
path_positive (const s v) = omega arith
path_positive (bind s d) = omega arith
path_positive (unary op s a) = omega arith
path_positive (binary op s a b) = omega arith

is_sub_le : (op : Bin) → is_sub op ≤ 1
is_sub_le Bin.Add = omega arith
is_sub_le Bin.Sub = omega arith
is_sub_le Bin.Mul = omega arith
is_sub_le Bin.Xor = omega arith
is_sub_le Bin.Or = omega arith
is_sub_le Bin.IntLeftShift = omega arith
is_sub_le Bin.IntRightShift = omega arith
is_sub_le Bin.IntSignedRightShift = omega arith
is_sub_le Bin.IntCarry = omega arith
is_sub_le Bin.IntSCarry = omega arith
is_sub_le Bin.IntSBorrow = omega arith

pub sub_le : (t : Tree) → sub_at_root t ≤ 1
sub_le top = omega arith
sub_le (entry s sp o) = omega arith
sub_le (const s v) = omega arith
sub_le (bind s d) = omega arith
sub_le (unary op s a) = omega arith
sub_le (binary op s a b) = is_sub_le op

-- t is within a bound of W on the weight and of P on the paths
pub record Within (W P : ℕ) (t : Tree) : Type 0 where
  pub light : weight t ≤ W
  pub short : path t ≤ P

-- a rebuilt node over e: with a constant beside it, or alone. It weighs less than W, and its paths are within P
pub record Redone (W P : ℕ) (op : Bin) (e : Tree) : Type 0 where
  pub falls : 2 * (nodes e + 2) + is_sub op < W
  pub short : suc (path e) ≤ P

pub record RedoneUnary (W P : ℕ) (e : Tree) : Type 0 where
  pub falls : 2 * (nodes e + 1) < W
  pub short : suc (path e) ≤ P

-- what an action makes of a node of weight W whose paths have at most P nodes
abbrev pub Falls : Act → (W P : ℕ) → (a b : Tree) → Type 0
Falls Act.Keep W P a b = Unit {0}
Falls Act.Swap W P a b = Unit {0}
Falls (Act.Give w) W P a b = Within W P (near_tree w a b)
Falls (Act.Make v) W P a b = Unit {0}
Falls (Act.Redo op w v) W P a b = Redone W P op (near_tree w a b)
Falls (Act.RedoUnary op w) W P a b = RedoneUnary W P (near_tree w a b)

pub falls_weaker : (act : Act) {U W P Q : ℕ} (a b : Tree) → U ≤ W → P ≤ Q → Falls act U P a b → Falls act W Q a b
falls_weaker Act.Keep a b h g f = tt
falls_weaker Act.Swap a b h g f = tt
falls_weaker (Act.Give w) a b h g f = record { light = omega (arith, f.light); short = omega (arith, f.short) }
falls_weaker (Act.Make v) a b h g f = tt
falls_weaker (Act.Redo op w v) a b h g f = record { falls = omega (arith, f.falls); short = omega (arith, f.short) }
falls_weaker (Act.RedoUnary op w) a b h g f = record { falls = omega (arith, f.falls); short = omega (arith, f.short) }

-- WHAT A VIEW SAYS OF A TREE'S LEFT CHILD: it lies below, and beside a constant where the view shows one

pub record Inside (extra : ℕ) (t : Tree) : Type 0 where
  pub fewer : nodes (left_of t) + extra ≤ nodes t
  pub shorter : suc (path (left_of t)) ≤ path t

abbrev InsideView : View → Tree → Type 0
InsideView (View.Constant a) t = Unit {0}
InsideView (View.Plus a) t = Inside 2 t
InsideView (View.Minus a) t = Inside 2 t
InsideView View.Negation t = Inside 1 t
InsideView (View.Extension c) t = Inside 1 t
InsideView View.Other t = Unit {0}

under_two : (op : Bin) (s : ℕ) (a b : Tree) → Inside 2 (binary op s a b)
under_two op s a b =
    let h = nodes_positive b in
    record { fewer = omega arith; shorter = omega (arith, le-max_left (path a) (path b)) }

bin_inside : (op : Bin) (s : ℕ) (a b : Tree) (c : Option ℕ) → InsideView (bin_view op c) (binary op s a b)
bin_inside Bin.Add s a b None = tt
bin_inside Bin.Add s a b (Some v) = under_two Bin.Add s a b
bin_inside Bin.Sub s a b None = tt
bin_inside Bin.Sub s a b (Some v) = under_two Bin.Sub s a b
bin_inside Bin.Mul s a b c = tt
bin_inside Bin.Xor s a b c = tt
bin_inside Bin.Or s a b c = tt
bin_inside Bin.IntLeftShift s a b c = tt
bin_inside Bin.IntRightShift s a b c = tt
bin_inside Bin.IntSignedRightShift s a b c = tt
bin_inside Bin.IntCarry s a b c = tt
bin_inside Bin.IntSCarry s a b c = tt
bin_inside Bin.IntSBorrow s a b c = tt

inside : (t : Tree) → InsideView (view t) t
inside top = tt
inside (entry s sp o) = tt
inside (const s v) = tt
inside (bind s d) = tt
inside (unary Un.SignExtend s a) = record { fewer = omega arith; shorter = omega arith }
inside (unary Un.Int2Comp s a) = record { fewer = omega arith; shorter = omega arith }
inside (binary op s a b) = bin_inside op s a b (constant_of b)

-- RULES OF TWO CHILDREN: beside a constant

abbrev FallsBeside : (W P : ℕ) → Tree → Beside → Type 0
FallsBeside W P e Beside.Stay = Unit {0}
FallsBeside W P e Beside.Itself = Unit {0}
FallsBeside W P e (Beside.Make v) = Unit {0}
FallsBeside W P e (Beside.Redo op v) = Redone W P op e
FallsBeside W P e (Beside.RedoInner op v) = Redone W P op (left_of e)

-- W and P are bounds for a node over e
module _ (W P : ℕ) (e : Tree) where
  inner_redone : (op : Bin) → Inside 2 e → 2 * nodes e + 2 ≤ W → suc (path e) ≤ P → Redone W P op (left_of e)
  inner_redone op i g h = record { falls = omega (arith, i.fewer, is_sub_le op); short = omega (arith, i.shorter) }

  moved_falls : (d : ℕ) (negative else : Bin) → Inside 2 e → 2 * nodes e + 2 ≤ W → suc (path e) ≤ P → FallsBeside W P e (moved d negative else)
  moved_falls d negative else i g h = either (FallsBeside W P e) (negative64 d) (inner_redone negative i g h) (inner_redone else i g h)

  add_inner_falls : (v : View) (n : ℕ) → InsideView v e → 2 * nodes e + 2 ≤ W → suc (path e) ≤ P → FallsBeside W P e (add_inner v n)
  add_inner_falls (View.Constant a) n i g h = tt
  add_inner_falls (View.Plus a) n i g h = inner_redone Bin.Add i g h
  add_inner_falls (View.Minus a) n i g h = moved_falls (int_sub 64 a n) Bin.Add Bin.Sub i g h
  add_inner_falls View.Negation n i g h = tt
  add_inner_falls (View.Extension c) n i g h = tt
  add_inner_falls View.Other n i g h = tt

  sub_inner_falls : (v : View) (n : ℕ) → InsideView v e → 2 * nodes e + 2 ≤ W → suc (path e) ≤ P → FallsBeside W P e (sub_inner v n)
  sub_inner_falls (View.Constant a) n i g h = tt
  sub_inner_falls (View.Plus a) n i g h = moved_falls (int_sub 64 a n) Bin.Sub Bin.Add i g h
  sub_inner_falls (View.Minus a) n i g h = inner_redone Bin.Sub i g h
  sub_inner_falls View.Negation n i g h = tt
  sub_inner_falls (View.Extension c) n i g h = tt
  sub_inner_falls View.Other n i g h = tt

  -- one stop: nothing is rebuilt
  stop_falls : (c : Bool) → FallsBeside W P e (cond c Beside.Itself Beside.Stay)
  stop_falls c = either (FallsBeside W P e) c tt tt

  beside_falls : (op : Bin) (s : ℕ) (v : View) (n : ℕ) → InsideView v e → 2 * (nodes e + 2) + is_sub op ≤ W → suc (path e) ≤ P →
      FallsBeside W P e ((rule_of op).beside s v n)
  beside_falls Bin.Add s v n i g h = either (FallsBeside W P e) (eqb n 0) tt (add_inner_falls v n i (omega arith) h)
  beside_falls Bin.Sub s v n i g h =
      either (FallsBeside W P e) (eqb n 0) tt
      (either (FallsBeside W P e) (negative64 n) (record { falls = omega arith; short = h }) (sub_inner_falls v n i (omega arith) h))
  beside_falls Bin.Mul s v n i g h = either (FallsBeside W P e) (eqb n 1) tt (either (FallsBeside W P e) (eqb n 0) tt tt)
  beside_falls Bin.Xor s v n i g h = stop_falls (eqb n 0)
  beside_falls Bin.Or s v n i g h =
      either (FallsBeside W P e) (eqb n 0) tt (either (FallsBeside W P e) (eqb n (2 ^ (8 * s) - 1)) tt tt)
  beside_falls Bin.IntLeftShift s v n i g h = stop_falls (eqb n 0)
  beside_falls Bin.IntRightShift s v n i g h = stop_falls (eqb n 0)
  beside_falls Bin.IntSignedRightShift s v n i g h = stop_falls (eqb n 0)
  beside_falls Bin.IntCarry s v n i g h = tt
  beside_falls Bin.IntSCarry s v n i g h = tt
  beside_falls Bin.IntSBorrow s v n i g h = tt

  itself_within : 2 * nodes e + 2 ≤ W → suc (path e) ≤ P → Within W P e
  itself_within g h = record { light = omega (arith, sub_le e); short = omega arith }

module _ (W P : ℕ) (a b : Tree) where
  left_falls : (o : Beside) → FallsBeside W P a o → 2 * nodes a + 2 ≤ W → suc (path a) ≤ P → Falls (on_left o) W P a b
  left_falls Beside.Stay f g h = tt
  left_falls Beside.Itself f g h = itself_within W P a g h
  left_falls (Beside.Make v) f g h = tt
  left_falls (Beside.Redo op v) f g h = f
  left_falls (Beside.RedoInner op v) f g h = f

  right_falls : (o : Beside) → FallsBeside W P b o → 2 * nodes b + 2 ≤ W → suc (path b) ≤ P → Falls (on_right o) W P a b
  right_falls Beside.Stay f g h = tt
  right_falls Beside.Itself f g h = itself_within W P b g h
  right_falls (Beside.Make v) f g h = tt
  right_falls (Beside.Redo op v) f g h = f
  right_falls (Beside.RedoInner op v) f g h = f

  equal_falls : (o : Equals) → 2 * nodes a + 2 ≤ W → suc (path a) ≤ P → Falls (on_equal o) W P a b
  equal_falls Equals.Stay g h = tt
  equal_falls Equals.Zero g h = tt
  equal_falls Equals.Left g h = itself_within W P a g h

  decided_falls : (op : Bin) (s : ℕ) (alike : Bool) (c : ℕ) (u v : Option ℕ) → 2 * (nodes a + 2) + is_sub op ≤ W → 2 * (nodes b + 2) + is_sub op ≤ W →
      suc (path a) ≤ P → suc (path b) ≤ P → Falls (decided op s alike (view a) (view b) c u v) W P a b
  decided_falls op s alike c None None g h p q =
      either (λ (act : Act). Falls act W P a b) alike (equal_falls (rule_of op).equal (omega arith) p) tt
  decided_falls op s alike c (Some m) None g h p q =
      either (λ (act : Act). Falls act W P a b) (rule_of op).swaps
      (right_falls ((rule_of op).beside s (view b) m) (beside_falls W P b op s (view b) m (inside b) h q) (omega arith) q) tt
  decided_falls op s alike c None (Some n) g h p q =
      left_falls ((rule_of op).beside s (view a) n) (beside_falls W P a op s (view a) n (inside a) g p) (omega arith) p
  decided_falls op s alike c (Some m) (Some n) g h p q = tt

pub binary_falls : (op : Bin) (s : ℕ) (a b : Tree) → Falls (bin_act op s a b) (weight (binary op s a b)) (path (binary op s a b)) a b
binary_falls op s a b =
    let h = nodes_positive a in
    let h' = nodes_positive b in
    decided_falls (weight (binary op s a b)) (path (binary op s a b)) a b op s (same a b) (size a) (constant_of a) (constant_of b)
    (omega arith) (omega arith) (omega (arith, le-max_left (path a) (path b))) (omega (arith, le-max_right (path a) (path b)))

-- RULES OF ONE CHILD

module _ (W P : ℕ) (a : Tree) (g : 2 * nodes a + 2 ≤ W) (h : suc (path a) ≤ P) where
  neg_falls : (s : ℕ) (v : View) → InsideView v a → Falls (neg_act s v) W P a a
  neg_falls s (View.Constant n) i = tt
  neg_falls s (View.Plus n) i = tt
  neg_falls s (View.Minus n) i = tt
  neg_falls s View.Negation i = record { light = omega (arith, i.fewer, sub_le (left_of a)); short = omega (arith, i.shorter) }
  neg_falls s (View.Extension c) i = tt
  neg_falls s View.Other i = tt

  sext_inner_falls : (s c : ℕ) (v : View) → InsideView v a → Falls (sext_inner s c v) W P a a
  sext_inner_falls s c (View.Constant n) i = tt
  sext_inner_falls s c (View.Plus n) i = tt
  sext_inner_falls s c (View.Minus n) i = tt
  sext_inner_falls s c View.Negation i = tt
  sext_inner_falls s c (View.Extension d) i =
      either (λ (act : Act). Falls act W P a a) (leb d s)
      (record { falls = omega (arith, i.fewer); short = omega (arith, i.shorter) }) tt
  sext_inner_falls s c View.Other i = tt

  un_falls : (op : Un) (s : ℕ) → Falls (un_act op s a) W P a a
  un_falls Un.SignExtend s =
      either (λ (act : Act). Falls act W P a a) (eqb (size a) s) (itself_within W P a g h) (sext_inner_falls s (size a) (view a) (inside a))
  un_falls Un.Int2Comp s = neg_falls s (view a) (inside a)

pub unary_falls : (op : Un) (s : ℕ) (a : Tree) → Falls (un_act op s a) (weight (unary op s a)) (path (unary op s a)) a a
unary_falls op s a = un_falls (weight (unary op s a)) (path (unary op s a)) a (omega arith) (omega arith) op s
