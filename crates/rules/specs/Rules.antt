-- The rules of 01 in value.rs's order: what each kind decides once its children are simplified and none of them is Top.
-- Assumes nothing: these are definitions.
use Rattle.std.specs.Prelude.{Bool, true, false, cond, ℕ, ◌-◌, ◌*◌, ◌^◌, eqb, leb, None, Option, Some}
use Rattle.format.specs.declared.Bin.{Bin}
use Rattle.format.specs.declared.Un.{Un}
use Rattle.manual.specs.Operations.{int_add, int_sub, int_2comp, negative64, amount64}
use Rattle.rules.specs.declared.Act.{Act}
use Rattle.rules.specs.declared.Beside.{Beside}
use Rattle.rules.specs.declared.Equals.{Equals}
use Rattle.rules.specs.declared.Near.{Near}
use Rattle.rules.specs.declared.View.{View}
use Rattle.tree.specs.Meaning.{un_value, bin_value}
use Rattle.tree.specs.Tree.{Tree, top, entry, const, bind, unary, binary, size, same}

-- WHAT A RULE SEES

abbrev pub constant_of : Tree → Option ℕ
constant_of top = None
constant_of (entry s space offset) = None
constant_of (const s v) = Some v
constant_of (bind s id) = None
constant_of (unary op s a) = None
constant_of (binary op s a b) = None

abbrev pub beside_view : (ℕ → View) → Option ℕ → View
beside_view f None = View.Other
beside_view f (Some a) = f a

abbrev pub bin_view : Bin → Option ℕ → View
bin_view Bin.Add right = beside_view View.Plus right
bin_view Bin.Sub right = beside_view View.Minus right
bin_view Bin.Mul right = View.Other
bin_view Bin.Xor right = View.Other
bin_view Bin.Or right = View.Other
bin_view Bin.IntLeftShift right = View.Other
bin_view Bin.IntRightShift right = View.Other
bin_view Bin.IntSignedRightShift right = View.Other
bin_view Bin.IntCarry right = View.Other
bin_view Bin.IntSCarry right = View.Other
bin_view Bin.IntSBorrow right = View.Other

abbrev pub un_view : Un → ℕ → View
un_view Un.SignExtend s = View.Extension s
un_view Un.Int2Comp s = View.Negation

abbrev pub view : Tree → View
view top = View.Other
view (entry s space offset) = View.Other
view (const s v) = View.Constant v
view (bind s id) = View.Other
view (unary op s a) = un_view op s
view (binary op s a b) = bin_view op (constant_of b)

-- THE RULES OF TWO CHILDREN. Every kind folds two constants. Beside that a kind says whether it swaps a constant on the left
-- with what is not one, what it does with e beside the constant n (e on the left, n on the right, once swapped), and what it
-- does with equal trees. s is the node's size; sums and differences of constants wrap at 64 bits.
pub record Rule : Type 0 where
  pub swaps : Bool
  pub beside : (s : ℕ) → View → ℕ → Beside
  pub equal : Equals

-- a difference d of constants, read as an i64: where it is negative, its amount goes the other way
abbrev pub moved : (d : ℕ) → (negative else : Bin) → Beside
moved d negative else = cond (negative64 d) (Beside.RedoInner negative (amount64 d)) (Beside.RedoInner else (amount64 d))

abbrev pub add_inner : View → ℕ → Beside
add_inner (View.Constant a) n = Beside.Stay
-- ((e + #a) + #n) -> (e + #(a + n))
add_inner (View.Plus a) n = Beside.RedoInner Bin.Add (int_add 64 a n)
-- ((e - #a) + #n) -> (e - #(a - n)), or (e + #(n - a)) where a - n is negative
add_inner (View.Minus a) n = moved (int_sub 64 a n) Bin.Add Bin.Sub
add_inner View.Negation n = Beside.Stay
add_inner (View.Extension c) n = Beside.Stay
add_inner View.Other n = Beside.Stay

-- (e + #0) -> e
abbrev pub add_beside : View → ℕ → Beside
add_beside e n = cond (eqb n 0) Beside.Itself (add_inner e n)

abbrev pub add_rule : Rule
add_rule = record { swaps = true; beside = λ s e n. add_beside e n; equal = Equals.Stay }

abbrev pub sub_inner : View → ℕ → Beside
sub_inner (View.Constant a) n = Beside.Stay
-- ((e + #a) - #n) -> (e + #(a - n)), or (e - #(n - a)) where a - n is negative
sub_inner (View.Plus a) n = moved (int_sub 64 a n) Bin.Sub Bin.Add
-- ((e - #a) - #n) -> (e - #(a + n))
sub_inner (View.Minus a) n = Beside.RedoInner Bin.Sub (int_add 64 a n)
sub_inner View.Negation n = Beside.Stay
sub_inner (View.Extension c) n = Beside.Stay
sub_inner View.Other n = Beside.Stay

-- (e - #0) -> e; (e - #n) -> (e + #-n) where n is negative as an i64
abbrev pub sub_beside : View → ℕ → Beside
sub_beside e n = cond (eqb n 0) Beside.Itself (cond (negative64 n) (Beside.Redo Bin.Add (int_2comp 64 n)) (sub_inner e n))

-- (e - e) -> #0
abbrev pub sub_rule : Rule
sub_rule = record { swaps = false; beside = λ s e n. sub_beside e n; equal = Equals.Zero }

-- (e * #1) -> e; (e * #0) -> #0
abbrev pub mul_beside : ℕ → Beside
mul_beside n = cond (eqb n 1) Beside.Itself (cond (eqb n 0) (Beside.Make 0) Beside.Stay)

abbrev pub mul_rule : Rule
mul_rule = record { swaps = true; beside = λ s e n. mul_beside n; equal = Equals.Stay }

-- (e ^ #0) -> e
abbrev pub xor_beside : ℕ → Beside
xor_beside n = cond (eqb n 0) Beside.Itself Beside.Stay

-- (e ^ e) -> #0
abbrev pub xor_rule : Rule
xor_rule = record { swaps = true; beside = λ s e n. xor_beside n; equal = Equals.Zero }

-- (e | #0) -> e; (e | #ones) -> #ones, all ones of the size
abbrev pub or_beside : (s n : ℕ) → Beside
or_beside s n = cond (eqb n 0) Beside.Itself (cond (eqb n (2 ^ (8 * s) - 1)) (Beside.Make n) Beside.Stay)

-- (e | e) -> e
abbrev pub or_rule : Rule
or_rule = record { swaps = true; beside = λ s e n. or_beside s n; equal = Equals.Left }

-- (e shifted by #0) -> e, for the three shifts
abbrev pub shift_beside : ℕ → Beside
shift_beside n = cond (eqb n 0) Beside.Itself Beside.Stay

abbrev pub shift_rule : Rule
shift_rule = record { swaps = false; beside = λ s e n. shift_beside n; equal = Equals.Stay }

-- IntCarry and IntSCarry only fold
abbrev pub carry_rule : Rule
carry_rule = record { swaps = false; beside = λ s e n. Beside.Stay; equal = Equals.Stay }

-- sborrow(e, e) -> #0
abbrev pub sborrow_rule : Rule
sborrow_rule = record { swaps = false; beside = λ s e n. Beside.Stay; equal = Equals.Zero }

abbrev pub rule_of : Bin → Rule
rule_of Bin.Add = add_rule
rule_of Bin.Sub = sub_rule
rule_of Bin.Mul = mul_rule
rule_of Bin.Xor = xor_rule
rule_of Bin.Or = or_rule
rule_of Bin.IntLeftShift = shift_rule
rule_of Bin.IntRightShift = shift_rule
rule_of Bin.IntSignedRightShift = shift_rule
rule_of Bin.IntCarry = carry_rule
rule_of Bin.IntSCarry = carry_rule
rule_of Bin.IntSBorrow = sborrow_rule

-- e is the left child, or the right one, which is then swapped to the left if nothing else is done
abbrev pub on_left : Beside → Act
on_left Beside.Stay = Act.Keep
on_left Beside.Itself = Act.Give Near.Left
on_left (Beside.Make v) = Act.Make v
on_left (Beside.Redo op v) = Act.Redo op Near.Left v
on_left (Beside.RedoInner op v) = Act.Redo op Near.LeftLeft v

abbrev pub on_right : Beside → Act
on_right Beside.Stay = Act.Swap
on_right Beside.Itself = Act.Give Near.Right
on_right (Beside.Make v) = Act.Make v
on_right (Beside.Redo op v) = Act.Redo op Near.Right v
on_right (Beside.RedoInner op v) = Act.Redo op Near.RightLeft v

abbrev pub on_equal : Equals → Act
on_equal Equals.Stay = Act.Keep
on_equal Equals.Zero = Act.Make 0
on_equal Equals.Left = Act.Give Near.Left

-- the views of the children, whether they are equal, the left one's size, and the constant that each is, if it is one
abbrev pub decided : Bin → (s : ℕ) → (alike : Bool) → View → View → (c : ℕ) → (left right : Option ℕ) → Act
decided op s alike a b c None None = cond alike (on_equal (rule_of op).equal) Act.Keep
decided op s alike a b c (Some m) None = cond (rule_of op).swaps (on_right ((rule_of op).beside s b m)) Act.Keep
decided op s alike a b c None (Some n) = on_left ((rule_of op).beside s a n)
decided op s alike a b c (Some m) (Some n) = Act.Make (bin_value op s c m n)

abbrev pub bin_act : Bin → (s : ℕ) → Tree → Tree → Act
bin_act op s a b = decided op s (same a b) (view a) (view b) (size a) (constant_of a) (constant_of b)

-- THE RULES OF ONE CHILD

-- -#n -> #-n; -(-e) -> e
abbrev pub neg_act : (s : ℕ) → View → Act
neg_act s (View.Constant n) = Act.Make (un_value Un.Int2Comp s s n)
neg_act s (View.Plus a) = Act.Keep
neg_act s (View.Minus a) = Act.Keep
neg_act s View.Negation = Act.Give Near.LeftLeft
neg_act s (View.Extension c) = Act.Keep
neg_act s View.Other = Act.Keep

-- sext(#n) -> #(n at s bytes); sext(sext(e)) -> sext(e). c is the child's size
abbrev pub sext_inner : (s c : ℕ) → View → Act
sext_inner s c (View.Constant n) = Act.Make (un_value Un.SignExtend s c n)
sext_inner s c (View.Plus a) = Act.Keep
sext_inner s c (View.Minus a) = Act.Keep
sext_inner s c View.Negation = Act.Keep
sext_inner s c (View.Extension d) = cond (leb d s) (Act.RedoUnary Un.SignExtend Near.LeftLeft) Act.Keep
sext_inner s c View.Other = Act.Keep

-- an extension to the child's own size -> the child, before anything else
abbrev pub un_act : Un → (s : ℕ) → Tree → Act
un_act Un.SignExtend s a = cond (eqb (size a) s) (Act.Give Near.Left) (sext_inner s (size a) (view a))
un_act Un.Int2Comp s a = neg_act s (view a)
