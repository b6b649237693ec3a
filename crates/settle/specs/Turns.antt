-- Which rules simplify again, and that the others never do. Assumes nothing.
use Rattle.std.specs.Prelude.{Bool, true, false, ◌⊎◌, ◌≡◌, refl, ℕ, ◌-◌, ◌*◌, ◌^◌, eqb, Option, Some, None}
use Rattle.std.proofs.Common.{ap, inl, inr}
use Rattle.format.specs.Truth.{either, not_both}
use Rattle.format.specs.declared.Bin.{Bin}
use Rattle.format.specs.declared.Un.{Un}
use Rattle.rules.specs.Rules.{constant_of, view, rule_of, on_left, on_right, on_equal, decided, bin_act, neg_act, un_act}
use Rattle.rules.specs.declared.Act.{Act}
use Rattle.rules.specs.declared.Beside.{Beside}
use Rattle.rules.specs.declared.Equals.{Equals}
use Rattle.rules.specs.declared.View.{View}
use Rattle.theory.specs.Visits.{redoes}
use Rattle.tree.specs.Tree.{Tree, size, same}

-- whose turn it is when a rule of two children has rebuilt a node: Add's and Sub's are simplified again; a plain rule rebuilds nothing
pub data Turn : Type 0 where
  Add : Turn
  Sub : Turn
  Plain : Turn

abbrev pub turn_of : Bin → Turn
turn_of Bin.Add = Turn.Add
turn_of Bin.Sub = Turn.Sub
turn_of Bin.Mul = Turn.Plain
turn_of Bin.Xor = Turn.Plain
turn_of Bin.Or = Turn.Plain
turn_of Bin.IntLeftShift = Turn.Plain
turn_of Bin.IntRightShift = Turn.Plain
turn_of Bin.IntSignedRightShift = Turn.Plain
turn_of Bin.IntCarry = Turn.Plain
turn_of Bin.IntSCarry = Turn.Plain
turn_of Bin.IntSBorrow = Turn.Plain

-- only Add takes Add's turn, and only Sub takes Sub's
abbrev is_add : Turn → Bool
is_add Turn.Add = true
is_add _ = false

pub turn_add : (op : Bin) → turn_of op ≡ Turn.Add → op ≡ Bin.Add
turn_add Bin.Add e = refl
turn_add _ e = absurd (not_both (ap is_add e) refl)

abbrev is_sub : Turn → Bool
is_sub Turn.Sub = true
is_sub _ = false

pub turn_sub : (op : Bin) → turn_of op ≡ Turn.Sub → op ≡ Bin.Sub
turn_sub Bin.Sub e = refl
turn_sub _ e = absurd (not_both (ap is_sub e) refl)

-- the rules of two children that may simplify again what they rebuild: those whose turn is not a plain one
abbrev pub is_turn : Turn → Bool
is_turn Turn.Plain = false
is_turn _ = true

abbrev pub has_turn : Bin → Bool
has_turn op = is_turn (turn_of op)

pub plain_turn : (op : Bin) → turn_of op ≡ Turn.Plain → has_turn op ≡ false
plain_turn op e = ap is_turn e

-- only Add and Sub take a turn
pub turn_add_or_sub : (op : Bin) → has_turn op ≡ true → (op ≡ Bin.Add) ⊎ (op ≡ Bin.Sub)
turn_add_or_sub Bin.Add e = inl refl
turn_add_or_sub Bin.Sub e = inr refl
turn_add_or_sub Bin.Mul e = absurd (not_both e refl)
turn_add_or_sub Bin.Xor e = absurd (not_both e refl)
turn_add_or_sub Bin.Or e = absurd (not_both e refl)
turn_add_or_sub Bin.IntLeftShift e = absurd (not_both e refl)
turn_add_or_sub Bin.IntRightShift e = absurd (not_both e refl)
turn_add_or_sub Bin.IntSignedRightShift e = absurd (not_both e refl)
turn_add_or_sub Bin.IntCarry e = absurd (not_both e refl)
turn_add_or_sub Bin.IntSCarry e = absurd (not_both e refl)
turn_add_or_sub Bin.IntSBorrow e = absurd (not_both e refl)

-- PLAIN RULES NEVER SIMPLIFY AGAIN

abbrev PlainBeside : Beside → Type 0
PlainBeside Beside.Stay = Unit {0}
PlainBeside Beside.Itself = Unit {0}
PlainBeside (Beside.Make v) = Unit {0}
PlainBeside (Beside.Redo op v) = ⊥
PlainBeside (Beside.RedoInner op v) = ⊥

plain_beside : (op : Bin) (s : ℕ) (v : View) (n : ℕ) → has_turn op ≡ false → PlainBeside ((rule_of op).beside s v n)
plain_beside Bin.Add s v n e = absurd (not_both refl e)
plain_beside Bin.Sub s v n e = absurd (not_both refl e)
plain_beside Bin.Mul s v n e = either PlainBeside (eqb n 1) tt (either PlainBeside (eqb n 0) tt tt)
plain_beside Bin.Xor s v n e = either PlainBeside (eqb n 0) tt tt
plain_beside Bin.Or s v n e = either PlainBeside (eqb n 0) tt (either PlainBeside (eqb n (2 ^ (8 * s) - 1)) tt tt)
plain_beside Bin.IntLeftShift s v n e = either PlainBeside (eqb n 0) tt tt
plain_beside Bin.IntRightShift s v n e = either PlainBeside (eqb n 0) tt tt
plain_beside Bin.IntSignedRightShift s v n e = either PlainBeside (eqb n 0) tt tt
plain_beside Bin.IntCarry s v n e = tt
plain_beside Bin.IntSCarry s v n e = tt
plain_beside Bin.IntSBorrow s v n e = tt

left_plain : (o : Beside) → PlainBeside o → redoes (on_left o) ≡ false
left_plain Beside.Stay p = refl
left_plain Beside.Itself p = refl
left_plain (Beside.Make v) p = refl
left_plain (Beside.Redo op v) p = absurd p
left_plain (Beside.RedoInner op v) p = absurd p

right_plain : (o : Beside) → PlainBeside o → redoes (on_right o) ≡ false
right_plain Beside.Stay p = refl
right_plain Beside.Itself p = refl
right_plain (Beside.Make v) p = refl
right_plain (Beside.Redo op v) p = absurd p
right_plain (Beside.RedoInner op v) p = absurd p

equal_plain : (o : Equals) → redoes (on_equal o) ≡ false
equal_plain Equals.Stay = refl
equal_plain Equals.Zero = refl
equal_plain Equals.Left = refl

decided_plain : (op : Bin) (s : ℕ) (alike : Bool) (x y : View) (c : ℕ) (u v : Option ℕ) → has_turn op ≡ false → redoes (decided op s alike x y c u v) ≡ false
decided_plain op s alike x y c None None e = either (λ (act : Act). redoes act ≡ false) alike (equal_plain (rule_of op).equal) refl
decided_plain op s alike x y c (Some m) None e =
    either (λ (act : Act). redoes act ≡ false) (rule_of op).swaps (right_plain ((rule_of op).beside s y m) (plain_beside op s y m e)) refl
decided_plain op s alike x y c None (Some n) e = left_plain ((rule_of op).beside s x n) (plain_beside op s x n e)
decided_plain op s alike x y c (Some m) (Some n) e = refl

pub bin_plain : (op : Bin) (s : ℕ) (a b : Tree) → has_turn op ≡ false → redoes (bin_act op s a b) ≡ false
bin_plain op s a b e = decided_plain op s (same a b) (view a) (view b) (size a) (constant_of a) (constant_of b) e

pub bin_plain_turn : (op : Bin) (s : ℕ) (a b : Tree) → turn_of op ≡ Turn.Plain → redoes (bin_act op s a b) ≡ false
bin_plain_turn op s a b e = bin_plain op s a b (plain_turn op e)

-- so where a rule of two children simplifies again, it is Add's or Sub's
pub bin_again : (op : Bin) (s : ℕ) (a b : Tree) → redoes (bin_act op s a b) ≡ true → (op ≡ Bin.Add) ⊎ (op ≡ Bin.Sub)
bin_again op s a b e = go (has_turn op) refl
  where
    go : (turn : Bool) → has_turn op ≡ turn → (op ≡ Bin.Add) ⊎ (op ≡ Bin.Sub)
    go true t = turn_add_or_sub op t
    go false t = absurd (not_both e (bin_plain op s a b t))

neg_plain : (s : ℕ) (v : View) → redoes (neg_act s v) ≡ false
neg_plain s (View.Constant n) = refl
neg_plain s (View.Plus n) = refl
neg_plain s (View.Minus n) = refl
neg_plain s View.Negation = refl
neg_plain s (View.Extension c) = refl
neg_plain s View.Other = refl

pub un_plain : (s : ℕ) (a : Tree) → redoes (un_act Un.Int2Comp s a) ≡ false
un_plain s a = neg_plain s (view a)

-- and where one of one child does, it is SignExtend's
pub un_again : (op : Un) (s : ℕ) (a : Tree) → redoes (un_act op s a) ≡ true → op ≡ Un.SignExtend
un_again Un.SignExtend s a e = refl
un_again Un.Int2Comp s a e = absurd (not_both e (un_plain s a))
