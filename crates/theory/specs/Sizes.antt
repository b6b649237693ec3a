-- What the rules of sizes say, as facts about numbers drawn from their one test `sized`: first over what a rule sees of the
-- children, then over trees. Assumes nothing.
-- The laws that rest on what an edit in must-fail/ changes are in proofs/Sizes.antt.
use Rattle.std.specs.Prelude.{Bool, true, false, ◌&&◌, ◌||◌, ◌⊎◌, ◌≡◌, refl, ℕ, ◌*◌, ◌%◌, ◌^◌, ◌≤◌, ◌<◌, eqb, None, Option, Some}
use Rattle.std.proofs.Math.Bool.{and-eq-true_iff}
use Rattle.std.proofs.Common.{true≢false, inl, inr, ⊎_elim, mod-lt, arith, eqb-true, lt-ltb, pow_pos}
use Rattle.format.specs.Kinds.{row_of}
use Rattle.format.specs.declared.Bin.{Bin}
use Rattle.format.specs.declared.Sizing.{Sizing}
use Rattle.format.specs.declared.Un.{Un}
use Rattle.tree.specs.Form.{is_size, sized, un_sizing, bin_sizing, size_seen, Sized}
use Rattle.tree.specs.Tree.{Tree, top, entry, const, bind, unary, binary, size, is_top, has_top}

pub both : {p q : Bool} → p ≡ true → q ≡ true → (p && q) ≡ true
both {p} {q} e f = (and-eq-true_iff p q).1 (e, f)

pub parts : (p q : Bool) → (p && q) ≡ true → (p ≡ true) × (q ≡ true)
parts p q = (and-eq-true_iff p q).0

either : (p q : Bool) → (p || q) ≡ true → (p ≡ true) ⊎ (q ≡ true)
either true q e = inl refl
either false q e = inr e

neither : (p q : Bool) → (p || q) ≡ false → (p ≡ false) × (q ≡ false)
neither true q e = absurd (true≢false e)
neither false q e = (refl, e)

-- A SIZE is 1, 2, 4 or 8

pub size_bounds : (s : ℕ) → is_size s ≡ true → (1 ≤ s) × (s ≤ 8)
size_bounds s is =
    ⊎_elim (λ e. omega (arith, eqb-true s 1 e))
    (λ more. ⊎_elim (λ e. omega (arith, eqb-true s 2 e))
    (λ more. ⊎_elim (λ e. omega (arith, eqb-true s 4 e)) (λ e. omega (arith, eqb-true s 8 e)) (either (eqb s 4) _ more))
    (either (eqb s 2) _ more))
    (either (eqb s 1) _ is)

-- A RULE: what it asks of a node of s bytes beside that s is a size. A child that it does not see passes

abbrev pub SameSize : ℕ → Option ℕ → Type 0
SameSize s None = Unit {0}
SameSize s (Some c) = c ≡ s

abbrev pub NoWider : ℕ → Option ℕ → Type 0
NoWider s None = Unit {0}
NoWider s (Some c) = c ≤ s

abbrev pub OneSize : Option ℕ → Option ℕ → Type 0
OneSize None right = Unit {0}
OneSize (Some c) right = SameSize c right

abbrev pub Allowed : Sizing → (s payload : ℕ) → (left right : Option ℕ) → Type 0
Allowed Sizing.Unsized s payload left right = s ≡ 0
Allowed Sizing.Input s payload left right = Unit {0}
Allowed Sizing.Constant s payload left right = payload < 2 ^ (8 * s)
Allowed Sizing.Same s payload left right = SameSize s left × SameSize s right
Allowed Sizing.Shift s payload left right = SameSize s left × NoWider s right
Allowed Sizing.Extension s payload left right = NoWider s left
Allowed Sizing.Flag s payload left right = (s ≡ 1) × OneSize left right

-- whether nodes under the rule have a size: all but Top
abbrev pub Measured : Sizing → Type 0
Measured Sizing.Unsized = ⊥
Measured Sizing.Input = Unit {0}
Measured Sizing.Constant = Unit {0}
Measured Sizing.Same = Unit {0}
Measured Sizing.Shift = Unit {0}
Measured Sizing.Extension = Unit {0}
Measured Sizing.Flag = Unit {0}

module _ (s payload : ℕ) (left right : Option ℕ) where
  pub sized_is_size : (rule : Sizing) → Measured rule → sized rule s payload left right ≡ true → is_size s ≡ true
  sized_is_size Sizing.Unsized m e = absurd m
  sized_is_size Sizing.Input m e = e
  sized_is_size Sizing.Constant m e = (parts (is_size s) _ e).0
  sized_is_size Sizing.Same m e = (parts (is_size s) _ e).0
  sized_is_size Sizing.Shift m e = (parts (is_size s) _ e).0
  sized_is_size Sizing.Extension m e = (parts (is_size s) _ e).0
  sized_is_size Sizing.Flag m e = rw (eqb-true s 1 (parts (eqb s 1) _ e).0)

-- OPERATORS: their nodes have a size

un_measured : (op : Un) → Measured (un_sizing op)
unfolding row_of
un_measured Un.SignExtend = tt
un_measured Un.Int2Comp = tt

bin_measured : (op : Bin) → Measured (bin_sizing op)
unfolding row_of
bin_measured Bin.Add = tt
bin_measured Bin.Sub = tt
bin_measured Bin.Mul = tt
bin_measured Bin.Xor = tt
bin_measured Bin.Or = tt
bin_measured Bin.IntLeftShift = tt
bin_measured Bin.IntRightShift = tt
bin_measured Bin.IntSignedRightShift = tt
bin_measured Bin.IntCarry = tt
bin_measured Bin.IntSCarry = tt
bin_measured Bin.IntSBorrow = tt

pub un_is_size : (op : Un) (s : ℕ) (left right : Option ℕ) → sized (un_sizing op) s 0 left right ≡ true → is_size s ≡ true
un_is_size op s left right e = sized_is_size s 0 left right (un_sizing op) (un_measured op) e

pub bin_is_size : (op : Bin) (s : ℕ) (left right : Option ℕ) → sized (bin_sizing op) s 0 left right ≡ true → is_size s ≡ true
bin_is_size op s left right e = sized_is_size s 0 left right (bin_sizing op) (bin_measured op) e

-- TREES: a child that is not Top shows its size

pub size_seen_lem : (a : Tree) → is_top a ≡ false → size_seen a ≡ Some (size a)
size_seen_lem a e = rw e

pub tree_is_size : (t : Tree) → Sized t → is_top t ≡ false → is_size (size t) ≡ true
tree_is_size top h e = absurd (true≢false e)
tree_is_size (entry s space offset) h e = h.0
tree_is_size (const s v) h e = (parts (is_size s) _ h).0
tree_is_size (bind s id) h e = h
tree_is_size (unary op s a) h e = un_is_size op s (size_seen a) None h.0
tree_is_size (binary op s a b) h e = bin_is_size op s (size_seen a) (size_seen b) h.0

pub free_is_top : (t : Tree) → has_top t ≡ false → is_top t ≡ false
free_is_top top free = free
free_is_top (entry s space offset) free = refl
free_is_top (const s v) free = refl
free_is_top (bind s id) free = refl
free_is_top (unary op s a) free = refl
free_is_top (binary op s a b) free = refl

pub free_left : (a b : Tree) → (has_top a || has_top b) ≡ false → has_top a ≡ false
free_left a b free = (neither (has_top a) (has_top b) free).0

pub free_right : (a b : Tree) → (has_top a || has_top b) ≡ false → has_top b ≡ false
free_right a b free = (neither (has_top a) (has_top b) free).1

-- a constant is cut to its size
pub const_sized : (s n : ℕ) → is_size s ≡ true → Sized (const s (n % 2 ^ (8 * s)))
const_sized s n is = both is (lt-ltb (n % 2 ^ (8 * s)) (2 ^ (8 * s)) (mod-lt n (pow_pos (8 * s))))
