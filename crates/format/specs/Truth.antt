-- Small facts of truth values that the laws and theorems share. Assumes nothing.
use Rattle.std.specs.Prelude.{Bool, true, false, cond, ◌&&◌, ◌||◌, ◌≡◌, refl, ℕ, T, eqb}
use Rattle.std.proofs.Common.{arith, eqb→eq}
use Rattle.std.proofs.Math.Dec.{eqb_refl}

-- what holds of both branches holds of the choice
pub either {ℓ} : {X : Type 0} (Q : X → Type ℓ) (c : Bool) {x y : X} → Q x → Q y → Q (cond c x y)
either Q true p q = p
either Q false p q = q

-- the same, with what each branch knows
pub either_knowing {ℓ} : {X : Type 0} (Q : X → Type ℓ) (c : Bool) {x y : X} → (c ≡ true → Q x) → (c ≡ false → Q y) → Q (cond c x y)
either_knowing Q true p q = p refl
either_knowing Q false p q = q refl

pub or_left : (a b : Bool) → (a || b) ≡ false → a ≡ false
or_left false b e = refl
or_left true b e = e

pub or_right : (a b : Bool) → (a || b) ≡ false → b ≡ false
or_right false b e = e
or_right true b e = cc

pub or_neither : (a b : Bool) → a ≡ false → b ≡ false → (a || b) ≡ false
or_neither a b p q = rw (p, q)

pub or_swapped : (a b : Bool) → (a || b) ≡ false → (b || a) ≡ false
or_swapped a b e = or_neither b a (or_right a b e) (or_left a b e)

pub or_cong : {a b c d : Bool} → a ≡ b → c ≡ d → (a || c) ≡ (b || d)
or_cong p q = rw (p, q)

pub and_left : (a b : Bool) → (a && b) ≡ true → a ≡ true
and_left true b e = refl
and_left false b e = e

pub and_right : (a b : Bool) → (a && b) ≡ true → b ≡ true
and_right true b e = e
and_right false b e = cc

-- truth and falsehood differ
pub not_both : {b : Bool} → b ≡ true → b ≡ false → ⊥
not_both p q = let z : ◌≡◌ {A = ℕ} 0 1 = cc in omega arith

pub eqb_same : (n : ℕ) → eqb n n ≡ true
eqb_same n = go (eqb n n) (eqb_refl n)
  where
    go : (b : Bool) → T b → b ≡ true
    go true t = refl
    go false t = absurd t

pub eqb_equal : (m n : ℕ) → eqb m n ≡ true → m ≡ n
eqb_equal m n e = eqb→eq m n (rw e tt)
