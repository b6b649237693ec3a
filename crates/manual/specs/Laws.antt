-- The laws of single operations that the rewriting rules lean on, over the width w: what an operation does with 0, 1, all ones,
-- an equal operand, itself. Cuts holds those of folds, Rewritings those of sums and differences, Fits that results fit. Assumes
-- nothing.
-- The laws that rest on what an edit in must-fail/ changes are in proofs/Laws.antt.
use Rattle.std.specs.Prelude.{◌≡◌, ℕ, ◌+◌, ◌-◌, ◌^◌, ◌≤◌, ◌<◌}
use Rattle.std.proofs.Common.{sym, ap, ◌∙◌, ⊎_elim, add_comm, add-zero, mul_comm, mul-one, mul-zero, div-one, mod-lt, mod-eq_of_lt, arith, lt-ltb, pow_mono, pow_pos}
use Rattle.std.proofs.Math.Nat.{zero-min, zero-mod, add-mod_right, mod_self}
use Rattle.std.proofs.lemmas.Nat.{and_mask, or_comm, xor_comm}
use Rattle.std.specs.Int.Bits.{or_add_and, or_self, or_zero_r, xor_self, xor_zero_r}
use Rattle.std.proofs.Math.IntN.{+ℤ_invr}
use Rattle.manual.specs.Operations.{int_add, int_sub, int_mult, int_2comp, int_xor, int_or, int_left, int_right, int_sext, int_sborrow, signed, unfit}
use Rattle.manual.specs.Modulo.{same_remainder, remainder}
use Rattle.manual.specs.Halves.{below_or, two_halves, int_sext_lower, int_sext_upper}

-- Commuting

pub int_add_comm : (w a b : ℕ) → int_add w a b ≡ int_add w b a
int_add_comm w a b = rw (add_comm a b)

pub int_mult_comm : (w a b : ℕ) → int_mult w a b ≡ int_mult w b a
int_mult_comm w a b = rw (mul_comm a b)

pub int_xor_comm : (w a b : ℕ) → int_xor w a b ≡ int_xor w b a
int_xor_comm w a b = xor_comm a b

pub int_or_comm : (w a b : ℕ) → int_or w a b ≡ int_or w b a
int_or_comm w a b = or_comm a b

-- Beside a constant

pub int_add_zero : (w a : ℕ) → a < 2 ^ w → int_add w a 0 ≡ a
int_add_zero w a h = rw (add-zero a) (mod-eq_of_lt h)

pub int_sub_zero : (w a : ℕ) → a < 2 ^ w → int_sub w a 0 ≡ a
int_sub_zero w a h = let e : a + (2 ^ w - 0) ≡ a + 2 ^ w = omega arith in rw e (add-mod_right a (2 ^ w) ∙ mod-eq_of_lt h)

pub int_mult_one : (w a : ℕ) → a < 2 ^ w → int_mult w a 1 ≡ a
int_mult_one w a h = rw (mul-one a) (mod-eq_of_lt h)

pub int_mult_zero : (w a : ℕ) → int_mult w a 0 ≡ 0
int_mult_zero w a = rw (mul-zero a) (zero-mod (2 ^ w))

pub int_xor_zero : (w a : ℕ) → int_xor w a 0 ≡ a
int_xor_zero w a = xor_zero_r a

pub int_or_zero : (w a : ℕ) → int_or w a 0 ≡ a
int_or_zero w a = or_zero_r a

pub int_or_ones : (w a : ℕ) → a < 2 ^ w → int_or w a (2 ^ w - 1) ≡ 2 ^ w - 1
int_or_ones w a h = omega (arith, or_add_and a (2 ^ w - 1), and_mask a w, mod-eq_of_lt h)

pub int_left_zero : (w a : ℕ) → a < 2 ^ w → int_left w a 0 ≡ a
int_left_zero w a h = rw (zero-min w, mul-one a) (mod-eq_of_lt h)

pub int_right_zero : (w a : ℕ) → int_right w a 0 ≡ a
int_right_zero w a = rw (zero-min w) (div-one a)

-- With an equal operand

pub int_sub_self : (w a : ℕ) → a < 2 ^ w → int_sub w a a ≡ 0
int_sub_self w a h = let e : a + (2 ^ w - a) ≡ 2 ^ w = omega arith in rw e (mod_self (2 ^ w))

pub int_xor_self : (w a : ℕ) → int_xor w a a ≡ 0
int_xor_self w a = xor_self a

pub int_or_self : (w a : ℕ) → int_or w a a ≡ a
int_or_self w a = or_self a

pub int_sborrow_self : (w a : ℕ) → int_sborrow w a a ≡ 0
unfolding int_sborrow unfit
int_sborrow_self w a = rw (+ℤ_invr (signed w a)) (rw (lt-ltb 0 (2 ^ (w - 1)) (pow_pos (w - 1))))

-- Twice, and to the same width

pub int_2comp_twice : (w a : ℕ) → a < 2 ^ w → int_2comp w (int_2comp w a) ≡ a
int_2comp_twice w a h =
    let c = remainder (2 ^ w) (0 + (2 ^ w - a)) in
    same_remainder (2 ^ w) {y = a}
    (record { left = c.right; right = c.left; equal = omega (arith, c.equal, mod-lt (0 + (2 ^ w - a)) (pow_pos w)) })
    ∙ mod-eq_of_lt h

pub int_sext_same : (w a : ℕ) → a < 2 ^ w → int_sext w w a ≡ a
int_sext_same w a h =
    ⊎_elim (λ lower. int_sext_lower w a lower w) (λ upper. int_sext_upper w a upper w ∙ omega arith) (below_or a (2 ^ (w - 1)))

pub int_sext_twice : (u v w a : ℕ) → 1 ≤ u → u ≤ v → v ≤ w → a < 2 ^ u → int_sext v w (int_sext u v a) ≡ int_sext u w a
int_sext_twice u v w a some uv vw h =
    let m : 2 ^ (u - 1) ≤ 2 ^ (v - 1) = pow_mono {i = u - 1} {j = v - 1} (omega arith) in
    let eu = two_halves u some in
    let ev = two_halves v (omega arith) in
    ⊎_elim
    (λ lower. ap (int_sext v w) (int_sext_lower u a lower v) ∙ int_sext_lower v a (omega arith) w ∙ sym (int_sext_lower u a lower w))
    (λ upper.
    let b : 2 ^ v - (2 ^ v - (2 ^ u - a)) ≡ 2 ^ u - a = omega arith in
    ap (int_sext v w) (int_sext_upper u a upper v)
    ∙ int_sext_upper v (2 ^ v - (2 ^ u - a)) (omega arith) w
    ∙ ap (λ (n : ℕ). 2 ^ w - n) b
    ∙ sym (int_sext_upper u a upper w))
    (below_or a (2 ^ (u - 1)))
