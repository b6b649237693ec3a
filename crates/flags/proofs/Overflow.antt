-- The top bits of operands and result show whether the signed result fits. Assumes nothing.
use mathlib.Core.Path.{◌≡◌, refl, sym, ap, ◌∙◌}
use mathlib.Core.Logic.{◌⊎◌, inl, inr, ⊎_elim}
use Prim.Native.Nat.{ℕ, suc, ◌+◌, ◌-◌, ◌*◌, ◌/◌, ◌^◌, ◌<◌, ◌≤◌}
use native.Mathlib.Nat.{mod-eq_of_lt, mod-eq-sub-mod}
use native.Mathlib.Omega.{arith}
use borrow.Author.Tests.{lt-ltb, le-ltb}
use lib.Bits.{bit_and, bit_xor, and_shr, xor_shr}
use lib.IntN.{ℤ, pos, negsuc, sub_ℕ, ◌+ℤ◌, ◌-ℤ◌}
use lib.Signed.{mag}
use Rattle.std.proofs.lemmas.Int.{ints}
use Rattle.manual.specs.Fits.{int_add_fits, int_sub_fits}
use Rattle.manual.specs.Halves.{below_or, two_halves, top_bit_lower, top_bit_upper, signed_lower, signed_upper}
use Rattle.manual.specs.Operations.{int_add, int_sub, int_scarry, int_sborrow, signed, unfit}

-- A number of w bits by its half, with its top bit and how it reads

record Lower (w a : ℕ) : Type 0 where
  pub within : a < 2 ^ (w - 1)
  pub bit : a / 2 ^ (w - 1) ≡ 0
  pub reads : signed w a ≡ pos a

record Upper (w a : ℕ) : Type 0 where
  pub within : 2 ^ (w - 1) ≤ a
  pub bit : a / 2 ^ (w - 1) ≡ 1
  pub reads : signed w a ≡ negsuc (2 ^ w - suc a)

abbrev Half : (w a : ℕ) → Type 0
Half w a = Lower w a ⊎ Upper w a

half : (w a : ℕ) → 1 ≤ w → a < 2 ^ w → Half w a
half w a some fits =
    ⊎_elim
    (λ h. inl (record { within = h; bit = top_bit_lower w a h; reads = signed_lower w a h }))
    (λ h. inr (record { within = h; bit = top_bit_upper w a some fits h; reads = signed_upper w a h }))
    (below_or a (2 ^ (w - 1)))

top_bits :
    (k x y u v : ℕ) {p q r t : ℕ} → x / 2 ^ k ≡ p → y / 2 ^ k ≡ q → u / 2 ^ k ≡ r → v / 2 ^ k ≡ t →
    bit_and (bit_xor x y) (bit_xor u v) / 2 ^ k ≡ bit_and (bit_xor p q) (bit_xor r t)
top_bits k x y u v ex ey eu ev = simp (and_shr, xor_shr, ex, ey, eu, ev)

-- Signed numbers that fit w bits, and that do not

fits : (w : ℕ) (z : ℤ) → mag z < 2 ^ (w - 1) → unfit w z ≡ 0
unfolding unfit
fits w z h = simp (lt-ltb (mag z) (2 ^ (w - 1)) h)

overflows : (w : ℕ) (z : ℤ) → 2 ^ (w - 1) ≤ mag z → unfit w z ≡ 1
unfolding unfit
overflows w z h = simp (le-ltb (mag z) (2 ^ (w - 1)) h)

-- a number less one of the same sign
less_fits : (w a b : ℕ) → a < 2 ^ (w - 1) + b → b ≤ 2 ^ (w - 1) → unfit w (sub_ℕ a b) ≡ 0
less_fits w a b ha hb = fits w (sub_ℕ a b) (grind arith)

-- The flags, by the halves of the operands and of the result s

module _ (w a b s : ℕ) (halves : 2 ^ w ≡ 2 ^ (w - 1) * 2) (fit_a : a < 2 ^ w) (fit_b : b < 2 ^ w) (fit_s : s < 2 ^ w) where
  sum_bit :
      {p q r : ℕ} → a / 2 ^ (w - 1) ≡ p → b / 2 ^ (w - 1) ≡ q → s / 2 ^ (w - 1) ≡ r →
      bit_and (bit_xor a s) (bit_xor b s) / 2 ^ (w - 1) ≡ bit_and (bit_xor p r) (bit_xor q r)
  sum_bit ea eb es = top_bits (w - 1) a s b s ea es eb es

  sum_flag : {x y : ℤ} {n : ℕ} → signed w a ≡ x → signed w b ≡ y → unfit w (x +ℤ y) ≡ n → n ≡ int_scarry w a b
  unfolding int_scarry
  sum_flag {x} ea eb flag =
      sym (ap (λ (z : ℤ). unfit w (z +ℤ signed w b)) ea ∙ ap (λ (z : ℤ). unfit w (x +ℤ z)) eb ∙ flag)

  sum : s ≡ int_add w a b → Half w a → Half w b → Half w s → bit_and (bit_xor a s) (bit_xor b s) / 2 ^ (w - 1) ≡ int_scarry w a b
  sum e (inl p) (inl q) (inl r) =
      let m : s ≡ a + b = e ∙ mod-eq_of_lt (omega arith) in
      sum_bit p.bit q.bit r.bit ∙ sum_flag p.reads q.reads (fits w (pos (a + b)) (omega arith))
  sum e (inl p) (inl q) (inr r) =
      let m : s ≡ a + b = e ∙ mod-eq_of_lt (omega arith) in
      sum_bit p.bit q.bit r.bit ∙ sum_flag p.reads q.reads (overflows w (pos (a + b)) (omega arith))
  sum e (inl p) (inr q) r =
      ⊎_elim (λ t. sum_bit p.bit q.bit t.bit) (λ t. sum_bit p.bit q.bit t.bit) r
      ∙ sum_flag p.reads q.reads (less_fits w a (suc (2 ^ w - suc b)) (omega arith) (omega arith))
  sum e (inr p) (inl q) r =
      ⊎_elim (λ t. sum_bit p.bit q.bit t.bit) (λ t. sum_bit p.bit q.bit t.bit) r
      ∙ sum_flag p.reads q.reads (less_fits w b (suc (2 ^ w - suc a)) (omega arith) (omega arith))
  sum e (inr p) (inr q) (inl r) =
      let m : s ≡ a + b - 2 ^ w = e ∙ mod-eq-sub-mod (omega arith) ∙ mod-eq_of_lt (omega arith) in
      sum_bit p.bit q.bit r.bit
      ∙ sum_flag p.reads q.reads (overflows w (negsuc (suc ((2 ^ w - suc a) + (2 ^ w - suc b)))) (omega arith))
  sum e (inr p) (inr q) (inr r) =
      let m : s ≡ a + b - 2 ^ w = e ∙ mod-eq-sub-mod (omega arith) ∙ mod-eq_of_lt (omega arith) in
      sum_bit p.bit q.bit r.bit
      ∙ sum_flag p.reads q.reads (fits w (negsuc (suc ((2 ^ w - suc a) + (2 ^ w - suc b)))) (omega arith))

  difference_bit :
      {p q r : ℕ} → a / 2 ^ (w - 1) ≡ p → b / 2 ^ (w - 1) ≡ q → s / 2 ^ (w - 1) ≡ r →
      bit_and (bit_xor a b) (bit_xor a s) / 2 ^ (w - 1) ≡ bit_and (bit_xor p q) (bit_xor p r)
  difference_bit ea eb es = top_bits (w - 1) a b a s ea eb ea es

  difference_flag :
      {x y z : ℤ} {n : ℕ} → signed w a ≡ x → signed w b ≡ y → x -ℤ y ≡ z → unfit w z ≡ n → n ≡ int_sborrow w a b
  unfolding int_sborrow
  difference_flag {x} ea eb ez flag =
      sym
      (ap (λ (z : ℤ). unfit w (z -ℤ signed w b)) ea ∙ ap (λ (z : ℤ). unfit w (x -ℤ z)) eb ∙ ap (unfit w) ez ∙ flag)

  difference :
      s ≡ int_sub w a b → Half w a → Half w b → Half w s → bit_and (bit_xor a b) (bit_xor a s) / 2 ^ (w - 1) ≡ int_sborrow w a b
  difference e (inl p) (inl q) r =
      ⊎_elim (λ t. difference_bit p.bit q.bit t.bit) (λ t. difference_bit p.bit q.bit t.bit) r
      ∙ difference_flag p.reads q.reads (grind (arith, ints)) (less_fits w a b (omega arith) (omega arith))
  difference e (inr p) (inr q) r =
      ⊎_elim (λ t. difference_bit p.bit q.bit t.bit) (λ t. difference_bit p.bit q.bit t.bit) r
      ∙ difference_flag p.reads q.reads refl
      (less_fits w (suc (2 ^ w - suc b)) (suc (2 ^ w - suc a)) (omega arith) (omega arith))
  difference e (inl p) (inr q) (inl r) =
      let m : s ≡ a + (2 ^ w - b) = e ∙ mod-eq_of_lt (omega arith) in
      difference_bit p.bit q.bit r.bit
      ∙ difference_flag p.reads q.reads refl (fits w (pos (a + suc (2 ^ w - suc b))) (omega arith))
  difference e (inl p) (inr q) (inr r) =
      let m : s ≡ a + (2 ^ w - b) = e ∙ mod-eq_of_lt (omega arith) in
      difference_bit p.bit q.bit r.bit
      ∙ difference_flag p.reads q.reads refl (overflows w (pos (a + suc (2 ^ w - suc b))) (omega arith))
  difference e (inr p) (inl q) (inl r) =
      let m : s ≡ a + (2 ^ w - b) - 2 ^ w = e ∙ mod-eq-sub-mod (omega arith) ∙ mod-eq_of_lt (omega arith) in
      difference_bit p.bit q.bit r.bit
      ∙ difference_flag p.reads q.reads (omega (arith, ints))
      (overflows w (negsuc ((2 ^ w - suc a) + b)) (omega arith))
  difference e (inr p) (inl q) (inr r) =
      let m : s ≡ a + (2 ^ w - b) - 2 ^ w = e ∙ mod-eq-sub-mod (omega arith) ∙ mod-eq_of_lt (omega arith) in
      difference_bit p.bit q.bit r.bit
      ∙ difference_flag p.reads q.reads (omega (arith, ints))
      (fits w (negsuc ((2 ^ w - suc a) + b)) (omega arith))

module _ (w a b : ℕ) (some : 1 ≤ w) (fit_a : a < 2 ^ w) (fit_b : b < 2 ^ w) (s : ℕ) where
  pub signs_of_sum : s ≡ int_add w a b → bit_and (bit_xor a s) (bit_xor b s) / 2 ^ (w - 1) ≡ int_scarry w a b
  signs_of_sum e =
      let fit_s : s < 2 ^ w = rw e (int_add_fits w a b) in
      sum w a b s (two_halves w some) fit_a fit_b fit_s e (half w a some fit_a) (half w b some fit_b) (half w s some fit_s)

  pub signs_of_difference : s ≡ int_sub w a b → bit_and (bit_xor a b) (bit_xor a s) / 2 ^ (w - 1) ≡ int_sborrow w a b
  signs_of_difference e =
      let fit_s : s < 2 ^ w = rw e (int_sub_fits w a b) in
      difference w a b s (two_halves w some) fit_a fit_b fit_s e (half w a some fit_a) (half w b some fit_b) (half w s some fit_s)
