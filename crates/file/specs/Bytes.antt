-- Numbers in bytes, most significant byte first. Assumes nothing.
use Rattle.std.specs.Prelude.{List, ◌≡◌, ℕ, zero, suc, ◌+◌, ◌*◌, ◌^◌, ◌≤◌, get_or, take, drop}
use Rattle.std.specs.Int.{w16, w64, from_be_bytes}
use Rattle.std.proofs.Common.{refl, ap, ap₂, sym, ◌∙◌, add_assoc}
use Rattle.std.proofs.lemmas.List.{get_or-take, get_or-drop}
use native.Mathlib.Omega.{arith}

-- the number in n bytes, from byte `at` on
unfoldable pub number_at : List ℕ → (at n : ℕ) → ℕ
number_at bytes at zero = 0
number_at bytes at (suc n) = number_at bytes at n * 2 ^ 8 + get_or bytes (at + n) 0

-- what std reads of eight bytes
pub eight_bytes : (bytes : List ℕ) → from_be_bytes w64 bytes ≡ number_at bytes 0 8
unfolding number_at
eight_bytes bytes = omega arith

-- and of two
pub two_bytes : (bytes : List ℕ) → from_be_bytes w16 bytes ≡ number_at bytes 0 2
unfolding number_at
two_bytes bytes = omega arith

-- a number in a part of the bytes
module _ (bytes : List ℕ) where
  pub number_of_rest : (from at n : ℕ) → number_at (drop from bytes) at n ≡ number_at bytes (from + at) n
  unfolding number_at
  number_of_rest from at zero = refl
  number_of_rest from at (suc n) =
      ap₂ (λ high low. high * 2 ^ 8 + low) (number_of_rest from at n) (get_or-drop from bytes (at + n) 0 ∙ ap (λ i. get_or bytes i 0) (sym (add_assoc from at n)))

  pub number_of_front : (size at n : ℕ) → at + n ≤ size → number_at (take size bytes) at n ≡ number_at bytes at n
  unfolding number_at
  number_of_front size at zero h = refl
  number_of_front size at (suc n) h =
      ap₂ (λ high low. high * 2 ^ 8 + low) (number_of_front size at n (omega arith)) (get_or-take size bytes (at + n) 0 (omega arith))

-- a number is its two halves
module _ (bytes : List ℕ) (at : ℕ) where
  pub two_of_bytes : number_at bytes at 2 ≡ get_or bytes at 0 * 2 ^ 8 + get_or bytes (at + 1) 0
  unfolding number_at
  two_of_bytes = let e : at + 0 ≡ at = omega arith in rw e (omega arith)

  pub four_of_twos : number_at bytes at 4 ≡ number_at bytes at 2 * 2 ^ 16 + number_at bytes (at + 2) 2
  unfolding number_at
  four_of_twos =
      let e : at + 2 + 0 ≡ at + 2 = omega arith in
      let f : at + 2 + 1 ≡ at + 3 = omega arith in
      rw (e, f) (omega arith)

  pub eight_of_fours : number_at bytes at 8 ≡ number_at bytes at 4 * 2 ^ 32 + number_at bytes (at + 4) 4
  unfolding number_at
  eight_of_fours =
      let e : at + 4 + 0 ≡ at + 4 = omega arith in
      let f : at + 4 + 1 ≡ at + 5 = omega arith in
      let g : at + 4 + 2 ≡ at + 6 = omega arith in
      let h : at + 4 + 3 ≡ at + 7 = omega arith in
      rw (e, f, g, h) (omega arith)
