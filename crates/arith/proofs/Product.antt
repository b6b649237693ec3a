-- A product modulo P * P from the halves of its factors, digits in base P. Assumes nothing.
use Rattle.std.proofs.Common.{◌≡◌, ℕ, ◌+◌, ◌*◌, ◌/◌, ◌%◌, ◌^◌, sym, ap, ◌∙◌, add_assoc, mul_assoc, mul_comm, add-mul, add_comm, div-add-mod', mul-add, mul_left_comm}
use native.Mathlib.Nat.{add-mod-mod, add-mul-mod_self_right, add_left_comm}
use lib.Bits.{bit_and, and_mask}
use lib.Pow.{split}
use Rattle.manual.specs.Operations.{int_add, int_mult}

regrouped : (n q r P M : ℕ) → n + (q * M + r) * P ≡ (n + r * P) + (q * P) * M
regrouped n q r P M = simp (add-mul, mul_assoc, mul_comm, add_assoc, add_comm)

-- a sum may be cut before it is shifted up
cut_before : (n x P M : ℕ) → (n + x % M * P) % M ≡ (n + x * P) % M
cut_before n x P M =
    sym
    (ap (λ (y : ℕ). (n + y * P) % M) (sym (div-add-mod' x M))
    ∙ ap (λ (y : ℕ). y % M) (regrouped n (x / M) (x % M) P M)
    ∙ add-mul-mod_self_right (n + x % M * P) (x / M * P) M)

expanded : (P a₀ a₁ b₀ b₁ : ℕ) → (a₁ * P + a₀) * (b₁ * P + b₀) ≡ (a₀ * b₀ + (a₁ * b₀ + a₀ * b₁) * P) + (a₁ * b₁) * (P * P)
expanded P a₀ a₁ b₀ b₁ = simp (mul-add, add-mul, mul_assoc, mul_comm, mul_left_comm, add_assoc, add_comm, add_left_comm)

by_digits :
    (P a₀ a₁ b₀ b₁ : ℕ) →
    (a₀ * b₀ + (a₁ * b₀ + a₀ * b₁) % (P * P) * P % (P * P)) % (P * P) ≡ (a₁ * P + a₀) * (b₁ * P + b₀) % (P * P)
by_digits P a₀ a₁ b₀ b₁ =
    add-mod-mod (a₀ * b₀) ((a₁ * b₀ + a₀ * b₁) % (P * P) * P) (P * P)
    ∙ cut_before (a₀ * b₀) (a₁ * b₀ + a₀ * b₁) P (P * P)
    ∙ sym
    (ap (λ (y : ℕ). y % (P * P)) (expanded P a₀ a₁ b₀ b₁)
    ∙ add-mul-mod_self_right (a₀ * b₀ + (a₁ * b₀ + a₀ * b₁) * P) (a₁ * b₁) (P * P))

abbrev low : ℕ → ℕ
low a = bit_and a 0xffff_ffff

abbrev high : ℕ → ℕ
high a = a / 2 ^ 32

pub by_halves :
    (a b : ℕ) →
    int_add 64 (low a * low b) (int_add 64 (high a * low b) (low a * high b) * 2 ^ 32 % 2 ^ 64) ≡ int_mult 64 a b
by_halves a b =
    rw (and_mask a 32, and_mask b 32)
    (by_digits (2 ^ 32) (a % 2 ^ 32) (a / 2 ^ 32) (b % 2 ^ 32) (b / 2 ^ 32) ∙ (λ i. split a 32 i * split b 32 i % 2 ^ 64))
