-- A shift at w bits from one at 64 by a count taken modulo 64: within the width they agree once cut. Assumes nothing.
use Rattle.std.proofs.Common.{◌≡◌, ℕ, ◌*◌, ◌%◌, ◌^◌, ◌<◌, ◌≤◌, min, le_of_lt, arith}
use native.Mathlib.Nat.{min-eq_left}
use Rattle.manual.specs.Operations.{int_left}
use Rattle.manual.specs.Modulo.{same_remainder, remainder, narrowed}

within : (n : ℕ) → n < 64 → min n 64 ≡ n
within n h = min-eq_left (le_of_lt h)

module _ (w a n : ℕ) (small : w ≤ 64) where
  pub left_within : n < w → int_left 64 a (n % 64) % 2 ^ w ≡ int_left w a n
  left_within h =
      let m : n % 64 ≡ n = omega arith in
      rw (m, within n (omega arith), min-eq_left (le_of_lt h))
      (same_remainder (2 ^ w) (narrowed small (remainder (2 ^ 64) (a * 2 ^ n))))
