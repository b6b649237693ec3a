-- The operations that look at the sign, by the half that the operand lies in: the lower one, below 2 ^ (w - 1), or the upper one,
-- whose numbers read as negative. Assumes nothing.
use Rattle.std.specs.Prelude.{◌≡◌, ℕ, suc, ◌-◌, ◌/◌, ◌^◌, min, ◌≤◌, ◌<◌}
use Rattle.std.proofs.Common.{lt-ltb, le-ltb}
use Rattle.manual.specs.Operations.{int_sright}

module _ (w a : ℕ) (lower : a < 2 ^ (w - 1)) where
  -- The top bit of w tells the half

  -- The operations, in the lower half and in the upper

  pub int_sright_lower : (n : ℕ) → int_sright w a n ≡ a / 2 ^ min n w
  int_sright_lower n = simp (lt-ltb a (2 ^ (w - 1)) lower)

module _ (w a : ℕ) (upper : 2 ^ (w - 1) ≤ a) where
  pub int_sright_upper : (n : ℕ) → int_sright w a n ≡ 2 ^ w - suc ((2 ^ w - suc a) / 2 ^ min n w)
  int_sright_upper n = simp (le-ltb a (2 ^ (w - 1)) upper)
