-- What an operator of two children asks of its operands, by its rule of sizes. Assumes nothing.
use Rattle.std.specs.Prelude.{ℕ, ◌*◌}
use Rattle.std.proofs.Common.{pow_mono, arith}
use Rattle.arith.specs.Operands.{Operand, Operands, Extension}
use Rattle.format.specs.declared.Sizing.{Sizing}

-- operands of the node's size; a shift's amount may be any number; a flag's operands have the children's size. No operator of two
-- children has another rule
abbrev pub Fitting : Sizing → (size child x y : ℕ) → Type 0
Fitting Sizing.Same size child x y = Operands size x y
Fitting Sizing.Shift size child x y = Operand size x
Fitting Sizing.Flag size child x y = Operands child x y
Fitting _ size child x y = ⊥

-- a number that fits a size fits a larger one
pub fits_wider : (from to x : ℕ) → Extension from to x → Operand to x
fits_wider from to x e =
    record { least = omega (arith, e.least, e.wider); most = e.most; fits = omega (arith, e.fits, pow_mono {i = 8 * from} {j = 8 * to} (omega (arith, e.wider))) }
