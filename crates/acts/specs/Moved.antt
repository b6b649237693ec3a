-- A difference that is moved, by its sign. Assumes nothing.
use Rattle.std.specs.Prelude.{Bool, true, false, cond, ◌≡◌, ℕ}
use Rattle.std.proofs.Common.{ap, sym, ◌∙◌}
use Rattle.format.specs.declared.Bin.{Bin}
use Rattle.manual.specs.Operations.{negative64, amount64}
use Rattle.rules.specs.Rules.{moved}
use Rattle.rules.specs.declared.Beside.{Beside}

module _ (d amount : ℕ) (negative otherwise : Bin) (e : amount ≡ amount64 d) where
  chosen : (sign : Bool) → negative64 d ≡ sign → cond sign (Beside.RedoInner negative amount) (Beside.RedoInner otherwise amount) ≡ moved d negative otherwise
  chosen sign p =
      ap (λ (n : ℕ). cond sign (Beside.RedoInner negative n) (Beside.RedoInner otherwise n)) e
      ∙ ap (λ (b : Bool). cond b (Beside.RedoInner negative (amount64 d)) (Beside.RedoInner otherwise (amount64 d))) (sym p)

  pub moved_back : negative64 d ≡ true → Beside.RedoInner negative amount ≡ moved d negative otherwise
  moved_back p = chosen true p

  pub moved_on : negative64 d ≡ false → Beside.RedoInner otherwise amount ≡ moved d negative otherwise
  moved_on p = chosen false p
