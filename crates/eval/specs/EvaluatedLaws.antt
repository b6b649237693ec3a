-- Evaluation is the check, and then what it answers past the check; there an input that is missing is told by its index. Assumes nothing.
use Rattle.std.specs.Prelude.{true, false, List, ◌≡◌, ℕ, Err, None, Ok, Option, Result, Some}
use Rattle.std.specs.Result.{MatchResult, IsErrAnd}
use Rattle.std.proofs.Math.Path.{refl}
use Rattle.std.proofs.Common.{ap, sym}
use Rattle.arena.specs.Live.{tree_of}
use Rattle.eval.specs.Answers.{answered, answer_at, evaluated_live}
use Rattle.tree.specs.Arena.{nodes_of}
use Rattle.tree.specs.Form.{checked}
use Rattle.tree.specs.Meaning.{value}
use Rattle.tree.specs.Rows.{bad_row, assigned, missing, valued, passed, evaluated, Evaluated}
use Rattle.tree.specs.Tree.{has_top}
use Rattle.tree.specs.declared.EvaluateError.{EvaluateError}

pub evaluated_checked : (words : List ℕ) (count root : ℕ) (rows : List ℕ) →
    evaluated words count root rows ≡ passed (checked words count root) (evaluated_live words count root rows)
unfolding evaluated evaluated_live
evaluated_checked words count root rows = refl

abbrev pub evaluated_of : Result ℕ ℕ → Evaluated
evaluated_of (Ok v) = Ok v
evaluated_of (Err i) = Err (EvaluateError.InputMissing i)

valued_of : (m : Option ℕ) (v : ℕ) → valued m v ≡ evaluated_of (answered m v)
valued_of None v = refl
valued_of (Some i) v = refl

pub no_bad_row : (rows : List ℕ) → None ≡ bad_row rows → bad_row rows ≡ None
no_bad_row rows e = sym e

module _ (words : List ℕ) (count root : ℕ) (rows : List ℕ) where
  pub evaluated_bad_row : (j : ℕ) → Some j ≡ bad_row rows → evaluated_live words count root rows ≡ Err (EvaluateError.BadRow j)
  unfolding evaluated_live
  evaluated_bad_row j e = rw (sym e)

  pub evaluated_top : bad_row rows ≡ None → has_top (tree_of count words root) ≡ true → evaluated_live words count root rows ≡ Err EvaluateError.TopReachable
  unfolding evaluated_live
  evaluated_top good has = rw (good, has)

  pub evaluated_answer : bad_row rows ≡ None → has_top (tree_of count words root) ≡ false →
      evaluated_live words count root rows ≡ evaluated_of (answer_at words count rows root)
  unfolding evaluated_live answer_at
  evaluated_answer good free =
      rw (good, free) (valued_of (missing rows (nodes_of count words) root) (value (assigned rows) (tree_of count words root)))

-- a result that has the value, or the error that was made of the index
abbrev pub Told : (made : ℕ → EvaluateError → Type 0) → Result ℕ ℕ → Evaluated → Type 0
Told made answer result = MatchResult answer (λ v. result ≡ Ok v) (λ i. IsErrAnd result (made i))

module _ (made : ℕ → EvaluateError → Type 0) (is : (i : ℕ) (error : EvaluateError) → made i error → error ≡ EvaluateError.InputMissing i) where
  told : (m : Option ℕ) (v : ℕ) (result : Evaluated) → Told made (answered m v) result → result ≡ valued m v
  told None v result h = h
  told (Some i) v (Ok w) h = absurd h
  told (Some i) v (Err error) h = ap Err (is i error h)

  pub evaluated_told : (words : List ℕ) (count root : ℕ) (rows : List ℕ) → bad_row rows ≡ None → has_top (tree_of count words root) ≡ false →
      (result : Evaluated) → Told made (answer_at words count rows root) result → result ≡ evaluated_live words count root rows
  unfolding answer_at evaluated_live
  evaluated_told words count root rows good free result h =
      rw (good, free) (told (missing rows (nodes_of count words) root) (value (assigned rows) (tree_of count words root)) result h)
