-- Evaluation gives each answer exactly where its line of 01 holds and no line before it does. Assumes nothing.
-- The laws that rest on what an edit in must-fail/ changes are in proofs/EvaluationAnswers.antt.
use Rattle.std.specs.Prelude.{true, false, List, ◌≡◌, ℕ, Err, None, Ok, Some}
use Rattle.arena.specs.Live.{tree_of}
use Rattle.formed.specs.Lines.{Passing, Line}
use Rattle.promises.specs.Evaluation.{Assigns}
use Rattle.tree.specs.Arena.{nodes_of}
use Rattle.tree.specs.Meaning.{value}
use Rattle.tree.specs.Rows.{bad_row, assigned, missing, Evaluated}
use Rattle.tree.specs.Tree.{has_top}
use Rattle.tree.specs.declared.EvaluateError.{EvaluateError}

-- a value, under an assignment
pub record Valued (words : List ℕ) (count root : ℕ) (rows : List ℕ) (v : ℕ) : Type 0 where
  pub passing : Passing words count root
  pub assigns : Assigns words count root rows
  pub free : has_top (tree_of count words root) ≡ false
  pub value_is : value (assigned rows) (tree_of count words root) ≡ v

-- 1 to 6 as the check has them, then 8, 10, 9
abbrev pub EvaluationLine : List ℕ → (count root : ℕ) → List ℕ → Evaluated → Type 0
EvaluationLine words count root rows (Ok v) = Valued words count root rows v
EvaluationLine words count root rows (Err (EvaluateError.Refused refusal)) = Line words count root (Err refusal)
EvaluationLine words count root rows (Err (EvaluateError.BadRow j)) = Passing words count root × (bad_row rows ≡ Some j)
EvaluationLine words count root rows (Err EvaluateError.TopReachable) =
    Passing words count root × (bad_row rows ≡ None) × (has_top (tree_of count words root) ≡ true)
EvaluationLine words count root rows (Err (EvaluateError.InputMissing i)) =
    Passing words count root × (bad_row rows ≡ None) × (has_top (tree_of count words root) ≡ false) × (missing rows (nodes_of count words) root ≡ Some i)
