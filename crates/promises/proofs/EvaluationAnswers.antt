-- Evaluation gives each answer exactly where its line of 01 holds and no line before it does. Assumes nothing.
use Rattle.std.specs.Prelude.{Bool, true, false, List, ◌↔◌, ◌≡◌, ℕ, ◌*◌, ◌^◌, ◌<◌, Err, None, Ok, Option, Some}
use Rattle.std.proofs.Math.Logic.{⊎_elim}
use Rattle.std.proofs.Math.Path.{refl, ap}
use Rattle.std.proofs.Common.{◌∙◌, subst}
use Rattle.arena.specs.Live.{tree_of}
use Rattle.theory.specs.MissingLaws.{nothing_missing}
use Rattle.theory.specs.RowLaws.{assigned_fitting}
use Rattle.formed.specs.Lines.{Passing, checked_exactly}
use Rattle.promises.specs.Evaluation.{value_fits_size}
use Rattle.promises.proofs.Evaluation.{evaluation_total}
use Rattle.promises.specs.Verdicts.{on_verdict}
use Rattle.promises.specs.Words.{Words64}
use Rattle.rules.specs.declared.SimplifyError.{SimplifyError}
use Rattle.tree.specs.Arena.{nodes_of}
use Rattle.tree.specs.Form.{checked}
use Rattle.tree.specs.Meaning.{value}
use Rattle.tree.specs.Rows.{bad_row, assigned, missing, valued, topless, rowed, evaluated, Evaluated}
use Rattle.tree.specs.Tree.{size, has_top}
use Rattle.tree.specs.declared.EvaluateError.{EvaluateError}
use Rattle.promises.specs.EvaluationAnswers.{EvaluationLine}

module _ (words : List ℕ) (count root : ℕ) (rows : List ℕ) where
  abbrev v : ℕ
  v = value (assigned rows) (tree_of count words root)

  abbrev next : Evaluated
  next = rowed (bad_row rows) (topless (has_top (tree_of count words root)) (valued (missing rows (nodes_of count words) root) v))

  next_line : Passing words count root → (bad : Option ℕ) → bad_row rows ≡ bad → (has : Bool) → has_top (tree_of count words root) ≡ has →
      (lost : Option ℕ) → missing rows (nodes_of count words) root ≡ lost → EvaluationLine words count root rows (rowed bad (topless has (valued lost v)))
  next_line p (Some j) b has t lost g = (p, b)
  next_line p None b true t lost g = (p, b, t)
  next_line p None b false t (Some i) g = (p, b, t, g)
  next_line p None b false t None g = record {
    passing = p;
    assigns = record { no_bad_row = b; every_input = (nothing_missing rows (nodes_of count words) root).0 g };
    free = t;
    value_is = refl;
  }

  answer_line : EvaluationLine words count root rows (evaluated words count root rows)
  unfolding evaluated
  answer_line =
      let verdict = checked words count root in
      ⊎_elim (λ on. rw on.evaluation_is
      (next_line ((checked_exactly words count root (Ok tt)).0 on.passed_is) (bad_row rows) refl (has_top (tree_of count words root)) refl
      (missing rows (nodes_of count words) root) refl))
      (λ stop. rw stop.evaluation_is ((checked_exactly words count root (Err stop.refusal)).0 stop.refusal_is))
      (on_verdict verdict (Err SimplifyError.NoRoom) next)

  line_answer : (answer : Evaluated) → EvaluationLine words count root rows answer → evaluated words count root rows ≡ answer
  unfolding evaluated
  line_answer (Ok x) l =
      evaluation_total words count root ((checked_exactly words count root (Ok tt)).1 l.passing) l.free rows l.assigns
      ∙ ap Ok l.value_is
  line_answer (Err (EvaluateError.Refused refusal)) l = rw ((checked_exactly words count root (Err refusal)).1 l)
  line_answer (Err (EvaluateError.BadRow j)) l = rw ((checked_exactly words count root (Ok tt)).1 l.0, l.1)
  line_answer (Err EvaluateError.TopReachable) l = rw ((checked_exactly words count root (Ok tt)).1 l.0, l.1, l.2)
  line_answer (Err (EvaluateError.InputMissing i)) l = rw ((checked_exactly words count root (Ok tt)).1 l.0, l.1, l.2, l.3)

  -- DEMAND 1 and 01's table of answers
  pub evaluated_exactly : (answer : Evaluated) → (evaluated words count root rows ≡ answer) ↔ EvaluationLine words count root rows answer
  evaluated_exactly answer = (λ e. subst (EvaluationLine words count root rows) e answer_line, line_answer answer)

  -- DEMAND 3: a value that is answered fits the root's size
  pub answer_fits : Words64 words → (x : ℕ) → evaluated words count root rows ≡ Ok x → x < 2 ^ (8 * size (tree_of count words root))
  answer_fits words64 x e =
      let l = (evaluated_exactly (Ok x)).0 e in
      rw l.value_is at
      (value_fits_size words count root ((checked_exactly words count root (Ok tt)).1 l.passing) l.free words64
      (assigned rows) (assigned_fitting rows l.assigns.no_bad_row))
