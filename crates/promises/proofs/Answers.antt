-- Simplify gives each answer exactly where its line of 01 holds and no line before it does. Assumes nothing.
use Rattle.std.specs.Prelude.{Bool, true, false, List, ◌↔◌, ◌≡◌, refl, ℕ, length, Err, Ok}
use Rattle.std.proofs.Math.Logic.{⊎_elim}
use Rattle.std.proofs.Common.{subst}
use borrow.Author.Tests.{leb-true, leb-false, le-leb, lt-leb}
use Rattle.format.specs.Limits.{capacity}
use Rattle.formed.specs.Lines.{Passing, checked_exactly}
use Rattle.promises.specs.Verdicts.{on_verdict}
use Rattle.rules.specs.Call.{ran_on, fits, ended, simplified_answer, SimplifiedAnswer}
use Rattle.rules.specs.Run.{Out}
use Rattle.rules.specs.declared.SimplifyError.{SimplifyError}
use Rattle.tree.specs.Form.{checked}
use Rattle.tree.specs.declared.EvaluateError.{EvaluateError}
use Rattle.promises.specs.Answers.{SimplifyLine}

module _ (words : List ℕ) (count root : ℕ) where
  abbrev ran : Out
  ran = ran_on words count root

  passing : checked words count root ≡ Ok tt → Passing words count root
  passing e = (checked_exactly words count root (Ok tt)).0 e

  ended_line : checked words count root ≡ Ok tt → (b : Bool) → fits words ran ≡ b → SimplifyLine words count root (ended b ran)
  ended_line e true f = record {
    passing = passing e;
    enough = leb-true (length ran.arena) (capacity (length words)) f;
    root_is = refl;
    count_is = refl;
  }
  ended_line e false f = (passing e, leb-false (length ran.arena) (capacity (length words)) f)

  answer_line : SimplifyLine words count root (simplified_answer words count root)
  unfolding simplified_answer
  answer_line =
      let v = checked words count root in
      ⊎_elim (λ on. rw on.simplify_is (ended_line on.passed_is (fits words ran) refl))
      (λ stop. rw stop.simplify_is ((checked_exactly words count root (Err stop.refusal)).0 stop.refusal_is))
      (on_verdict v (ended (fits words ran) ran) (Err EvaluateError.TopReachable))

  line_answer : (answer : SimplifiedAnswer) → SimplifyLine words count root answer → simplified_answer words count root ≡ answer
  unfolding simplified_answer
  line_answer (Ok to) l =
      let room = le-leb (length ran.arena) (capacity (length words)) (rw l.count_is l.enough) in
      rw ((checked_exactly words count root (Ok tt)).1 l.passing, room, l.root_is, l.count_is)
  line_answer (Err (SimplifyError.Refused refusal)) l = rw ((checked_exactly words count root (Err refusal)).1 l)
  line_answer (Err SimplifyError.NoRoom) l =
      rw ((checked_exactly words count root (Ok tt)).1 l.0, lt-leb (length ran.arena) (capacity (length words)) l.1)

  -- DEMAND 1 and 01's table of answers: 7 exactly if the check passes and the run has more nodes than fit
  pub simplified_exactly : (answer : SimplifiedAnswer) → (simplified_answer words count root ≡ answer) ↔ SimplifyLine words count root answer
  simplified_exactly answer = (λ e. subst (SimplifyLine words count root) e answer_line, line_answer answer)
