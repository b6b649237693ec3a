-- The answers by the check's verdict. Assumes nothing.
use Rattle.std.specs.Prelude.{List, ◌≡◌, refl, ℕ, Err, Ok}
use Rattle.std.proofs.Math.Path.{ap}
use Rattle.rules.specs.Call.{ran_on, fits, ended, after_check, words_left, simplified_answer, words_after, SimplifiedAnswer}
use Rattle.rules.specs.Run.{Out}
use Rattle.rules.specs.declared.SimplifyError.{SimplifyError}
use Rattle.tree.specs.Form.{checked}
use Rattle.tree.specs.Rows.{passed, Evaluated}
use Rattle.tree.specs.declared.EvaluateError.{EvaluateError}
use Rattle.tree.specs.declared.Refusal.{Refusal}

-- what the check refuses is the answer of every call
pub simplify_refused : (refusal : Refusal) (next : SimplifiedAnswer) → after_check (Err refusal) next ≡ Err (SimplifyError.Refused refusal)
simplify_refused refusal next = refl

pub evaluate_refused : (refusal : Refusal) (next : Evaluated) → passed (Err refusal) next ≡ Err (EvaluateError.Refused refusal)
evaluate_refused refusal next = refl

module _ (words : List ℕ) (count root : ℕ) where
  abbrev o : Out
  o = ran_on words count root

  -- the check passed
  pub passed_answer : checked words count root ≡ Ok tt → simplified_answer words count root ≡ ended (fits words o) o
  unfolding simplified_answer
  passed_answer e = rw e

  pub passed_words : checked words count root ≡ Ok tt → words_after words count root ≡ words_left (ended (fits words o) o) words count o
  unfolding words_after
  passed_words e = ap (λ (r : SimplifiedAnswer). words_left r words count o) (passed_answer e)

  -- the check refused
  pub refused_answer : (refusal : Refusal) → checked words count root ≡ Err refusal → simplified_answer words count root ≡ Err (SimplifyError.Refused refusal)
  unfolding simplified_answer
  refused_answer refusal e = rw e (simplify_refused refusal (ended (fits words o) o))

  pub refused_words : (refusal : Refusal) → checked words count root ≡ Err refusal → words_after words count root ≡ words
  unfolding words_after
  refused_words refusal e = ap (λ (r : SimplifiedAnswer). words_left r words count o) (refused_answer refusal e)

-- what simplify is read by
pub ruleset by_verdict = (passed_answer, passed_words, refused_answer, refused_words)
