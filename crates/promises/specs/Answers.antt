-- Simplify gives each answer exactly where its line of 01 holds and no line before it does. Assumes nothing.
-- The laws that rest on what an edit in must-fail/ changes are in proofs/Answers.antt.
use Rattle.std.specs.Prelude.{List, ◌≡◌, ℕ, ◌≤◌, ◌<◌, length, Err, Ok}
use Rattle.format.specs.Limits.{capacity}
use Rattle.formed.specs.Lines.{Passing, Line}
use Rattle.rules.specs.Call.{ran_on, SimplifiedAnswer}
use Rattle.rules.specs.declared.SimplifyError.{SimplifyError}

-- the run has ended at a root among m nodes, and they fit
pub record Fitted (words : List ℕ) (count root root' m : ℕ) : Type 0 where
  pub passing : Passing words count root
  pub enough : m ≤ capacity (length words)
  pub root_is : (ran_on words count root).index ≡ root'
  pub count_is : length (ran_on words count root).arena ≡ m

abbrev pub SimplifyLine : List ℕ → (count root : ℕ) → SimplifiedAnswer → Type 0
SimplifyLine words count root (Ok to) = Fitted words count root to.root to.count
SimplifyLine words count root (Err (SimplifyError.Refused refusal)) = Line words count root (Err refusal)
SimplifyLine words count root (Err SimplifyError.NoRoom) = Passing words count root × (capacity (length words) < length (ran_on words count root).arena)
