-- What the calls promise, gathered: every statement that docs/PROMISES.md names, over the definitions `checked`, `evaluated`,
-- `simplified_answer` and `words_after`. The theorems are in proofs/Promises.antt, from the files beside it. Assumes nothing.
use Rattle.std.specs.Prelude.{List, ◌≡◌, ℕ, Err}
use Rattle.arena.specs.Live.{tree_of}
use Rattle.formed.specs.Lines.{checked_exactly}
use Rattle.promises.proofs.Again.{stays_anywhere, words_stay_anywhere, again_answer, again_words, again_in_any_slice, again_words_in_any_slice}
use Rattle.promises.proofs.Alike.{same_tree}
use Rattle.promises.proofs.Answers.{simplified_exactly}
use Rattle.promises.proofs.Check.{no_more_nodes, no_longer_path, passes_after}
use Rattle.promises.specs.Evaluation.{value_fits_size}
use Rattle.promises.proofs.Evaluation.{evaluation_total}
use Rattle.promises.proofs.EvaluationAnswers.{evaluated_exactly, answer_fits}
use Rattle.promises.specs.FirstRows.{bad_row_is_first, missing_is_first}
use Rattle.promises.specs.After.{DoneCall}
use Rattle.promises.proofs.After.{with_room, nodes_after}
use Rattle.promises.specs.Room.{refused_alters_nothing, root_and_count, no_value}
use Rattle.promises.proofs.Room.{no_room_clears, done_appends, done_count, words64_always}
use Rattle.promises.specs.Steps.{more_steps_answer, more_steps_words}
use Rattle.promises.proofs.Tops.{top_exactly, one_constant}
use Rattle.promises.proofs.Values.{same_size, same_value, same_evaluation}
use Rattle.rules.specs.Call.{simplified_answer, words_after}
use Rattle.tree.specs.Arena.{nodes_of}
use Rattle.tree.specs.Rows.{evaluated}
use Rattle.tree.specs.declared.EvaluateError.{EvaluateError}
use Rattle.promises.specs.Promises.{Answering, Passed, PastCheck, Simplifying}

pub answering : (words : List ℕ) (count root : ℕ) → Answering words count root
answering words count root = record {
  check_exactly = checked_exactly words count root;
  simplify_exactly = simplified_exactly words count root;
  evaluate_exactly = evaluated_exactly words count root;
  refusal_words = refused_alters_nothing words count root;
  no_room_words = no_room_clears words count root;
  words64_kept = words64_always words count root;
  unmoved = root_and_count (simplified_answer words count root) count;
  valueless = λ rows. no_value (evaluated words count root rows);
  bad_row = λ rows j e. bad_row_is_first rows j ((evaluated_exactly words count root rows (Err (EvaluateError.BadRow j))).0 e).1;
  missing_input = λ rows i e. missing_is_first rows (nodes_of count words) root i ((evaluated_exactly words count root rows (Err (EvaluateError.InputMissing i))).0 e).3;
}

pub past_check : {words : List ℕ} {count root : ℕ} → Passed words count root → PastCheck words count root
past_check {words} {count} {root} p = record {
  total = evaluation_total words count root p.passes;
  answer_in_size = λ rows. answer_fits words count root rows p.words64;
  value_in_size = λ topless. value_fits_size words count root p.passes topless p.words64;
  done = λ room. with_room words count root p.words64 p.passes room;
  steps_answer = more_steps_answer words count root p.words64 p.passes;
  steps_words = more_steps_words words count root p.words64 p.passes;
}

pub simplifying : {words : List ℕ} {count root root' m : ℕ} → DoneCall words count root root' m → Simplifying words count root root' m
simplifying call = record {
  size_kept = same_size call;
  value_kept = same_value call;
  evaluation_kept = same_evaluation call;
  passes = passes_after call;
  nodes_within = no_more_nodes call;
  path_within = no_longer_path call;
  top_is = top_exactly call;
  constant_is = one_constant call;
  again = again_answer call;
  again_same_words = again_words call;
  anywhere = stays_anywhere call;
  anywhere_same_words = words_stay_anywhere call;
  any_slice = again_in_any_slice call;
  any_slice_same_words = again_words_in_any_slice call;
  appended = done_appends call;
  nodes_are = nodes_after call;
  count_is = done_count call;
}

-- 01, contracts: two done calls whose trees under the root are the same give the same simplified tree
pub alike : {words words₂ : List ℕ} {count root root' m count₂ root₂ root₂' m₂ : ℕ} →
    DoneCall words count root root' m → DoneCall words₂ count₂ root₂ root₂' m₂ → tree_of count words root ≡ tree_of count₂ words₂ root₂ →
    tree_of m (words_after words count root) root' ≡ tree_of m₂ (words_after words₂ count₂ root₂) root₂'
alike call call₂ e = same_tree call call₂ e
