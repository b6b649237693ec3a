-- What the calls promise, gathered: every statement that docs/PROMISES.md names, over the definitions `checked`, `evaluated`,
-- `simplified_answer` and `words_after`. The theorems are in proofs/Promises.antt, from the files beside it. Assumes nothing.
use Rattle.std.specs.Prelude.{false, List, map, ◌↔◌, ◌≡◌, ℕ, ◌+◌, ◌*◌, ◌/◌, ◌^◌, ◌≤◌, ◌<◌, length, get_or, drop, Err, Ok}
use Rattle.arena.specs.Live.{tree_of}
use Rattle.format.specs.Limits.{node_words, capacity}
use Rattle.formed.specs.Lines.{Line}
use Rattle.promises.specs.Answers.{SimplifyLine}
use Rattle.promises.specs.Evaluation.{Assigns}
use Rattle.promises.specs.EvaluationAnswers.{EvaluationLine}
use Rattle.promises.specs.FirstRows.{FirstBad, inputs, FirstWithoutRow}
use Rattle.promises.specs.After.{DoneCall}
use Rattle.promises.specs.Room.{Cleared, Appended}
use Rattle.promises.specs.Words.{Words64}
use Rattle.rules.specs.Bench.{seen, expected, bench, bench_holds}
use Rattle.rules.specs.Call.{ran_on, fits, ended, simplified_answer, words_left, words_after, simplified_number, simplified_root, simplified_count, SimplifiedAnswer, done}
use Rattle.rules.specs.Run.{run_for, weight}
use Rattle.rules.specs.declared.SimplifyError.{SimplifyError}
use Rattle.tree.specs.Arena.{nodes_of}
use Rattle.tree.specs.Form.{checked, Verdict}
use Rattle.tree.specs.Meaning.{Assignment, Fitting, value}
use Rattle.tree.specs.Rows.{row_words, assigned, evaluated, evaluated_number, evaluated_value, Evaluated}
use Rattle.tree.specs.Tree.{const, size, nodes, path, is_top, has_top, has_input}
use Rattle.tree.specs.declared.EvaluateError.{EvaluateError}
use Rattle.tree.specs.declared.Refusal.{Refusal}

-- ANY WORDS, COUNT AND ROOT
pub record Answering (words : List ℕ) (count root : ℕ) : Type 0 where
  -- demand 1: each number is given exactly where its line of 01 holds and no line before it does
  pub check_exactly : (v : Verdict) → (checked words count root ≡ v) ↔ Line words count root v
  pub simplify_exactly : (answer : SimplifiedAnswer) → (simplified_answer words count root ≡ answer) ↔ SimplifyLine words count root answer
  pub evaluate_exactly : (rows : List ℕ) (answer : Evaluated) → (evaluated words count root rows ≡ answer) ↔ EvaluationLine words count root rows answer
  -- demand 1: a refusal alters no word, and after no room the free words are zero and all others as they were
  pub refusal_words : (refusal : Refusal) → simplified_answer words count root ≡ Err (SimplifyError.Refused refusal) → words_after words count root ≡ words
  pub no_room_words : simplified_answer words count root ≡ Err SimplifyError.NoRoom → Cleared words (words_after words count root) count
  -- whatever the answer, the words are of 64 bits again, so that every promise holds of the next call too
  pub words64_kept : Words64 words → Words64 (words_after words count root)
  -- 01, answers: a number other than 0 comes with root 0 and the count handed in, or with value 0
  pub unmoved : (simplified_number (simplified_answer words count root) ≡ 0 → ⊥) →
      (simplified_root (simplified_answer words count root) ≡ 0) × (simplified_count (simplified_answer words count root) count ≡ count)
  pub valueless : (rows : List ℕ) → (evaluated_number (evaluated words count root rows) ≡ 0 → ⊥) → evaluated_value (evaluated words count root rows) ≡ 0
  -- 01, answers 8 and 9: the first bad row's number, and the index of the first input without a row, left before right
  pub bad_row : (rows : List ℕ) (j : ℕ) → evaluated words count root rows ≡ Err (EvaluateError.BadRow j) → FirstBad rows (length rows / row_words) 0 j
  pub missing_input : (rows : List ℕ) (i : ℕ) → evaluated words count root rows ≡ Err (EvaluateError.InputMissing i) →
      FirstWithoutRow rows (nodes_of count words) (inputs (nodes_of count words) root) i

-- WHAT PASSES THE CHECK
pub record Passed (words : List ℕ) (count root : ℕ) : Type 0 where
  pub words64 : Words64 words
  pub passes : checked words count root ≡ Ok tt

pub record PastCheck (words : List ℕ) (count root : ℕ) : Type 0 where
  -- demand 3: if no Top can be reached, each assignment gives one value, the manual's, and whatever the inputs are it fits the root's size
  pub total : has_top (tree_of count words root) ≡ false → (rows : List ℕ) → Assigns words count root rows →
      evaluated words count root rows ≡ Ok (value (assigned rows) (tree_of count words root))
  pub answer_in_size : (rows : List ℕ) (v : ℕ) → evaluated words count root rows ≡ Ok v → v < 2 ^ (8 * size (tree_of count words root))
  pub value_in_size : has_top (tree_of count words root) ≡ false → (ρ : Assignment) → Fitting ρ →
      value ρ (tree_of count words root) < 2 ^ (8 * size (tree_of count words root))
  -- demand 3: with enough room the call is done
  pub done : length (ran_on words count root).arena ≤ capacity (length words) →
      DoneCall words count root (ran_on words count root).index (length (ran_on words count root).arena)
  -- 01, the rewriting: it ends; more steps than the tree weighs change neither the answer nor a word
  pub steps_answer : (steps : ℕ) → weight (tree_of count words root) ≤ steps →
      let o = run_for steps (nodes_of count words) root in
      simplified_answer words count root ≡ ended (fits words o) o
  pub steps_words : (steps : ℕ) → weight (tree_of count words root) ≤ steps →
      let o = run_for steps (nodes_of count words) root in
      words_after words count root ≡ words_left (ended (fits words o) o) words count o

-- A CALL OF SIMPLIFY THAT WAS DONE
pub record Simplifying (words : List ℕ) (count root root' m : ℕ) : Type 0 where
  -- demand 3: without a Top the simplified root has the root's size, and its value whatever the inputs are
  pub size_kept : has_top (tree_of count words root) ≡ false → size (tree_of m (words_after words count root) root') ≡ size (tree_of count words root)
  pub value_kept : has_top (tree_of count words root) ≡ false → (ρ : Assignment) → Fitting ρ →
      value ρ (tree_of m (words_after words count root) root') ≡ value ρ (tree_of count words root)
  pub evaluation_kept : (rows : List ℕ) (v : ℕ) → evaluated words count root rows ≡ Ok v →
      evaluated (words_after words count root) m root' rows ≡ evaluated words count root rows
  -- demand 3: it passes the check; it has no more nodes and no longer path
  pub passes : checked (words_after words count root) m root' ≡ Ok tt
  pub nodes_within : nodes (tree_of m (words_after words count root) root') ≤ nodes (tree_of count words root)
  pub path_within : path (tree_of m (words_after words count root) root') ≤ path (tree_of count words root)
  -- demand 3: it is Top exactly if a Top was reachable, and one constant where there is neither Top nor input
  pub top_is : is_top (tree_of m (words_after words count root) root') ≡ has_top (tree_of count words root)
  pub constant_is : has_top (tree_of count words root) ≡ false → has_input (tree_of count words root) ≡ false → (ρ : Assignment) → Fitting ρ →
      tree_of m (words_after words count root) root' ≡ const (size (tree_of count words root)) (value ρ (tree_of count words root))
  -- demand 3: simplifying the result again returns the same root and appends nothing, in these words and in any that hold its tree
  pub again : simplified_answer (words_after words count root) m root' ≡ done root' m
  pub again_same_words : words_after (words_after words count root) m root' ≡ words_after words count root
  pub anywhere : (other : List ℕ) (n i : ℕ) → Words64 other → checked other n i ≡ Ok tt →
      tree_of n other i ≡ tree_of m (words_after words count root) root' → simplified_answer other n i ≡ done i n
  pub anywhere_same_words : (other : List ℕ) (n i : ℕ) → Words64 other → checked other n i ≡ Ok tt →
      tree_of n other i ≡ tree_of m (words_after words count root) root' → words_after other n i ≡ other
  pub any_slice : (other : List ℕ) → Words64 other → m ≤ capacity (length other) →
      ((k : ℕ) → k < node_words * m → get_or other k 0 ≡ get_or (words_after words count root) k 0) → simplified_answer other m root' ≡ done root' m
  pub any_slice_same_words : (other : List ℕ) → Words64 other → m ≤ capacity (length other) →
      ((k : ℕ) → k < node_words * m → get_or other k 0 ≡ get_or (words_after words count root) k 0) → words_after other m root' ≡ other
  -- 01, contracts: every word, the placement of new nodes, and the count
  pub appended : Appended words (words_after words count root) count root m
  pub nodes_are : nodes_of m (words_after words count root) ≡ (ran_on words count root).arena
  pub count_is : m ≡ count + length (drop count (ran_on words count root).arena)

-- 01, examples: P1 to P12
pub at_the_bench : map seen bench ≡ map expected bench
at_the_bench = bench_holds
