-- The run has ended: more steps give the same answer and the same words. Assumes nothing.
use Rattle.std.specs.Prelude.{List, ◌≡◌, ℕ, ◌≤◌, Ok}
use Rattle.std.proofs.Common.{arith}
use Rattle.arena.specs.Live.{tree_of}
use Rattle.arena.specs.LiveLaws.{live_ordered, in_arena}
use Rattle.formed.specs.LiveOfChecked.{live_of_checked}
use Rattle.promises.specs.Words.{Words64}
use Rattle.rules.specs.Call.{ran_on, fits, ended, simplified_answer, words_left, words_after}
use Rattle.rules.specs.Run.{Out, run_for, weight}
use Rattle.theory.proofs.Simulation.{runs_agree}
use Rattle.tree.specs.Arena.{nodes_of}
use Rattle.tree.specs.Form.{checked}

module _ (words : List ℕ) (count root : ℕ) (words64 : Words64 words) (passed : checked words count root ≡ Ok tt)
    (steps : ℕ) (enough : weight (tree_of count words root) ≤ steps) where
  abbrev longer : Out
  longer = run_for steps (nodes_of count words) root

  -- 01, the rewriting: the run ends
  pub more_steps : run_for steps (nodes_of count words) root ≡ ran_on words count root
  more_steps =
      let a = live_of_checked words count words64 root passed in
      runs_agree steps (weight (tree_of count words root)) (nodes_of count words) (live_ordered a.live) root (in_arena a.live root a.root_below) enough (omega arith)

  pub more_steps_answer : simplified_answer words count root ≡ ended (fits words longer) longer
  unfolding simplified_answer
  more_steps_answer = rw (more_steps, passed)

  pub more_steps_words : words_after words count root ≡ words_left (ended (fits words longer) longer) words count longer
  unfolding words_after
  more_steps_words = rw (more_steps_answer, more_steps)
