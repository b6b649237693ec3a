-- Evaluation never gets stuck: on what passes the check, without a Top, each assignment gives one value, which fits. Assumes nothing.
-- The laws that rest on what an edit in must-fail/ changes are in proofs/Evaluation.antt.
use Rattle.std.specs.Prelude.{false, List, ◌≡◌, ℕ, ◌*◌, ◌^◌, ◌<◌, None, Ok}
use Rattle.arena.specs.Live.{tree_of}
use Rattle.theory.specs.MissingLaws.{HasRow}
use Rattle.formed.specs.LiveOfChecked.{live_of_checked}
use Rattle.promises.specs.Words.{Words64}
use Rattle.theory.specs.Inputs.{EveryInput}
use Rattle.theory.proofs.Keeps.{value_fits}
use Rattle.tree.specs.Form.{checked}
use Rattle.tree.specs.Meaning.{Assignment, Fitting, value}
use Rattle.tree.specs.Rows.{bad_row}
use Rattle.tree.specs.Tree.{size, has_top}

-- an assignment, as 01 has it: a table with no bad row and a row for every input under the root
pub record Assigns (words : List ℕ) (count root : ℕ) (rows : List ℕ) : Type 0 where
  pub no_bad_row : bad_row rows ≡ None
  pub every_input : EveryInput (HasRow rows) (tree_of count words root)

module _ (words : List ℕ) (count root : ℕ) (passed : checked words count root ≡ Ok tt) (topless : has_top (tree_of count words root) ≡ false) where
  -- DEMAND 3: whatever the inputs are, the value fits the root's size
  pub value_fits_size : Words64 words → (ρ : Assignment) → Fitting ρ → value ρ (tree_of count words root) < 2 ^ (8 * size (tree_of count words root))
  value_fits_size words64 ρ fitting =
      let a = live_of_checked words count words64 root passed in
      value_fits ρ fitting (tree_of count words root) (a.live.sized root a.root_below) topless
