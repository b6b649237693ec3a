-- Evaluation never gets stuck: on what passes the check, without a Top, each assignment gives one value, which fits. Assumes nothing.
use Rattle.std.specs.Prelude.{false, List, ◌≡◌, ℕ, Ok}
use Rattle.arena.specs.Live.{tree_of}
use Rattle.theory.specs.MissingLaws.{nothing_missing}
use Rattle.tree.specs.Arena.{nodes_of}
use Rattle.tree.specs.Form.{checked}
use Rattle.tree.specs.Meaning.{value}
use Rattle.tree.specs.Rows.{assigned, evaluated}
use Rattle.tree.specs.Tree.{has_top}
use Rattle.promises.specs.Evaluation.{Assigns}

module _ (words : List ℕ) (count root : ℕ) (passed : checked words count root ≡ Ok tt) (topless : has_top (tree_of count words root) ≡ false) where
  -- DEMAND 3: if no Top can be reached, each assignment gives one value, the manual's
  pub evaluation_total : (rows : List ℕ) → Assigns words count root rows →
      evaluated words count root rows ≡ Ok (value (assigned rows) (tree_of count words root))
  unfolding evaluated
  evaluation_total rows a =
      rw (passed, a.no_bad_row, topless, (nothing_missing rows (nodes_of count words) root).1 a.every_input)
