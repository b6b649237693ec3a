-- A done call keeps the size and the value of a tree without a Top, whatever the inputs are. Assumes nothing.
use Rattle.std.specs.Prelude.{false, List, ◌≡◌, ℕ, Ok}
use Rattle.std.proofs.Common.{ap, sym, ◌∙◌}
use Rattle.arena.specs.Live.{tree_of}
use Rattle.theory.specs.MissingLaws.{HasRow}
use Rattle.theory.specs.RowLaws.{assigned_fitting}
use Rattle.formed.specs.Lines.{checked_exactly}
use Rattle.promises.proofs.Check.{passes_after}
use Rattle.promises.specs.EvaluationAnswers.{Valued}
use Rattle.promises.proofs.EvaluationAnswers.{evaluated_exactly}
use Rattle.promises.specs.After.{DoneCall}
use Rattle.promises.proofs.After.{admitted, tree_after}
use Rattle.rules.specs.Call.{words_after}
use Rattle.theory.proofs.Inputs.{reduced_inputs}
use Rattle.theory.proofs.Values.{reduced_value, reduced_size, reduced_free}
use Rattle.tree.specs.Form.{Sized}
use Rattle.tree.specs.Meaning.{Assignment, Fitting, value}
use Rattle.tree.specs.Rows.{assigned, evaluated}
use Rattle.tree.specs.Tree.{size, has_top}

module _ {words : List ℕ} {count root root' m : ℕ} (call : DoneCall words count root root' m) where
  sized_before : Sized (tree_of count words root)
  sized_before = (admitted call).live.sized root (admitted call).root_below

  module _ (topless : has_top (tree_of count words root) ≡ false) where
    -- DEMAND 3: the simplified root has the root's size
    pub same_size : size (tree_of m (words_after words count root) root') ≡ size (tree_of count words root)
    same_size = ap size (tree_after call) ∙ reduced_size (tree_of count words root) sized_before topless

    -- DEMAND 3: and gives its value, whatever the inputs are
    pub same_value : (ρ : Assignment) → Fitting ρ →
        value ρ (tree_of m (words_after words count root) root') ≡ value ρ (tree_of count words root)
    same_value ρ fitting = ap (value ρ) (tree_after call) ∙ reduced_value ρ fitting (tree_of count words root) sized_before topless

  -- DEMAND 3: so evaluation answers the same, wherever it has given a value
  pub same_evaluation : (rows : List ℕ) (v : ℕ) → evaluated words count root rows ≡ Ok v →
      evaluated (words_after words count root) m root' rows ≡ evaluated words count root rows
  same_evaluation rows v e =
      let before = (evaluated_exactly words count root rows (Ok v)).0 e in
      let t = tree_of count words root in
      let fitting = assigned_fitting rows before.assigns.no_bad_row in
      let after : Valued (words_after words count root) m root' rows v = record {
        passing = (checked_exactly (words_after words count root) m root' (Ok tt)).0 (passes_after call);
        assigns = record {
          no_bad_row = before.assigns.no_bad_row;
          every_input = rw (tree_after call) (reduced_inputs (HasRow rows) t before.assigns.every_input);
        };
        free = ap has_top (tree_after call) ∙ reduced_free t sized_before before.free;
        value_is = same_value before.free (assigned rows) fitting ∙ before.value_is;
      } in
      (evaluated_exactly (words_after words count root) m root' rows (Ok v)).1 after ∙ sym e
