-- A done call ends at Top exactly if a Top was reachable, and at one constant where there is neither Top nor input. Assumes nothing.
use Rattle.std.specs.Prelude.{false, List, ◌≡◌, ℕ}
use Rattle.std.proofs.Common.{ap, sym, ◌∙◌}
use Rattle.std.proofs.Math.Path.{ap₂}
use Rattle.arena.specs.Live.{tree_of}
use Rattle.promises.specs.After.{DoneCall}
use Rattle.promises.proofs.After.{tree_after}
use Rattle.promises.proofs.Values.{same_size, same_value}
use Rattle.rules.specs.Call.{words_after}
use Rattle.theory.proofs.Inputs.{reduced_constant}
use Rattle.theory.specs.Normal.{IsConst}
use Rattle.theory.proofs.Reduced.{reduced_top}
use Rattle.tree.specs.Meaning.{Assignment, Fitting, value}
use Rattle.tree.specs.Tree.{const, size, is_top, has_top, has_input}

module _ {words : List ℕ} {count root root' m : ℕ} (call : DoneCall words count root root' m) where
  -- DEMAND 3: it is Top exactly if a Top was reachable
  pub top_exactly : is_top (tree_of m (words_after words count root) root') ≡ has_top (tree_of count words root)
  top_exactly = ap is_top (tree_after call) ∙ reduced_top (tree_of count words root)

  -- DEMAND 3: a Top-free tree without inputs becomes one constant, of its size and with its value
  pub one_constant : has_top (tree_of count words root) ≡ false → has_input (tree_of count words root) ≡ false → (ρ : Assignment) → Fitting ρ →
      tree_of m (words_after words count root) root' ≡ const (size (tree_of count words root)) (value ρ (tree_of count words root))
  unfolding IsConst
  one_constant topless inputless ρ fitting =
      let c = reduced_constant (tree_of count words root) topless inputless in
      let is : tree_of m (words_after words count root) root' ≡ const c.0 c.1 = tree_after call ∙ c.2 in
      is ∙ ap₂ const (sym (ap size is) ∙ same_size call topless) (sym (ap (value ρ) is) ∙ same_value call topless ρ fitting)
