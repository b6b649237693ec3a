-- What a done call has left passes the check; the tree has no more nodes and no longer path than before. Assumes nothing.
use Rattle.std.specs.Prelude.{List, ◌≡◌, ℕ, ◌≤◌, Ok}
use Rattle.std.proofs.Common.{le_trans}
use Rattle.arena.specs.Live.{tree_of}
use Rattle.formed.specs.LiveOfChecked.{Admitted, checked_of_live}
use Rattle.promises.specs.After.{DoneCall}
use Rattle.promises.proofs.After.{admitted, live_after, tree_after, root_after}
use Rattle.rules.specs.Call.{words_after}
use Rattle.theory.proofs.Reduced.{reduced_nodes, reduced_path}
use Rattle.tree.specs.Form.{checked}
use Rattle.tree.specs.Tree.{nodes, path}

module _ {words : List ℕ} {count root root' m : ℕ} (call : DoneCall words count root root' m) where
  pub no_more_nodes : nodes (tree_of m (words_after words count root) root') ≤ nodes (tree_of count words root)
  no_more_nodes = rw (tree_after call) (reduced_nodes (tree_of count words root))

  pub no_longer_path : path (tree_of m (words_after words count root) root') ≤ path (tree_of count words root)
  no_longer_path = rw (tree_after call) (reduced_path (tree_of count words root))

  pub admitted_after : Admitted (words_after words count root) m root'
  admitted_after = record {
    live = live_after call;
    root_below = root_after call;
    few_nodes = le_trans no_more_nodes (admitted call).few_nodes;
    short_path = le_trans no_longer_path (admitted call).short_path;
  }

  -- DEMAND 3: the simplified root always passes the check
  pub passes_after : checked (words_after words count root) m root' ≡ Ok tt
  passes_after = checked_of_live admitted_after
