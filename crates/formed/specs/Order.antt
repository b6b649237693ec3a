-- The check, question by question: the count, the root, the nodes, the limits. Assumes nothing.
use Rattle.std.specs.Prelude.{List, ◌≡◌, ℕ, ◌≤◌, ◌<◌, length, Err}
use Rattle.std.proofs.Common.{le-leb, lt-ltb, le-ltb}
use Rattle.std.proofs.lemmas.Bool.{lt-leb}
use Rattle.arena.specs.Live.{tree_of}
use Rattle.format.specs.Limits.{capacity}
use Rattle.tree.specs.Form.{scanned, or_else, limited, checked, Verdict}
use Rattle.tree.specs.declared.Refusal.{Refusal}

module _ (words : List ℕ) (count root : ℕ) where
  pub count_above : capacity (length words) < count → checked words count root ≡ Err Refusal.CountAboveCapacity
  unfolding checked
  count_above h = rw (lt-leb count (capacity (length words)) h)

  module _ (room : count ≤ capacity (length words)) where
    pub root_not_below : count ≤ root → checked words count root ≡ Err Refusal.RootNotBelowCount
    unfolding checked
    root_not_below h = rw (le-leb count (capacity (length words)) room, le-ltb root count h)

    pub scan_decides : root < count → (v : Verdict) → scanned words count 0 ≡ v →
        checked words count root ≡ or_else v (limited (tree_of count words root))
    unfolding checked
    scan_decides h v e = rw (le-leb count (capacity (length words)) room, lt-ltb root count h, e)
