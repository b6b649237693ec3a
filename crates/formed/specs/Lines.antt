-- The check gives each number exactly where its line of 01 holds and no line before it does. Assumes nothing.
use Rattle.std.specs.Prelude.{List, ◌↔◌, ◌≡◌, ℕ, ◌≤◌, ◌<◌, leb, ltb, length, Err, Ok}
use Rattle.std.proofs.Common.{subst, ◌∙◌, zero-le, arith, leb-true, leb-false, ltb-true, ltb-false, le-leb}
use Rattle.std.proofs.lemmas.Bool.{lt-leb}
use Rattle.arena.specs.Live.{tree_of}
use Rattle.format.specs.Limits.{capacity, max_path, max_unfolded}
use Rattle.format.specs.Truth.{either_knowing}
use Rattle.formed.specs.Order.{count_above, root_not_below, scan_decides}
use Rattle.formed.specs.Scan.{WellMade, Says, scan_says, scan_passes, scan_finds_ill_formed, scan_finds_ill_sized}
use Rattle.tree.specs.Form.{scanned, or_else, limited, checked, Verdict}
use Rattle.tree.specs.Tree.{Tree, nodes, path}
use Rattle.tree.specs.declared.Refusal.{Refusal}

-- what the check asks for
pub record Passing (words : List ℕ) (count root : ℕ) : Type 0 where
  pub room : count ≤ capacity (length words)
  pub root_below : root < count
  pub made : (i : ℕ) → i < count → WellMade words i
  pub few_nodes : nodes (tree_of count words root) ≤ max_unfolded
  pub short_path : path (tree_of count words root) ≤ max_path

-- the first two questions, and with them the third and fourth
pub record InRange (words : List ℕ) (count root : ℕ) : Type 0 where
  pub room : count ≤ capacity (length words)
  pub root_below : root < count

pub record Scanned (words : List ℕ) (count root : ℕ) : Type 0 where
  pub range : InRange words count root
  pub made : (i : ℕ) → i < count → WellMade words i

-- 01's line of each verdict, after the questions before it; a node that is named is the first that is not well made
abbrev pub Line : List ℕ → (count root : ℕ) → Verdict → Type 0
Line words count root (Ok u) = Passing words count root
Line words count root (Err Refusal.CountAboveCapacity) = capacity (length words) < count
Line words count root (Err Refusal.RootNotBelowCount) = (count ≤ capacity (length words)) × (count ≤ root)
Line words count root (Err (Refusal.IllFormed i)) = InRange words count root × Says words count 0 (Err (Refusal.IllFormed i))
Line words count root (Err (Refusal.IllSized i)) = InRange words count root × Says words count 0 (Err (Refusal.IllSized i))
Line words count root (Err Refusal.TooManyNodes) = Scanned words count root × (max_unfolded < nodes (tree_of count words root))
Line words count root (Err Refusal.PathTooLong) =
    Scanned words count root × (nodes (tree_of count words root) ≤ max_unfolded) × (max_path < path (tree_of count words root))

module _ (words : List ℕ) (count root : ℕ) where
  abbrev tree : Tree
  tree = tree_of count words root

  abbrev Holds : Verdict → Type 0
  Holds = Line words count root

  module _ (range : InRange words count root) where
    limits_hold : ((i : ℕ) → i < count → WellMade words i) → Holds (limited tree)
    limits_hold made =
        let scan : Scanned words count root = record { range = range; made = made } in
        either_knowing Holds (leb (nodes tree) max_unfolded)
        (λ few. either_knowing Holds (leb (path tree) max_path)
        (λ short. record {
          room = range.room;
          root_below = range.root_below;
          made = made;
          few_nodes = leb-true (nodes tree) max_unfolded few;
          short_path = leb-true (path tree) max_path short;
        })
        (λ long. (scan, leb-true (nodes tree) max_unfolded few, leb-false (path tree) max_path long)))
        (λ many. (scan, leb-false (nodes tree) max_unfolded many))

    scan_holds : (v : Verdict) → Says words count 0 v → Holds (or_else v (limited tree))
    scan_holds (Ok u) s = limits_hold (λ i h. s i zero-le (omega arith))
    scan_holds (Err (Refusal.IllFormed i)) s = (range, s)
    scan_holds (Err (Refusal.IllSized i)) s = (range, s)
    scan_holds (Err Refusal.CountAboveCapacity) s = absurd s
    scan_holds (Err Refusal.RootNotBelowCount) s = absurd s
    scan_holds (Err Refusal.TooManyNodes) s = absurd s
    scan_holds (Err Refusal.PathTooLong) s = absurd s

  pub line_holds : Line words count root (checked words count root)
  unfolding checked
  line_holds =
      either_knowing Holds (leb count (capacity (length words)))
      (λ room. either_knowing Holds (ltb root count)
      (λ below. scan_holds (record { room = leb-true count (capacity (length words)) room; root_below = ltb-true root count below }) (scanned words count 0) (scan_says words count 0))
      (λ above. (leb-true count (capacity (length words)) room, ltb-false root count above)))
      (leb-false count (capacity (length words)))

  -- past the scan the limits decide
  limits_decide : Scanned words count root → checked words count root ≡ limited tree
  limits_decide s = scan_decides words count root s.range.room s.range.root_below (Ok tt) (scan_passes words count s.made)

  line_decides : (v : Verdict) → Line words count root v → checked words count root ≡ v
  line_decides (Ok u) p =
      limits_decide (record { range = record { room = p.room; root_below = p.root_below }; made = p.made })
      ∙ rw (le-leb (nodes tree) max_unfolded p.few_nodes, le-leb (path tree) max_path p.short_path)
  line_decides (Err Refusal.CountAboveCapacity) h = count_above words count root h
  line_decides (Err Refusal.RootNotBelowCount) h = root_not_below words count root h.0 h.1
  line_decides (Err (Refusal.IllFormed i)) h =
      scan_decides words count root h.0.room h.0.root_below (Err (Refusal.IllFormed i)) (scan_finds_ill_formed words count i h.1.0 h.1.1)
  line_decides (Err (Refusal.IllSized i)) h =
      scan_decides words count root h.0.room h.0.root_below (Err (Refusal.IllSized i)) (scan_finds_ill_sized words count i h.1.0 h.1.1 h.1.2)
  line_decides (Err Refusal.TooManyNodes) h = limits_decide h.0 ∙ rw (lt-leb (nodes tree) max_unfolded h.1)
  line_decides (Err Refusal.PathTooLong) h = limits_decide h.0 ∙ rw (le-leb (nodes tree) max_unfolded h.1, lt-leb (path tree) max_path h.2)

  pub checked_exactly : (v : Verdict) → (checked words count root ≡ v) ↔ Line words count root v
  checked_exactly v = (λ e. subst Holds e line_holds, line_decides v)
