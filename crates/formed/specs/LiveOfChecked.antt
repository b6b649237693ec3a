-- An arena that passes the check is live, and a live one within the limits passes. Assumes nothing.
use Rattle.std.specs.Prelude.{List, ◌≡◌, ℕ, ◌^◌, ◌≤◌, ◌<◌, length, get_or, Ok}
use Rattle.std.proofs.Common.{subst, le-leb, lt-ltb}
use Rattle.arena.specs.Live.{Live, Good, tree_of}
use Rattle.format.specs.Limits.{capacity, max_path, max_unfolded}
use Rattle.formed.specs.GoodNodes.{good_of_well_made, well_formed_of_good}
use Rattle.formed.specs.Lines.{Passing, Line, line_holds}
use Rattle.formed.specs.Scan.{WellMade, scan_passed, scan_passes}
use Rattle.formed.specs.SizedTrees.{trees_sized, well_sized_of_tree}
use Rattle.tree.specs.Form.{scanned, checked}
use Rattle.tree.specs.Tree.{nodes, path}

-- what the check lets through
pub record Admitted (words : List ℕ) (count root : ℕ) : Type 0 where
  pub live : Live words count
  pub root_below : root < count
  pub few_nodes : nodes (tree_of count words root) ≤ max_unfolded
  pub short_path : path (tree_of count words root) ≤ max_path

-- as the words of a slice are
module _ (words : List ℕ) (count : ℕ) (narrow : (k : ℕ) → get_or words k 0 < 2 ^ 64) where
  live_of_made : count ≤ capacity (length words) → ((i : ℕ) → i < count → WellMade words i) → Live words count
  live_of_made room made =
      let good : (i : ℕ) → i < count → Good words i = λ i h. good_of_well_made words narrow i (made i h) in
      record { room = room; good = good; sized = trees_sized words count good (λ i h. (made i h).sized) }

  pub live_of_scan : count ≤ capacity (length words) → scanned words count 0 ≡ Ok tt → Live words count
  live_of_scan room e = live_of_made room (scan_passed words count e)

  pub live_of_checked : (root : ℕ) → checked words count root ≡ Ok tt → Admitted words count root
  live_of_checked root e =
      let p : Passing words count root = subst (Line words count root) e (line_holds words count root) in
      record {
        live = live_of_made p.room p.made;
        root_below = p.root_below;
        few_nodes = p.few_nodes;
        short_path = p.short_path;
      }

made_of_live : {words : List ℕ} {count : ℕ} → Live words count → (i : ℕ) → i < count → WellMade words i
made_of_live {words} {count} live i h =
    record {
      formed = well_formed_of_good (live.good i h);
      sized = well_sized_of_tree words count live.good i h (live.sized i h);
    }

-- and the other way, for whatever words
pub scan_of_live : {words : List ℕ} {count : ℕ} → Live words count → scanned words count 0 ≡ Ok tt
scan_of_live {words} {count} live = scan_passes words count (made_of_live live)

pub checked_of_live : {words : List ℕ} {count root : ℕ} → Admitted words count root → checked words count root ≡ Ok tt
unfolding checked
checked_of_live {words} {count} {root} a =
    rw (
      le-leb count (capacity (length words)) a.live.room,
      lt-ltb root count a.root_below,
      scan_of_live a.live,
      le-leb (nodes (tree_of count words root)) max_unfolded a.few_nodes,
      le-leb (path (tree_of count words root)) max_path a.short_path,
    )
