-- What a rule may rely on: the children of the node that it looks at lie in the arena, no Top is reached from them, and the node over
-- them is well sized. Assumes nothing.
use Rattle.std.specs.Prelude.{false, true, List, ◌≡◌, ℕ, ◌<◌, None, MatchOption}
use Rattle.arena.specs.Live.{tree_of}
use Rattle.arith.specs.Operands.{Extension}
use Rattle.format.specs.declared.Bin.{Bin}
use Rattle.format.specs.declared.Un.{Un}
use Rattle.rules.specs.Seen.{view_constant}
use Rattle.rules.specs.declared.View.{View}
use Rattle.tree.specs.Form.{sized, un_sizing, bin_sizing, size_seen}
use Rattle.tree.specs.Tree.{has_top}

pub record UnaryOver (words : List ℕ) (count : ℕ) (op : Un) (size a : ℕ) : Type 0 where
  pub below : a < count
  pub topless : has_top (tree_of count words a) ≡ false
  pub sized_over : sized (un_sizing op) size 0 (size_seen (tree_of count words a)) None ≡ true

pub record BinaryOver (words : List ℕ) (count : ℕ) (op : Bin) (size a b : ℕ) : Type 0 where
  pub left_below : a < count
  pub right_below : b < count
  pub left_topless : has_top (tree_of count words a) ≡ false
  pub right_topless : has_top (tree_of count words b) ≡ false
  pub sized_over : sized (bin_sizing op) size 0 (size_seen (tree_of count words a)) (size_seen (tree_of count words b)) ≡ true

-- a constant that is seen is one of `child` bytes, to be one of `size`
abbrev pub ViewFits : (size child : ℕ) → View → Type 0
ViewFits size child e = MatchOption (view_constant e) (Unit {0}) (λ n. Extension child size n)
