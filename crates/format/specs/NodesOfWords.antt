-- A node's words give the node back, and words that leave unused fields zero are given back by their node.
-- Assumes nothing.
-- The laws that rest on what an edit in must-fail/ changes are in proofs/NodesOfWords.antt.
use Rattle.std.specs.Prelude.{◌≡◌, false, ℕ, ◌/◌, ◌^◌, ◌<◌}
use Rattle.std.proofs.Common.{mod-lt, pow_pos}
use Rattle.format.specs.Header.{field, kind_of, size_of, left_of, right_of, space_of}
use Rattle.format.specs.Kinds.{shape_of, row_of, kind_count}
use Rattle.format.specs.declared.Shape.{Shape}

-- a field is as narrow as its bits
pub field_narrow : (word at bits : ℕ) → field word at bits < 2 ^ bits
field_narrow word at bits = mod-lt (word / 2 ^ at) (pow_pos bits)

-- a word of a known kind whose unused fields, with the payload, are zero
pub record Unused (word payload : ℕ) : Type 0 where
  pub word64 : word < 2 ^ 64
  pub known : kind_of word < kind_count
  pub left_zero : (row_of (kind_of word)).arity < 1 → left_of word ≡ 0
  pub right_zero : (row_of (kind_of word)).arity < 2 → right_of word ≡ 0
  pub space_zero : (row_of (kind_of word)).space ≡ false → space_of word ≡ 0
  pub payload_zero : (row_of (kind_of word)).payload ≡ false → payload ≡ 0
  pub top_size_zero : shape_of (kind_of word) ≡ Shape.Top → size_of word ≡ 0
