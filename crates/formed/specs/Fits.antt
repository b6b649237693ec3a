-- What a well-formed node's fields are, one by one. Assumes nothing.
use Rattle.std.specs.Prelude.{Bool, true, false, ◌&&◌, List, ◌≡◌, refl, ℕ, ◌+◌, ◌*◌, ◌<◌, leb, ltb, length}
use Rattle.std.proofs.Common.{arith, eqb-true, ltb-true}
use Rattle.format.specs.Header.{kind_of, left_of, right_of, space_of}
use Rattle.format.specs.Kinds.{kind_count, row_of}
use Rattle.format.specs.Limits.{node_words, header_at, payload_at}
use Rattle.format.specs.Truth.{and_left, and_right, not_both}
use Rattle.format.specs.declared.Row.{Row}
use Rattle.tree.specs.Form.{zero_unless_used, below_if_used, row_fits, well_formed}

-- the fields of a node's words are as its line of the table has them
pub record Fits (row : Row) (word payload i : ℕ) : Type 0 where
  pub left_fits : below_if_used (leb 1 row.arity) (left_of word) i ≡ true
  pub right_fits : below_if_used (leb 2 row.arity) (right_of word) i ≡ true
  pub space_fits : zero_unless_used row.space (space_of word) ≡ true
  pub payload_fits : zero_unless_used row.payload payload ≡ true

module _ (row : Row) (word payload i : ℕ) where
  fits : row_fits row word payload i ≡ true → Fits row word payload i
  fits t =
      let left = below_if_used (leb 1 row.arity) (left_of word) i in
      let right = below_if_used (leb 2 row.arity) (right_of word) i in
      let space = zero_unless_used row.space (space_of word) in
      let payload = zero_unless_used row.payload payload in
      let after_left = and_right left (right && (space && payload)) t in
      let after_right = and_right right (space && payload) after_left in
      record {
        left_fits = and_left left (right && (space && payload)) t;
        right_fits = and_left right (space && payload) after_left;
        space_fits = and_left space payload after_right;
        payload_fits = and_right space payload after_right;
      }

module _ (words : List ℕ) (i : ℕ) (formed : well_formed words i ≡ true) where
  abbrev word : ℕ
  word = header_at words i

  abbrev row : Row
  row = row_of (kind_of word)

  pub kind_known : kind_of word < kind_count
  unfolding well_formed
  kind_known =
      let known = ltb (kind_of word) kind_count in
      ltb-true (kind_of word) kind_count (and_left known (row_fits row word (payload_at words i) i) formed)

  pub row_fits_lem : Fits row word (payload_at words i) i
  unfolding well_formed
  row_fits_lem =
      let payload = payload_at words i in
      fits row word payload i (and_right (ltb (kind_of word) kind_count) (row_fits row word payload i) formed)

-- a field that is used, and one that is not
pub used_below : (used : Bool) (child i : ℕ) → below_if_used used child i ≡ true → used ≡ true → child < i
used_below true child i t u = ltb-true child i t
used_below false child i t u = absurd (not_both u refl)

pub unused_child_zero : (used : Bool) (child i : ℕ) → below_if_used used child i ≡ true → used ≡ false → child ≡ 0
unused_child_zero true child i t u = cc
unused_child_zero false child i t u = eqb-true child 0 t

pub unused_zero : (used : Bool) (x : ℕ) → zero_unless_used used x ≡ true → used ≡ false → x ≡ 0
unused_zero true x t u = cc
unused_zero false x t u = eqb-true x 0 t

-- the children that a node's row gives it lie in the slice, as it does
module _ (words : List ℕ) (row : Row) (word payload i : ℕ) (fit : row_fits row word payload i ≡ true) (inside : node_words * i + 1 < length words) where
  pub left_inside : leb 1 row.arity ≡ true → node_words * left_of word + 1 < length words
  left_inside used =
      let below = used_below _ (left_of word) i (fits row word payload i fit).left_fits used in
      omega arith

  pub right_inside : leb 2 row.arity ≡ true → node_words * right_of word + 1 < length words
  right_inside used =
      let below = used_below _ (right_of word) i (fits row word payload i fit).right_fits used in
      omega arith
