-- A row by itself: a chunk of the rows, of which the last may be short. Assumes nothing.
use Rattle.std.specs.Prelude.{Bool, cond, ◌&&◌, List, ℕ, eqb, length, None, Option, Some}
use Rattle.tree.specs.Rows.{row_words, row_value, good_row, keyed}

abbrev pub good_chunk : List ℕ → Bool
good_chunk row = eqb (length row) row_words && good_row row 0

abbrev pub value_in : List ℕ → (word payload : ℕ) → Option ℕ
value_in row word payload = cond (eqb (length row) row_words && keyed row 0 word payload) (Some (row_value row 0)) None
