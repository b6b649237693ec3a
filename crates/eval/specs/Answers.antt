-- What the functions of evaluation answer, past the check. Assumes nothing: these are definitions.
use Rattle.std.specs.Prelude.{List, ℕ, Err, None, Ok, Option, Result, Some}
use Rattle.arena.specs.Live.{tree_of}
use Rattle.format.specs.Limits.{header_at, payload_at}
use Rattle.tree.specs.Arena.{nodes_of}
use Rattle.tree.specs.Meaning.{value}
use Rattle.tree.specs.Rows.{bad_row, found, assigned, missing, valued, topless, rowed, Evaluated}
use Rattle.tree.specs.Tree.{has_top}

-- the value in the first row that has the two words of node i
abbrev pub input_value : (words rows : List ℕ) → ℕ → Option ℕ
input_value words rows i = found rows (header_at words i) (payload_at words i)

-- the first input that is missing, or else the value
abbrev pub answered : Option ℕ → ℕ → Result ℕ ℕ
answered None v = Ok v
answered (Some i) v = Err i

unfoldable pub answer_at : List ℕ → (count : ℕ) → List ℕ → ℕ → Result ℕ ℕ
answer_at words count rows i = answered (missing rows (nodes_of count words) i) (value (assigned rows) (tree_of count words i))

-- what evaluation answers past the check
unfoldable pub evaluated_live : List ℕ → (count root : ℕ) → List ℕ → Evaluated
evaluated_live words count root rows =
    rowed (bad_row rows)
    (topless (has_top (tree_of count words root))
    (valued (missing rows (nodes_of count words) root) (value (assigned rows) (tree_of count words root))))
