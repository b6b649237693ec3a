-- Rows of values for inputs, and what evaluation answers. Assumes nothing: these are definitions.
use Rattle.std.specs.Prelude.{Bool, true, false, cond, ◌&&◌, List, ℕ, zero, suc, ◌+◌, ◌*◌, ◌/◌, ◌%◌, ◌^◌, eqb, ltb, length, get_or, Err, None, Ok, Option, Result, Some}
use Rattle.format.specs.Header.{size_of}
use Rattle.format.specs.Nodes.{header_of}
use Rattle.format.specs.declared.Node.{Node}
use Rattle.tree.specs.Arena.{at, nodes_of, tree_at}
use Rattle.tree.specs.Form.{Verdict, is_size, checked, refusal_number, refusal_place}
use Rattle.tree.specs.Meaning.{Assignment, value}
use Rattle.tree.specs.Tree.{has_top}
use Rattle.tree.specs.declared.EvaluateError.{EvaluateError}

-- a row is three words: the two words of an input, then its value
abbrev pub row_words : ℕ
row_words = 3

abbrev pub key_header : List ℕ → ℕ → ℕ
key_header rows j = get_or rows (row_words * j) 0

abbrev pub key_payload : List ℕ → ℕ → ℕ
key_payload rows j = get_or rows (row_words * j + 1) 0

abbrev pub row_value : List ℕ → ℕ → ℕ
row_value rows j = get_or rows (row_words * j + 2) 0

-- a whole row is good if its size is 1, 2, 4 or 8 and its value fits it
unfoldable pub good_row : List ℕ → ℕ → Bool
good_row rows j =
    let s = size_of (key_header rows j) in
    is_size s && ltb (row_value rows j) (2 ^ (8 * s))

-- the first bad row of n whole rows from j upward; after them, a row that the slice ends inside is bad too
unfoldable pub bad_row_from : List ℕ → (n j : ℕ) → Option ℕ
bad_row_from rows zero j = cond (eqb (length rows % row_words) 0) None (Some j)
bad_row_from rows (suc n) j = cond (good_row rows j) (bad_row_from rows n (suc j)) (Some j)

abbrev pub bad_row : List ℕ → Option ℕ
bad_row rows = bad_row_from rows (length rows / row_words) 0

abbrev pub keyed : List ℕ → (j word payload : ℕ) → Bool
keyed rows j word payload = eqb (key_header rows j) word && eqb (key_payload rows j) payload

-- the value in the first of n rows from j upward whose key is these two words
unfoldable pub found_from : List ℕ → (n j word payload : ℕ) → Option ℕ
found_from rows zero j word payload = None
found_from rows (suc n) j word payload =
    cond (keyed rows j word payload) (Some (row_value rows j)) (found_from rows n (suc j) word payload)

abbrev pub found : List ℕ → (word payload : ℕ) → Option ℕ
found rows word payload = found_from rows (length rows / row_words) 0 word payload

-- the assignment that rows stand for: inputs without a row read as 0, and evaluation refuses them
abbrev pub or_zero : Option ℕ → ℕ
or_zero None = 0
or_zero (Some v) = v

abbrev pub assigned : List ℕ → Assignment
assigned rows word payload = or_zero (found rows word payload)

-- the index of the first input without a row, left before right
abbrev pub first_of : Option ℕ → Option ℕ → Option ℕ
first_of (Some i) next = Some i
first_of None next = next

abbrev pub unless_found : Option ℕ → ℕ → Option ℕ
unless_found None i = Some i
unless_found (Some v) i = None

abbrev pub missing_step : List ℕ → (ℕ → Option ℕ) → ℕ → Node → Option ℕ
missing_step rows missing i Node.Top = None
missing_step rows missing i (Node.Entry size space offset) =
    unless_found (found rows (header_of (Node.Entry size space offset)) offset) i
missing_step rows missing i (Node.Const size value) = None
missing_step rows missing i (Node.Bind size id) = unless_found (found rows (header_of (Node.Bind size id)) id) i
missing_step rows missing i (Node.Unary op size left) = missing left
missing_step rows missing i (Node.Binary op size left right) = first_of (missing left) (missing right)

abbrev pub missing_from : List ℕ → List Node → (steps i : ℕ) → Option ℕ
missing_from rows arena zero i = None
missing_from rows arena (suc steps) i = missing_step rows (missing_from rows arena steps) i (at arena i)

unfoldable pub missing : List ℕ → List Node → ℕ → Option ℕ
missing rows arena i = missing_from rows arena (suc i) i

-- EVALUATION: 1 to 6 as the check, then 8, 10, 9, and else the value

abbrev pub Evaluated : Type 0
Evaluated = Result ℕ EvaluateError

abbrev pub valued : Option ℕ → ℕ → Evaluated
valued (Some i) v = Err (EvaluateError.InputMissing i)
valued None v = Ok v

abbrev pub topless : Bool → Evaluated → Evaluated
topless true next = (Err EvaluateError.TopReachable)
topless false next = next

abbrev pub rowed : Option ℕ → Evaluated → Evaluated
rowed (Some j) next = Err (EvaluateError.BadRow j)
rowed None next = next

abbrev pub passed : Verdict → Evaluated → Evaluated
passed (Ok u) next = next
passed (Err refusal) next = Err (EvaluateError.Refused refusal)

unfoldable pub evaluated : List ℕ → (count root : ℕ) → List ℕ → Evaluated
evaluated words count root rows =
    let arena = nodes_of count words in
    passed (checked words count root)
    (rowed (bad_row rows)
    (topless (has_top (tree_at arena root))
    (valued (missing rows arena root) (value (assigned rows) (tree_at arena root)))))

-- 01's number, place and value of each answer
abbrev pub evaluated_number : Evaluated → ℕ
evaluated_number (Ok v) = 0
evaluated_number (Err (EvaluateError.Refused refusal)) = refusal_number refusal
evaluated_number (Err (EvaluateError.BadRow j)) = 8
evaluated_number (Err EvaluateError.TopReachable) = 10
evaluated_number (Err (EvaluateError.InputMissing i)) = 9

abbrev pub evaluated_place : Evaluated → ℕ
evaluated_place (Ok v) = 0
evaluated_place (Err (EvaluateError.Refused refusal)) = refusal_place refusal
evaluated_place (Err (EvaluateError.BadRow j)) = j
evaluated_place (Err EvaluateError.TopReachable) = 0
evaluated_place (Err (EvaluateError.InputMissing i)) = i

abbrev pub evaluated_value : Evaluated → ℕ
evaluated_value (Ok v) = v
evaluated_value (Err error) = 0
