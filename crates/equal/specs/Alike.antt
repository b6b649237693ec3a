-- What the words of two nodes say of whether their trees are equal. Assumes nothing: these are definitions.
use Rattle.std.specs.Prelude.{Bool, ◌&&◌, List, ℕ, eqb}
use Rattle.format.specs.Header.{header, kind_of, size_of, space_of}
use Rattle.format.specs.Limits.{header_at, payload_at}

-- a header without its children: kind, size and space
abbrev pub label_of : ℕ → ℕ
label_of word = header (kind_of word) (size_of word) 0 0 (space_of word)

-- whether nodes i and j agree in all but their children
abbrev pub alike_at : List ℕ → (i j : ℕ) → Bool
alike_at words i j =
    eqb (label_of (header_at words i)) (label_of (header_at words j)) && eqb (payload_at words i) (payload_at words j)
