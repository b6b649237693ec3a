-- A node's first word, and its fields. Assumes nothing.
use Rattle.std.specs.Prelude.{◌≡◌, ℕ, ◌^◌, ◌<◌}
use Rattle.std.proofs.Common.{arith, shr-shr}
use Rattle.format.specs.Header.{Fields, InFields, header, kind_of, left_of, right_of, size_of, space_of}

-- a packed header has the fields that were put in
pub fields_of_header : (kind size left right space : ℕ) → InFields kind size left right space →
    Fields (header kind size left right space) kind size left right space
fields_of_header kind size left right space h = omega arith

-- a word is the header of its fields
pub header_of_fields : (word : ℕ) → word < 2 ^ 64 →
    header (kind_of word) (size_of word) (left_of word) (right_of word) (space_of word) ≡ word
header_of_fields word h = rw (← shr-shr word 48 8, ← shr-shr word 32 16, ← shr-shr word 16 16) (omega arith)
