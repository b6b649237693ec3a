-- The node that two words stand for, and the two words of a node. Assumes nothing.
use Rattle.std.specs.Prelude.{Bool, true, false, Option, Some, None, ℕ, ◌<◌, ◌^◌}
use Rattle.format.specs.Header.{header, kind_of, size_of, left_of, right_of, space_of}
use Rattle.format.specs.Kinds.{shape_of, un_number, bin_number}
use Rattle.format.specs.declared.Node.{Node}
use Rattle.format.specs.declared.Shape.{Shape}

-- the node of a shape with the fields of its words
abbrev pub shaped : Shape → (word payload : ℕ) → Node
shaped Shape.Top word payload = Node.Top
shaped Shape.Entry word payload = Node.Entry (size_of word) (space_of word) payload
shaped Shape.Const word payload = Node.Const (size_of word) payload
shaped Shape.Bind word payload = Node.Bind (size_of word) payload
shaped (Shape.Unary op) word payload = Node.Unary op (size_of word) (left_of word)
shaped (Shape.Binary op) word payload = Node.Binary op (size_of word) (left_of word) (right_of word)

unfoldable pub node_of : (word payload : ℕ) → Node
node_of word payload = shaped (shape_of (kind_of word)) word payload

abbrev pub header_of : Node → ℕ
header_of Node.Top = header 0 0 0 0 0
header_of (Node.Entry size space offset) = header 1 size 0 0 space
header_of (Node.Const size value) = header 2 size 0 0 0
header_of (Node.Bind size id) = header 3 size 0 0 0
header_of (Node.Unary op size left) = header (un_number op) size left 0 0
header_of (Node.Binary op size left right) = header (bin_number op) size left right 0

abbrev pub payload_of : Node → ℕ
payload_of (Node.Entry size space offset) = offset
payload_of (Node.Const size value) = value
payload_of (Node.Bind size id) = id
payload_of _ = 0

-- a node's fields fit the header
abbrev pub Narrow : Node → Type 0
Narrow Node.Top = Unit {0}
Narrow (Node.Entry size space offset) = (size < 2 ^ 8) × (space < 2 ^ 16)
Narrow (Node.Const size value) = size < 2 ^ 8
Narrow (Node.Bind size id) = size < 2 ^ 8
Narrow (Node.Unary op size left) = (size < 2 ^ 8) × (left < 2 ^ 16)
Narrow (Node.Binary op size left right) = (size < 2 ^ 8) × (left < 2 ^ 16) × (right < 2 ^ 16)

-- what a node says by itself
abbrev pub node_size : Node → ℕ
node_size Node.Top = 0
node_size (Node.Entry size space offset) = size
node_size (Node.Const size value) = size
node_size (Node.Bind size id) = size
node_size (Node.Unary op size left) = size
node_size (Node.Binary op size left right) = size

abbrev pub node_is_top : Node → Bool
node_is_top Node.Top = true
node_is_top _ = false

abbrev pub node_is_const : Node → Bool
node_is_const (Node.Const size value) = true
node_is_const _ = false

abbrev pub node_is_leaf : Node → Bool
node_is_leaf (Node.Unary op size left) = false
node_is_leaf (Node.Binary op size left right) = false
node_is_leaf _ = true

-- the one child, or the first of two
abbrev pub node_left_child : Node → Option ℕ
node_left_child (Node.Unary op size left) = Some left
node_left_child (Node.Binary op size left right) = Some left
node_left_child _ = None
