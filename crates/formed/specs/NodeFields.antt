-- What a node's header holds, and the table's line of its kind. Assumes nothing.
use Rattle.std.specs.Prelude.{◌≡◌, ℕ, ◌<◌}
use Rattle.std.proofs.Common.{ap, ◌∙◌, arith, lit<}
use Rattle.arena.specs.Live.{node_size}
use Rattle.format.specs.Header.{Fields}
use Rattle.format.proofs.Header.{fields_of_header}
use Rattle.format.specs.KindRules.{number_of, arity_of, uses_space, uses_payload}
use Rattle.format.proofs.KindRules.{row_ruled, shape_of_number, un_number_known, bin_number_known}
use Rattle.format.specs.Kinds.{kind_count, row_of, un_number, bin_number}
use Rattle.format.specs.Nodes.{header_of, Narrow}
use Rattle.format.specs.declared.Node.{Node}
use Rattle.format.specs.declared.Row.{Row}
use Rattle.format.specs.declared.Shape.{Shape}

abbrev pub node_shape : Node → Shape
node_shape Node.Top = Shape.Top
node_shape (Node.Entry size space offset) = Shape.Entry
node_shape (Node.Const size value) = Shape.Const
node_shape (Node.Bind size id) = Shape.Bind
node_shape (Node.Unary op size left) = Shape.Unary op
node_shape (Node.Binary op size left right) = Shape.Binary op

-- a field that the node does not use is zero
abbrev pub node_left : Node → ℕ
node_left Node.Top = 0
node_left (Node.Entry size space offset) = 0
node_left (Node.Const size value) = 0
node_left (Node.Bind size id) = 0
node_left (Node.Unary op size left) = left
node_left (Node.Binary op size left right) = left

abbrev pub node_right : Node → ℕ
node_right Node.Top = 0
node_right (Node.Entry size space offset) = 0
node_right (Node.Const size value) = 0
node_right (Node.Bind size id) = 0
node_right (Node.Unary op size left) = 0
node_right (Node.Binary op size left right) = right

abbrev pub node_space : Node → ℕ
node_space Node.Top = 0
node_space (Node.Entry size space offset) = space
node_space (Node.Const size value) = 0
node_space (Node.Bind size id) = 0
node_space (Node.Unary op size left) = 0
node_space (Node.Binary op size left right) = 0

pub shape_known : (shape : Shape) → number_of shape < kind_count
shape_known Shape.Top = lit< tt
shape_known Shape.Entry = lit< tt
shape_known Shape.Const = lit< tt
shape_known Shape.Bind = lit< tt
shape_known (Shape.Unary op) = un_number_known op
shape_known (Shape.Binary op) = bin_number_known op

pub fields_of_node : (node : Node) → Narrow node →
    Fields (header_of node) (number_of (node_shape node)) (node_size node) (node_left node) (node_right node) (node_space node)
fields_of_node Node.Top h = fields_of_header 0 0 0 0 0 (omega arith)
fields_of_node (Node.Entry size space offset) h = fields_of_header 1 size 0 0 space (omega arith)
fields_of_node (Node.Const size value) h = fields_of_header 2 size 0 0 0 (omega arith)
fields_of_node (Node.Bind size id) h = fields_of_header 3 size 0 0 0 (omega arith)
fields_of_node (Node.Unary op size left) h =
    fields_of_header (un_number op) size left 0 0 (omega (arith, un_number_known op))
fields_of_node (Node.Binary op size left right) h =
    fields_of_header (bin_number op) size left right 0 (omega (arith, bin_number_known op))

-- the line of a shape's number has the shape's children and uses
pub record LineOf (shape : Shape) (row : Row) : Type 0 where
  pub arity_is : row.arity ≡ arity_of shape
  pub space_is : row.space ≡ uses_space shape
  pub payload_is : row.payload ≡ uses_payload shape

pub line_of_shape : (shape : Shape) → LineOf shape (row_of (number_of shape))
line_of_shape shape =
    let ruled = row_ruled (number_of shape) (shape_known shape) in
    let same = shape_of_number shape in
    record {
      arity_is = ruled.arity_is ∙ ap arity_of same;
      space_is = ruled.space_is ∙ ap uses_space same;
      payload_is = ruled.payload_is ∙ ap uses_payload same;
    }
