-- What the table of kinds says of a shape: its number, its children and the fields that it uses. Assumes nothing.
-- The laws that rest on what an edit in must-fail/ changes are in proofs/KindRules.antt.
use Rattle.std.specs.Prelude.{◌≡◌, List, map, Bool, true, false, ℕ}
use Rattle.format.specs.Kinds.{Kind, kinds, un_number, bin_number}
use Rattle.format.specs.declared.Row.{Row}
use Rattle.format.specs.declared.Shape.{Shape}
use Rattle.format.specs.declared.Sizing.{Sizing}

-- a shape's number
abbrev pub number_of : Shape → ℕ
number_of Shape.Top = 0
number_of Shape.Entry = 1
number_of Shape.Const = 2
number_of Shape.Bind = 3
number_of (Shape.Unary op) = un_number op
number_of (Shape.Binary op) = bin_number op

-- how many children a shape has
abbrev pub arity_of : Shape → ℕ
arity_of (Shape.Unary op) = 1
arity_of (Shape.Binary op) = 2
arity_of _ = 0

abbrev pub uses_space : Shape → Bool
uses_space Shape.Entry = true
uses_space _ = false

abbrev pub uses_payload : Shape → Bool
uses_payload Shape.Entry = true
uses_payload Shape.Const = true
uses_payload Shape.Bind = true
uses_payload _ = false

abbrev pub is_top : Shape → Bool
is_top Shape.Top = true
is_top _ = false

abbrev pub is_const : Shape → Bool
is_const Shape.Const = true
is_const _ = false

abbrev pub is_leaf : Shape → Bool
is_leaf (Shape.Unary op) = false
is_leaf (Shape.Binary op) = false
is_leaf _ = true

abbrev pub is_unsized : Sizing → Bool
is_unsized Sizing.Unsized = true
is_unsized _ = false

-- a kind's number, children and uses are those of its shape, and only Top has no size
pub record Ruled (kind : ℕ) (shape : Shape) (row : Row) : Type 0 where
  pub number_is : number_of shape ≡ kind
  pub arity_is : row.arity ≡ arity_of shape
  pub space_is : row.space ≡ uses_space shape
  pub payload_is : row.payload ≡ uses_payload shape
  pub unsized_is : is_unsized row.sizing ≡ is_top shape

-- the table without the shapes
abbrev pub rows : List Row
rows = map (λ (line : Kind). line.row) kinds

-- how many kinds have no children: a known kind is a leaf's if it is one of the first
abbrev pub leaf_kinds : ℕ
leaf_kinds = 4
