-- 01's table of kinds. Assumes nothing.
use Rattle.std.specs.Prelude.{Bool, true, false, List, [], ◌∷◌, ℕ, get_or}
use Rattle.format.specs.declared.Bin.{Bin}
use Rattle.format.specs.declared.Row.{Row}
use Rattle.format.specs.declared.Shape.{Shape}
use Rattle.format.specs.declared.Sizing.{Sizing}
use Rattle.format.specs.declared.Un.{Un}

-- a kind: what it is, and the children, fields and sizes that it has
pub record Kind : Type 0 where
  pub shape : Shape
  pub row : Row

abbrev pub leaf : Shape → (space payload : Bool) → Sizing → Kind
leaf shape space payload sizing =
    record { shape = shape; row = record { arity = 0; space = space; payload = payload; sizing = sizing } }

abbrev pub one : Un → Sizing → Kind
one op sizing =
    record { shape = Shape.Unary op; row = record { arity = 1; space = false; payload = false; sizing = sizing } }

abbrev pub two : Bin → Sizing → Kind
two op sizing =
    record { shape = Shape.Binary op; row = record { arity = 2; space = false; payload = false; sizing = sizing } }

-- a line for each kind, from number 0
abbrev pub kinds : List Kind
kinds =
    leaf Shape.Top false false Sizing.Unsized
    ∷ leaf Shape.Entry true true Sizing.Input
    ∷ leaf Shape.Const false true Sizing.Constant
    ∷ leaf Shape.Bind false true Sizing.Input
    ∷ two Bin.Add Sizing.Same
    ∷ two Bin.Sub Sizing.Same
    ∷ two Bin.Mul Sizing.Same
    ∷ two Bin.Xor Sizing.Same
    ∷ two Bin.Or Sizing.Same
    ∷ two Bin.IntLeftShift Sizing.Shift
    ∷ two Bin.IntRightShift Sizing.Shift
    ∷ two Bin.IntSignedRightShift Sizing.Shift
    ∷ one Un.SignExtend Sizing.Extension
    ∷ two Bin.IntCarry Sizing.Flag
    ∷ two Bin.IntSCarry Sizing.Flag
    ∷ two Bin.IntSBorrow Sizing.Flag
    ∷ one Un.Int2Comp Sizing.Same
    ∷ []

abbrev pub kind_count : ℕ
kind_count = 17

-- the line of a number that is no kind's: Top's
abbrev pub unknown_kind : Kind
unknown_kind = leaf Shape.Top false false Sizing.Unsized

abbrev pub line_of : ℕ → Kind
line_of kind = get_or kinds kind unknown_kind

unfoldable pub shape_of : ℕ → Shape
shape_of kind = (line_of kind).shape

unfoldable pub row_of : ℕ → Row
row_of kind = (line_of kind).row

-- an operator's number
abbrev pub un_number : Un → ℕ
un_number Un.SignExtend = 12
un_number Un.Int2Comp = 16

abbrev pub bin_number : Bin → ℕ
bin_number Bin.Add = 4
bin_number Bin.Sub = 5
bin_number Bin.Mul = 6
bin_number Bin.Xor = 7
bin_number Bin.Or = 8
bin_number Bin.IntLeftShift = 9
bin_number Bin.IntRightShift = 10
bin_number Bin.IntSignedRightShift = 11
bin_number Bin.IntCarry = 13
bin_number Bin.IntSCarry = 14
bin_number Bin.IntSBorrow = 15
