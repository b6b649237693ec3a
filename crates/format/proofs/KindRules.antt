-- What the table of kinds says of a shape: its number, its children and the fields that it uses. Assumes nothing.
use Rattle.std.specs.Prelude.{◌≡◌, refl, Bool, true, false, ◌&&◌, ℕ, ◌<◌, ◌≤◌, eqb, ltb, length, get_or}
use Rattle.std.proofs.Common.{ap, ◌∙◌, sym, arith, lit<, eqb-true, ne_eqb}
use Rattle.std.specs.Bool.{beq}
use Rattle.std.proofs.Math.Decide.{dec_lt}
use Rattle.std.proofs.Math.ListN.{get_or-eq_default, get_or-map}
use Rattle.format.specs.Kinds.{Kind, kinds, kind_count, unknown_kind, line_of, shape_of, row_of, un_number, bin_number}
use Rattle.format.specs.Table.{at_line}
use Rattle.format.specs.declared.Bin.{Bin}
use Rattle.format.specs.declared.Shape.{Shape}
use Rattle.format.specs.declared.Un.{Un}
use Rattle.format.specs.KindRules.{Ruled, arity_of, is_const, is_leaf, is_top, is_unsized, leaf_kinds, number_of, rows, uses_payload, uses_space}

-- the same, as a test of a line
abbrev ruled : ℕ → Kind → Bool
ruled kind line =
    let record { shape = shape; row = row } = line in
    eqb (number_of shape) kind
    && (eqb row.arity (arity_of shape)
    && (beq row.space (uses_space shape)
    && (beq row.payload (uses_payload shape)
    && beq (is_unsized row.sizing) (is_top shape))))

same : (a b : Bool) → beq a b ≡ true → a ≡ b
same true true e = refl
same true false e = sym e
same false true e = e
same false false e = refl

by_test : (kind : ℕ) (line : Kind) → ruled kind line ≡ true → Ruled kind line.shape line.row
by_test kind line t = record {
  number_is = grind (arith, eqb-true);
  arity_is = grind (arith, eqb-true);
  space_is = grind (arith, same);
  payload_is = grind (arith, same);
  unsized_is = grind (arith, same);
}

pub kinds_counted : length kinds ≡ kind_count
kinds_counted = refl

pub row_at : (kind : ℕ) → get_or rows kind unknown_kind.row ≡ row_of kind
unfolding row_of
row_at kind = get_or-map (λ (line : Kind). line.row) kinds kind unknown_kind

-- every line of the table is ruled
pub row_ruled : (kind : ℕ) → kind < kind_count → Ruled kind (shape_of kind) (row_of kind)
unfolding shape_of row_of
row_ruled kind h = by_test kind (line_of kind) (at_line ruled unknown_kind kinds refl kind h)

-- past the table
pub shape_of_unknown : (kind : ℕ) → kind_count ≤ kind → shape_of kind ≡ Shape.Top
unfolding shape_of
shape_of_unknown kind h = ap (λ (line : Kind). line.shape) (get_or-eq_default kinds unknown_kind h)

pub leaf_by_kind : (kind : ℕ) → kind < kind_count → is_leaf (shape_of kind) ≡ ltb kind leaf_kinds
unfolding shape_of
leaf_by_kind kind h =
    same _ _ (at_line (λ (k : ℕ) (line : Kind). beq (is_leaf line.shape) (ltb k leaf_kinds)) unknown_kind kinds refl kind h)

-- a kind is Const's if it has its number, and an unknown one is not
pub const_by_kind : (kind : ℕ) → is_const (shape_of kind) ≡ eqb kind (number_of Shape.Const)
unfolding shape_of
const_by_kind kind = go (dec_lt kind kind_count)
  where
    go : Dec (kind < kind_count) → is_const (shape_of kind) ≡ eqb kind (number_of Shape.Const)
    go (yes h) =
        same _ _ (at_line (λ (k : ℕ) (line : Kind). beq (is_const line.shape) (eqb k (number_of Shape.Const))) unknown_kind kinds refl kind h)
    go (no h) = ap is_const (shape_of_unknown kind (omega arith)) ∙ sym (ne_eqb kind (number_of Shape.Const) (omega arith))

-- the line of a shape's number is the shape's
pub shape_of_number : (shape : Shape) → shape_of (number_of shape) ≡ shape
unfolding shape_of
shape_of_number Shape.Top = refl
shape_of_number (Shape.Unary Un.SignExtend) = refl
shape_of_number (Shape.Binary Bin.Add) = refl
shape_of_number _ = refl

-- so a kind of a shape's number has that shape
pub shape_by_number : (shape : Shape) {kind : ℕ} → kind ≡ number_of shape → shape_of kind ≡ shape
shape_by_number shape e = ap shape_of e ∙ shape_of_number shape

-- and a shape is known by its number, and an operator too
pub same_number : (shape shape' : Shape) → number_of shape ≡ number_of shape' → shape ≡ shape'
same_number shape shape' e = sym (shape_of_number shape) ∙ shape_by_number shape' e

pub same_un_number : (op op' : Un) → un_number op ≡ un_number op' → op ≡ op'
same_un_number op op' e = cc (same_number (Shape.Unary op) (Shape.Unary op') e)

pub same_bin_number : (op op' : Bin) → bin_number op ≡ bin_number op' → op ≡ op'
same_bin_number op op' e = cc (same_number (Shape.Binary op) (Shape.Binary op') e)

pub un_number_known : (op : Un) → un_number op < kind_count
un_number_known Un.SignExtend = lit< tt
un_number_known _ = lit< tt

pub bin_number_known : (op : Bin) → bin_number op < kind_count
bin_number_known Bin.Add = lit< tt
bin_number_known _ = lit< tt
