-- The operands of a well sized node are what its operator's function asks for. Assumes nothing.
use Rattle.std.specs.Prelude.{false, ◌≡◌, ℕ, ◌*◌, ◌^◌, ◌≤◌, ◌<◌, None, Some}
use Rattle.std.proofs.Common.{arith}
use Rattle.arith.specs.Operands.{Extension}
use Rattle.format.specs.Kinds.{row_of}
use Rattle.format.specs.declared.Bin.{Bin}
use Rattle.format.specs.declared.Sizing.{Sizing}
use Rattle.format.specs.declared.Un.{Un}
use Rattle.theory.proofs.Keeps.{operands, value_fits}
use Rattle.theory.specs.Lawful.{Operands, at_size}
use Rattle.theory.specs.Sizes.{Allowed, free_is_top, free_left, free_right, size_bounds, tree_is_size}
use Rattle.theory.proofs.Sizes.{child_allowed}
use Rattle.tree.specs.Form.{un_sizing, bin_sizing, Sized}
use Rattle.tree.specs.Meaning.{Assignment, Fitting, value}
use Rattle.tree.specs.Tree.{Tree, unary, binary, size, has_top}
use Rattle.values.specs.Operands.{Fitting as Asked}

-- IN NUMBERS: a node of s bytes over x of c bytes, and y of d bytes

un_extension : (op : Un) (s c x : ℕ) → s ≤ 8 → 1 ≤ c → Allowed (un_sizing op) s 0 (Some c) None → x < 2 ^ (8 * c) →
    Extension c s x
unfolding row_of
un_extension Un.SignExtend s c x most least sizes fits = record { least = least; wider = sizes; most = most; fits = fits }
un_extension Un.Int2Comp s c x most least sizes fits =
    record { least = least; wider = omega (arith, sizes.0); most = most; fits = fits }

module _ (s c d x y : ℕ) (s_least : 1 ≤ s) (c_least : 1 ≤ c) (c_most : c ≤ 8) where
  same_asked : Operands Sizing.Same s c d x y → Asked Sizing.Same s c x y
  same_asked o = record { least = s_least; most = o.small; left = at_size o.sizes.0 o.left_fits; right = at_size o.sizes.1 o.right_fits }

  shift_asked : Operands Sizing.Shift s c d x y → Asked Sizing.Shift s c x y
  shift_asked o = record { least = s_least; most = o.small; fits = at_size o.sizes.0 o.left_fits }

  flag_asked : Operands Sizing.Flag s c d x y → Asked Sizing.Flag s c x y
  flag_asked o = record { least = c_least; most = c_most; left = o.left_fits; right = at_size o.sizes.1 o.right_fits }

  bin_asked : (op : Bin) → Operands (bin_sizing op) s c d x y → Asked (bin_sizing op) s c x y
  unfolding row_of
  bin_asked Bin.Add o = same_asked o
  bin_asked Bin.Sub o = same_asked o
  bin_asked Bin.Mul o = same_asked o
  bin_asked Bin.Xor o = same_asked o
  bin_asked Bin.Or o = same_asked o
  bin_asked Bin.IntLeftShift o = shift_asked o
  bin_asked Bin.IntRightShift o = shift_asked o
  bin_asked Bin.IntSignedRightShift o = shift_asked o
  bin_asked Bin.IntCarry o = flag_asked o
  bin_asked Bin.IntSCarry o = flag_asked o
  bin_asked Bin.IntSBorrow o = flag_asked o

-- OF TREES from which no Top is reached, under an assignment that fits

tree_bounds : (t : Tree) → Sized t → has_top t ≡ false → (1 ≤ size t) × (size t ≤ 8)
tree_bounds t ok free = size_bounds (size t) (tree_is_size t ok (free_is_top t free))

module _ (ρ : Assignment) (fitting : Fitting ρ) where
  pub unary_operand : (op : Un) (s : ℕ) (a : Tree) → Sized (unary op s a) → has_top a ≡ false → Extension (size a) s (value ρ a)
  unary_operand op s a ok free =
      un_extension op s (size a) (value ρ a) (tree_bounds (unary op s a) ok free).1 (tree_bounds a ok.1 free).0
      (child_allowed (un_sizing op) s a (free_is_top a free) ok.0) (value_fits ρ fitting a ok.1 free)

  pub binary_operands : (op : Bin) (s : ℕ) (a b : Tree) → Sized (binary op s a b) → has_top (binary op s a b) ≡ false →
      Asked (bin_sizing op) s (size a) (value ρ a) (value ρ b)
  binary_operands op s a b ok free =
      let free_a = free_left a b free in
      let bounds = tree_bounds a ok.1 free_a in
      bin_asked s (size a) (size b) (value ρ a) (value ρ b) (tree_bounds (binary op s a b) ok free).0 bounds.0 bounds.1 op
      (operands ρ fitting op s a b ok free (value_fits ρ fitting a ok.1 free_a) (value_fits ρ fitting b ok.2 (free_right a b free)))
