-- A value fits its size, and what it is for one tree to stand in another's place. Assumes nothing.
-- Throughout, `ok` says that a tree is well sized, `free` that no Top is reached from it, and `is` that s is a size.
use Rattle.std.specs.Prelude.{false, true, ◌≡◌, refl, ℕ, ◌*◌, ◌%◌, ◌^◌, ◌<◌, None, Some}
use Rattle.std.proofs.Common.{true≢false, subst, arith}
use Rattle.format.specs.Header.{header}
use Rattle.format.proofs.Header.{fields_of_header}
use Rattle.format.specs.Kinds.{row_of}
use Rattle.format.specs.declared.Bin.{Bin}
use Rattle.format.specs.declared.Sizing.{Sizing}
use Rattle.format.specs.declared.Un.{Un}
use Rattle.manual.specs.Fits.{int_2comp_fits, int_sext_fits}
use Rattle.theory.specs.Lawful.{Operands, Rebuilt}
use Rattle.theory.proofs.Lawful.{lawful}
use Rattle.theory.specs.Sizes.{size_bounds, Allowed, tree_is_size, free_is_top, free_left, free_right, const_sized}
use Rattle.theory.proofs.Sizes.{allowed, child_allowed, children_allowed, binary_sized}
use Rattle.theory.specs.TreeRun.{const_tree}
use Rattle.tree.specs.Form.{is_size, un_sizing, bin_sizing, Sized}
use Rattle.tree.specs.Meaning.{Assignment, Fitting, un_value, value}
use Rattle.tree.specs.Tree.{Tree, top, entry, const, bind, unary, binary, size, has_top}
use Rattle.theory.specs.Keeps.{Keeps}

-- A VALUE FITS ITS SIZE

un_fits : (op : Un) (s c x : ℕ) → Allowed (un_sizing op) s 0 (Some c) None → x < 2 ^ (8 * c) →
    un_value op s c x < 2 ^ (8 * s)
unfolding row_of
un_fits Un.SignExtend s c x sizes fits = int_sext_fits (8 * c) (8 * s) x (omega arith) fits
un_fits Un.Int2Comp s c x sizes fits = int_2comp_fits (8 * s) x

bin_sizes : (op : Bin) (s : ℕ) (a b : Tree) → Sized (binary op s a b) → has_top (binary op s a b) ≡ false →
    Allowed (bin_sizing op) s 0 (Some (size a)) (Some (size b))
bin_sizes op s a b ok free =
    children_allowed (bin_sizing op) s a b (free_is_top a (free_left a b free)) (free_is_top b (free_right a b free)) ok.0

module _ (ρ : Assignment) (fitting : Fitting ρ) where
  input_fits : (kind s space payload : ℕ) → kind < 2 ^ 8 → is_size s ≡ true → space < 2 ^ 16 →
      ρ (header kind s 0 0 space) payload < 2 ^ (8 * s)
  input_fits kind s space payload k is narrow =
      let fields = fields_of_header kind s 0 0 space (omega (arith, size_bounds s is)) in
      subst (λ (n : ℕ). ρ (header kind s 0 0 space) payload < 2 ^ (8 * n)) fields.size_is (fitting (header kind s 0 0 space) payload)

  pub operands : (op : Bin) (s : ℕ) (a b : Tree) → Sized (binary op s a b) → has_top (binary op s a b) ≡ false →
      value ρ a < 2 ^ (8 * size a) → value ρ b < 2 ^ (8 * size b) →
      Operands (bin_sizing op) s (size a) (size b) (value ρ a) (value ρ b)
  operands op s a b ok free fits_a fits_b = record {
    small = (size_bounds s (tree_is_size (binary op s a b) ok refl)).1;
    sizes = bin_sizes op s a b ok free;
    left_fits = fits_a;
    right_fits = fits_b;
  }

  pub value_fits : (t : Tree) → Sized t → has_top t ≡ false → value ρ t < 2 ^ (8 * size t)
  value_fits top ok free = absurd (true≢false free)
  value_fits (entry s space offset) ok free = input_fits 1 s space offset (omega arith) ok.0 ok.1
  value_fits (const s v) ok free = allowed s v None None Sizing.Constant ok
  value_fits (bind s id) ok free = input_fits 3 s 0 id (omega arith) ok (omega arith)
  value_fits (unary op s a) ok free =
      un_fits op s (size a) (value ρ a) (child_allowed (un_sizing op) s a (free_is_top a free) ok.0) (value_fits a ok.1 free)
  value_fits (binary op s a b) ok free =
      (lawful op).fits s (size a) (size b) (value ρ a) (value ρ b)
      (operands op s a b ok free (value_fits a ok.1 (free_left a b free)) (value_fits b ok.2 (free_right a b free)))

-- WHAT ACTIONS MAKE: a node at hand, a constant, a node over a new constant

pub made_constant : {ρ : Assignment} {s v : ℕ} → is_size s ≡ true → (n : ℕ) → n % 2 ^ (8 * s) ≡ v → Keeps ρ s v (const_tree s n)
made_constant {s = s} is n e = record { sized = const_sized s n is; size_is = refl; topless = refl; value_is = e }

pub rebuilt : {ρ : Assignment} {s v : ℕ} → is_size s ≡ true → (op : Bin) (n : ℕ) (u : Tree) → Sized u → has_top u ≡ false →
    Rebuilt op s (size u) (value ρ u) n v → Keeps ρ s v (binary op s u (const_tree s n))
rebuilt {s = s} is op n u ok free h = record {
  sized = binary_sized op s u (const_tree s n) is ok (const_sized s n is) free refl h.sizes;
  size_is = refl;
  topless = rw free;
  value_is = h.value_is;
}
