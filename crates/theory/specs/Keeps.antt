-- A value fits its size, and what it is for one tree to stand in another's place. Assumes nothing.
-- Throughout, `ok` says that a tree is well sized, `free` that no Top is reached from it, and `is` that s is a size.
-- The laws that rest on what an edit in must-fail/ changes are in proofs/Keeps.antt.
use Rattle.std.specs.Prelude.{false, ◌≡◌, refl, ℕ}
use Rattle.format.specs.declared.Bin.{Bin}
use Rattle.format.specs.declared.Un.{Un}
use Rattle.rules.specs.declared.Act.{Act}
use Rattle.theory.specs.Sizes.{free_left}
use Rattle.theory.specs.TreeRun.{left_of, acted_tree}
use Rattle.tree.specs.Form.{Sized}
use Rattle.tree.specs.Meaning.{Assignment, value}
use Rattle.tree.specs.Tree.{Tree, top, entry, const, bind, unary, binary, size, has_top}

-- A VALUE FITS ITS SIZE

-- KEEPING: u is well sized, reaches no Top, and has s bytes and the value v
pub record Keeps (ρ : Assignment) (s v : ℕ) (u : Tree) : Type 0 where
  pub sized : Sized u
  pub size_is : size u ≡ s
  pub topless : has_top u ≡ false
  pub value_is : value ρ u ≡ v

-- u may stand in t's place
abbrev pub Replaces : Assignment → (t u : Tree) → Type 0
Replaces ρ t u = Keeps ρ (size t) (value ρ t) u

pub replaces_itself : (ρ : Assignment) (t : Tree) → Sized t → has_top t ≡ false → Replaces ρ t t
replaces_itself ρ t ok free = record { sized = ok; size_is = refl; topless = free; value_is = refl }

-- the tree that an action makes of a node, before it is simplified again
abbrev pub bin_made : Bin → (s : ℕ) → (a b : Tree) → Act → Tree
bin_made op s a b act = acted_tree (λ t. t) act (binary op s a b) (binary op s b a) s a b

abbrev pub un_made : Un → (s : ℕ) → Tree → Act → Tree
un_made op s a act = acted_tree (λ t. t) act (unary op s a) (unary op s a) s a a

pub left_sized : (t : Tree) → Sized t → Sized (left_of t)
left_sized top ok = ok
left_sized (entry s space offset) ok = ok
left_sized (const s v) ok = ok
left_sized (bind s id) ok = ok
left_sized (unary op s a) ok = ok.1
left_sized (binary op s a b) ok = ok.1

pub left_free : (t : Tree) → has_top t ≡ false → has_top (left_of t) ≡ false
left_free top free = free
left_free (entry s space offset) free = free
left_free (const s v) free = free
left_free (bind s id) free = free
left_free (unary op s a) free = free
left_free (binary op s a b) free = free_left a b free

-- WHAT ACTIONS MAKE: a node at hand, a constant, a node over a new constant

pub given : {ρ : Assignment} {s v : ℕ} {u : Tree} → Sized u → has_top u ≡ false → (size u ≡ s) × (value ρ u ≡ v) → Keeps ρ s v u
given ok free h = record { sized = ok; size_is = h.0; topless = free; value_is = h.1 }
