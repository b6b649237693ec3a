-- What a rule's view of a tree tells of the tree's size and value, in numbers. Assumes nothing.
use Rattle.std.specs.Prelude.{false, ◌≡◌, refl, ℕ, None, Option, Some}
use Rattle.format.specs.Kinds.{row_of}
use Rattle.format.specs.declared.Bin.{Bin}
use Rattle.format.specs.declared.Sizing.{Sizing}
use Rattle.format.specs.declared.Un.{Un}
use Rattle.rules.specs.Rules.{constant_of, bin_view, un_view, view}
use Rattle.theory.specs.Sizes.{Allowed, free_is_top, free_left, free_right}
use Rattle.theory.proofs.Sizes.{allowed, child_allowed, children_allowed}
use Rattle.theory.specs.TreeRun.{left_of}
use Rattle.tree.specs.Form.{un_sizing, bin_sizing, Sized}
use Rattle.tree.specs.Meaning.{Assignment, un_value, bin_value, value}
use Rattle.tree.specs.Tree.{Tree, top, entry, const, bind, unary, binary, size, has_top}
use Rattle.theory.specs.Seen.{Shows, Tells}

pub constant_shows : (ρ : Assignment) (t : Tree) → Sized t → Shows (constant_of t) (size t) (value ρ t)
constant_shows ρ top ok = tt
constant_shows ρ (entry s space offset) ok = tt
constant_shows ρ (const s v) ok = (refl, allowed s v None None Sizing.Constant ok)
constant_shows ρ (bind s id) ok = tt
constant_shows ρ (unary op s a) ok = tt
constant_shows ρ (binary op s a b) ok = tt

un_tells : (op : Un) (s c x : ℕ) → Allowed (un_sizing op) s 0 (Some c) None →
    Tells (un_view op s) s (un_value op s c x) c x
unfolding row_of
un_tells Un.SignExtend s c x sizes = (refl, sizes, refl)
un_tells Un.Int2Comp s c x sizes = (sizes.0, refl)

bin_tells : (op : Bin) (s c d x y : ℕ) → Allowed (bin_sizing op) s 0 (Some c) (Some d) →
    (right : Option ℕ) → Shows right d y → Tells (bin_view op right) s (bin_value op s c x y) c x
unfolding row_of
bin_tells Bin.Add s c d x y sizes None n = tt
bin_tells Bin.Add s c d x y sizes (Some a) n = (sizes.0, rw sizes.1 at n.1, rw n.0)
bin_tells Bin.Sub s c d x y sizes None n = tt
bin_tells Bin.Sub s c d x y sizes (Some a) n = (sizes.0, rw sizes.1 at n.1, rw n.0)
bin_tells Bin.Mul s c d x y sizes right n = tt
bin_tells Bin.Xor s c d x y sizes right n = tt
bin_tells Bin.Or s c d x y sizes right n = tt
bin_tells Bin.IntLeftShift s c d x y sizes right n = tt
bin_tells Bin.IntRightShift s c d x y sizes right n = tt
bin_tells Bin.IntSignedRightShift s c d x y sizes right n = tt
bin_tells Bin.IntCarry s c d x y sizes right n = tt
bin_tells Bin.IntSCarry s c d x y sizes right n = tt
bin_tells Bin.IntSBorrow s c d x y sizes right n = tt

pub view_tells : (ρ : Assignment) (t : Tree) → Sized t → has_top t ≡ false →
    Tells (view t) (size t) (value ρ t) (size (left_of t)) (value ρ (left_of t))
view_tells ρ top ok free = tt
view_tells ρ (entry s space offset) ok free = tt
view_tells ρ (const s v) ok free = refl
view_tells ρ (bind s id) ok free = tt
view_tells ρ (unary op s a) ok free =
    un_tells op s (size a) (value ρ a) (child_allowed (un_sizing op) s a (free_is_top a free) ok.0)
view_tells ρ (binary op s a b) ok free =
    bin_tells op s (size a) (size b) (value ρ a) (value ρ b)
    (children_allowed (bin_sizing op) s a b (free_is_top a (free_left a b free)) (free_is_top b (free_right a b free)) ok.0)
    (constant_of b) (constant_shows ρ b ok.2)
