-- The run once more, on trees and without an arena: what it makes of a tree, wherever its nodes lie. proofs/Simulation.antt shows
-- that the run over an arena ends at this tree. Assumes nothing: these are definitions.
use Rattle.std.specs.Prelude.{Bool, true, false, ◌||◌, ℕ, zero, suc, ◌*◌, ◌%◌, ◌^◌}
use Rattle.format.specs.declared.Bin.{Bin}
use Rattle.format.specs.declared.Un.{Un}
use Rattle.rules.specs.Rules.{bin_act, un_act}
use Rattle.rules.specs.Run.{weight}
use Rattle.rules.specs.declared.Act.{Act}
use Rattle.rules.specs.declared.Near.{Near}
use Rattle.tree.specs.Tree.{Tree, top, entry, const, bind, unary, binary, is_top}

abbrev pub left_of : Tree → Tree
left_of top = top
left_of (entry s space offset) = entry s space offset
left_of (const s v) = const s v
left_of (bind s id) = bind s id
left_of (unary op s a) = a
left_of (binary op s a b) = a

abbrev pub near_tree : Near → (a b : Tree) → Tree
near_tree Near.Left a b = a
near_tree Near.Right a b = b
near_tree Near.LeftLeft a b = left_of a
near_tree Near.RightLeft a b = left_of b

abbrev pub const_tree : (s v : ℕ) → Tree
const_tree s v = const s (v % 2 ^ (8 * s))

abbrev pub acted_tree : (again : Tree → Tree) → Act → (kept swapped : Tree) → (s : ℕ) → (a b : Tree) → Tree
acted_tree again Act.Keep kept swapped s a b = kept
acted_tree again Act.Swap kept swapped s a b = swapped
acted_tree again (Act.Give w) kept swapped s a b = near_tree w a b
acted_tree again (Act.Make v) kept swapped s a b = const_tree s v
acted_tree again (Act.Redo op w v) kept swapped s a b = again (binary op s (near_tree w a b) (const_tree s v))
acted_tree again (Act.RedoUnary op w) kept swapped s a b = again (unary op s (near_tree w a b))

abbrev pub unary_tree : (Tree → Tree) → (topped : Bool) → Un → (s : ℕ) → Tree → Tree
unary_tree again true op s a = top
unary_tree again false op s a = acted_tree again (un_act op s a) (unary op s a) (unary op s a) s a a

abbrev pub binary_tree : (Tree → Tree) → (topped : Bool) → Bin → (s : ℕ) → Tree → Tree → Tree
binary_tree again true op s a b = top
binary_tree again false op s a b = acted_tree again (bin_act op s a b) (binary op s a b) (binary op s b a) s a b

-- over simplified children
abbrev pub over_one : (Tree → Tree) → Un → (s : ℕ) → Tree → Tree
over_one again op s a = unary_tree again (is_top a) op s a

abbrev pub over_two : (Tree → Tree) → Bin → (s : ℕ) → Tree → Tree → Tree
over_two again op s a b = binary_tree again (is_top a || is_top b) op s a b

abbrev pub visit_tree : (Tree → Tree) → Tree → Tree
visit_tree again top = top
visit_tree again (entry s space offset) = entry s space offset
visit_tree again (const s v) = const s v
visit_tree again (bind s id) = bind s id
visit_tree again (unary op s a) = over_one again op s (again a)
visit_tree again (binary op s a b) = over_two again op s (again a) (again b)

abbrev pub reduced_for : (steps : ℕ) → Tree → Tree
reduced_for zero t = t
reduced_for (suc steps) t = visit_tree (reduced_for steps) t

abbrev pub reduced : Tree → Tree
reduced t = reduced_for (weight t) t
