-- What the run makes of a tree: a normal tree, no larger and with no longer path, that is Top exactly if a Top was reachable; and
-- enough steps are enough. Assumes nothing.
-- The laws that rest on what an edit in must-fail/ changes are in proofs/Reduced.antt.
use Rattle.std.specs.Prelude.{Bool, ◌≡◌, ℕ, ◌≤◌, ◌<◌}
use Rattle.std.proofs.Common.{arith}
use Rattle.rules.specs.Run.{weight}
use Rattle.theory.specs.Falls.{sub_le, Within}
use Rattle.theory.specs.Normal.{Normal}
use Rattle.theory.specs.TreeRun.{left_of}
use Rattle.tree.specs.Tree.{Tree, top, entry, const, bind, unary, binary, nodes, path, is_top, has_top}

-- a tree that the run made of one that weighed W, had paths of P nodes, and a Top reachable or not
pub record Outcome (W P : ℕ) (topped : Bool) (u : Tree) : Type 0 where
  pub normal : Normal u
  pub within : Within W P u
  pub top_is : is_top u ≡ topped

pub left_normal : (t : Tree) → Normal t → Normal (left_of t)
left_normal top h = tt
left_normal (entry s sp o) h = tt
left_normal (const s v) h = tt
left_normal (bind s d) h = tt
left_normal (unary op s a) h = h.0
left_normal (binary op s a b) h = h.0

-- what is simplified again comes out well, where it weighs less than W
abbrev pub WellBelow : (Tree → Tree) → ℕ → Type 0
WellBelow again W = (u : Tree) → weight u < W → Outcome (weight u) (path u) (has_top u) (again u)

-- the children became no larger
pub no_more_nodes : (a a' : Tree) {P : ℕ} {c : Bool} → Outcome (weight a) P c a' → nodes a' ≤ nodes a
no_more_nodes a a' g = omega (arith, sub_le a, g.within.light)
