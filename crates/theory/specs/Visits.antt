-- One visit of the run over an arena, put together from the runs of its children: what it equals, what it appends, and what falls. The
-- code is proved against these. Assumes nothing.
-- The laws that rest on what an edit in must-fail/ changes are in proofs/Visits.antt.
use Rattle.std.specs.Prelude.{Bool, true, false, List, ◌≡◌, refl, ℕ, ◌<◌, length}
use native.Mathlib.Omega.{arith}
use Rattle.format.specs.declared.Bin.{Bin}
use Rattle.format.specs.declared.Node.{Node}
use Rattle.format.specs.declared.Un.{Un}
use Rattle.rules.specs.Run.{Out, out, acted, weight}
use Rattle.rules.specs.declared.Act.{Act}
use Rattle.theory.specs.Falls.{sub_le}
use Rattle.theory.specs.Normal.{Normal}
use Rattle.tree.specs.Arena.{at, tree_at, Ordered}
use Rattle.tree.specs.ArenaLaws.{tree_eq}
use Rattle.tree.specs.Tree.{Tree, top, entry, const, bind, unary, binary}

-- WHETHER AN ACTION IS SIMPLIFIED AGAIN, and what is left where it is not

abbrev pub redoes : Act → Bool
redoes Act.Keep = false
redoes Act.Swap = false
redoes (Act.Give w) = false
redoes (Act.Make v) = false
redoes (Act.Redo op w v) = true
redoes (Act.RedoUnary op w) = true

-- an action carried out, short of simplifying again
abbrev pub carried : Act → (kept swapped : Out) → (s : ℕ) → List Node → (a b : ℕ) → Out
carried act kept swapped s arena a b = acted out act kept swapped s arena a b

pub redone : (f : List Node → ℕ → Out) (act : Act) (kept swapped : Out) (s : ℕ) (arena : List Node) (a b : ℕ) → redoes act ≡ true →
    acted f act kept swapped s arena a b ≡ f (carried act kept swapped s arena a b).arena (carried act kept swapped s arena a b).index
redone f Act.Keep kept swapped s arena a b e = let z : ◌≡◌ {A = ℕ} 0 1 = cc in absurd (omega arith)
redone f Act.Swap kept swapped s arena a b e = let z : ◌≡◌ {A = ℕ} 0 1 = cc in absurd (omega arith)
redone f (Act.Give w) kept swapped s arena a b e = let z : ◌≡◌ {A = ℕ} 0 1 = cc in absurd (omega arith)
redone f (Act.Make v) kept swapped s arena a b e = let z : ◌≡◌ {A = ℕ} 0 1 = cc in absurd (omega arith)
redone f (Act.Redo op w v) kept swapped s arena a b e = refl
redone f (Act.RedoUnary op w) kept swapped s arena a b e = refl

pub not_redone : (f : List Node → ℕ → Out) (act : Act) (kept swapped : Out) (s : ℕ) (arena : List Node) (a b : ℕ) → redoes act ≡ false →
    acted f act kept swapped s arena a b ≡ carried act kept swapped s arena a b
not_redone f Act.Keep kept swapped s arena a b e = refl
not_redone f Act.Swap kept swapped s arena a b e = refl
not_redone f (Act.Give w) kept swapped s arena a b e = refl
not_redone f (Act.Make v) kept swapped s arena a b e = refl
not_redone f (Act.Redo op w v) kept swapped s arena a b e = let z : ◌≡◌ {A = ℕ} 0 1 = cc in absurd (omega arith)
not_redone f (Act.RedoUnary op w) kept swapped s arena a b e = let z : ◌≡◌ {A = ℕ} 0 1 = cc in absurd (omega arith)

-- a node whose children are simplified already
abbrev pub OverNormal : Tree → Type 0
OverNormal top = Unit {0}
OverNormal (entry s space offset) = Unit {0}
OverNormal (const s v) = Unit {0}
OverNormal (bind s id) = Unit {0}
OverNormal (unary op s a) = Normal a
OverNormal (binary op s a b) = Normal a × Normal b

module _ (arena : List Node) (w : Ordered arena) (i : ℕ) (b : i < length arena) where
  -- A NODE OF ONE CHILD j
  module _ (op : Un) (s j : ℕ) (e : at arena i ≡ Node.Unary op s j) where
    pub one_falls : weight (tree_at arena j) < weight (tree_at arena i)
    one_falls = rw (tree_eq arena w i b, e) (omega (arith, sub_le (tree_at arena j)))

  -- A NODE OF TWO CHILDREN j AND k
  module _ (op : Bin) (s j k : ℕ) (e : at arena i ≡ Node.Binary op s j k) where
    pub left_falls : weight (tree_at arena j) < weight (tree_at arena i)
    left_falls = rw (tree_eq arena w i b, e) (omega (arith, sub_le (tree_at arena j)))
