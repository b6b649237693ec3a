-- Trees: what an expression is once its sharing is undone. Assumes nothing.
use Rattle.std.specs.Prelude.{Bool, true, false, ◌||◌, ◌≡◌, refl, ℕ, suc, ◌+◌, max}
use mathlib.Core.HLevel.{Discrete}
use Rattle.std.proofs.Common.{ap, arith}
use Rattle.std.proofs.Math.Decide.{ℕ_discrete}
use Rattle.format.proofs.KindRules.{same_bin_number, same_un_number}
use Rattle.format.specs.Kinds.{bin_number, un_number}
use Rattle.format.specs.declared.Bin.{Bin}
use Rattle.format.specs.declared.Un.{Un}

-- sizes are in bytes; an Entry has its space and offset, a Bind its id
pub data Tree : Type 0 where
  top : Tree
  entry : (size space offset : ℕ) → Tree
  const : (size value : ℕ) → Tree
  bind : (size id : ℕ) → Tree
  unary : Un → (size : ℕ) → Tree → Tree
  binary : Bin → (size : ℕ) → Tree → Tree → Tree
  deriving Discrete as tree_discrete

abbrev pub size : Tree → ℕ
size top = 0
size (entry s space offset) = s
size (const s v) = s
size (bind s id) = s
size (unary op s a) = s
size (binary op s a b) = s

-- how many nodes it has: a shared node counts once for every way it is reached
abbrev pub nodes : Tree → ℕ
nodes top = 1
nodes (entry s space offset) = 1
nodes (const s v) = 1
nodes (bind s id) = 1
nodes (unary op s a) = suc (nodes a)
nodes (binary op s a b) = suc (nodes a + nodes b)

-- how many nodes its longest path has
abbrev pub path : Tree → ℕ
path top = 1
path (entry s space offset) = 1
path (const s v) = 1
path (bind s id) = 1
path (unary op s a) = suc (path a)
path (binary op s a b) = suc (max (path a) (path b))

abbrev pub is_top : Tree → Bool
is_top top = true
is_top (entry s space offset) = false
is_top (const s v) = false
is_top (bind s id) = false
is_top (unary op s a) = false
is_top (binary op s a b) = false

-- whether a Top is reachable
abbrev pub has_top : Tree → Bool
has_top top = true
has_top (entry s space offset) = false
has_top (const s v) = false
has_top (bind s id) = false
has_top (unary op s a) = has_top a
has_top (binary op s a b) = has_top a || has_top b

-- whether an input, an Entry or a Bind, is reachable
abbrev pub has_input : Tree → Bool
has_input top = false
has_input (entry s space offset) = true
has_input (const s v) = false
has_input (bind s id) = true
has_input (unary op s a) = has_input a
has_input (binary op s a b) = has_input a || has_input b

-- operators are told apart by their numbers
unfoldable pub un_discrete : Discrete Un
un_discrete op op' = go (ℕ_discrete (un_number op) (un_number op'))
  where
    go : Dec (un_number op ≡ un_number op') → Dec (op ≡ op')
    go (yes e) = yes (same_un_number op op' e)
    go (no e) = no (λ p. e (ap un_number p))

unfoldable pub bin_discrete : Discrete Bin
bin_discrete op op' = go (ℕ_discrete (bin_number op) (bin_number op'))
  where
    go : Dec (bin_number op ≡ bin_number op') → Dec (op ≡ op')
    go (yes e) = yes (same_bin_number op op' e)
    go (no e) = no (λ p. e (ap bin_number p))

abbrev pub does : {A : Type 0} → Dec A → Bool
does (yes p) = true
does (no p) = false

-- whether two trees are equal: words and all, apart from where they lie
unfoldable pub same : Tree → Tree → Bool
same a b = does (tree_discrete ℕ_discrete un_discrete bin_discrete a b)

pub same_yes : (a b : Tree) → a ≡ b → same a b ≡ true
unfolding same
same_yes a b e = go (tree_discrete ℕ_discrete un_discrete bin_discrete a b)
  where
    go : (d : Dec (a ≡ b)) → does d ≡ true
    go (yes p) = refl
    go (no p) = absurd (p e)

pub same_no : (a b : Tree) → (a ≡ b → ⊥) → same a b ≡ false
unfolding same
same_no a b e = go (tree_discrete ℕ_discrete un_discrete bin_discrete a b)
  where
    go : (d : Dec (a ≡ b)) → does d ≡ false
    go (yes p) = absurd (e p)
    go (no p) = refl

pub same_eq : (a b : Tree) → same a b ≡ true → a ≡ b
unfolding same
same_eq a b e = go (tree_discrete ℕ_discrete un_discrete bin_discrete a b) e
  where
    go : (d : Dec (a ≡ b)) → does d ≡ true → a ≡ b
    go (yes p) q = p
    go (no p) q = let z : ◌≡◌ {A = ℕ} 0 1 = cc in absurd (omega arith)
