-- Inputs without a row: node by node, and that nothing is missing exactly where every input has a row. Assumes nothing.
use Rattle.std.specs.Prelude.{List, ◌↔◌, ◌≡◌, refl, ℕ, zero, suc, ◌<◌, length, None, Option, Some}
use Rattle.std.proofs.Common.{ap₂, arith}
use Rattle.format.specs.Nodes.{header_of}
use Rattle.format.specs.declared.Node.{Node}
use Rattle.theory.specs.Inputs.{EveryInput}
use Rattle.tree.specs.Arena.{at, build, unfolded, tree_at, Below, Ordered}
use Rattle.tree.specs.Rows.{found, first_of, unless_found, missing_step, missing_from, missing}
use Rattle.tree.specs.Tree.{Tree, top, entry, const, bind, unary, binary}

-- NODE BY NODE

module _ (rows : List ℕ) where
  step_cong : (f g : ℕ → Option ℕ) (i : ℕ) (node : Node) → Below i node → ((j : ℕ) → j < i → f j ≡ g j) →
      missing_step rows f i node ≡ missing_step rows g i node
  step_cong f g i Node.Top b e = refl
  step_cong f g i (Node.Entry s space offset) b e = refl
  step_cong f g i (Node.Const s v) b e = refl
  step_cong f g i (Node.Bind s id) b e = refl
  step_cong f g i (Node.Unary op s j) b e = e j b
  step_cong f g i (Node.Binary op s j k) b e = ap₂ first_of (e j b.0) (e k b.1)

  module _ (arena : List Node) (ordered : Ordered arena) where
    -- enough steps are enough
    from_cong : (m n i : ℕ) → i < m → i < n → i < length arena → missing_from rows arena m i ≡ missing_from rows arena n i
    from_cong zero n i p q h = absurd (omega arith)
    from_cong (suc m) zero i p q h = absurd (omega arith)
    from_cong (suc m) (suc n) i p q h =
        step_cong (missing_from rows arena m) (missing_from rows arena n) i (at arena i) (ordered i h)
        (λ j below. from_cong m n j (omega arith) (omega arith) (omega arith))

    pub missing_eq : (i : ℕ) → i < length arena → missing rows arena i ≡ missing_step rows (missing rows arena) i (at arena i)
    unfolding missing
    missing_eq i h =
        step_cong (missing_from rows arena i) (missing rows arena) i (at arena i) (ordered i h)
        (λ j below. from_cong i (suc j) j below (omega arith) (omega arith))

-- EVERY INPUT

-- an input, given as the tree that it is, has a row
abbrev pub HasRow : List ℕ → Tree → Type 0
HasRow rows top = Unit {0}
HasRow rows (entry s space offset) = found rows (header_of (Node.Entry s space offset)) offset ≡ None → ⊥
HasRow rows (const s v) = Unit {0}
HasRow rows (bind s id) = found rows (header_of (Node.Bind s id)) id ≡ None → ⊥
HasRow rows (unary op s a) = Unit {0}
HasRow rows (binary op s a b) = Unit {0}

row_there : (row : Option ℕ) (i : ℕ) → (unless_found row i ≡ None) ↔ (row ≡ None → ⊥)
row_there None i = (λ e n. let z : ◌≡◌ {A = ℕ} 0 1 = cc in omega arith, λ n. absurd (n refl))
row_there (Some v) i = (λ e n. let z : ◌≡◌ {A = ℕ} 0 1 = cc in omega arith, λ n. refl)

first_none : (a b : Option ℕ) → (first_of a b ≡ None) ↔ ((a ≡ None) × (b ≡ None))
first_none None b = (λ e. (refl, e), λ p. p.1)
first_none (Some i) b = (λ e. let z : ◌≡◌ {A = ℕ} 0 1 = cc in absurd (omega arith), λ p. p.0)

module _ (rows : List ℕ) (arena : List Node) where
  step_none : (tree : ℕ → Tree) (f : ℕ → Option ℕ) → ((i : ℕ) → (f i ≡ None) ↔ EveryInput (HasRow rows) (tree i)) →
      (i : ℕ) (node : Node) → (missing_step rows f i node ≡ None) ↔ EveryInput (HasRow rows) (build tree node)
  step_none tree f below i Node.Top = (λ e. tt, λ h. refl)
  step_none tree f below i (Node.Entry s space offset) = row_there (found rows (header_of (Node.Entry s space offset)) offset) i
  step_none tree f below i (Node.Const s v) = (λ e. tt, λ h. refl)
  step_none tree f below i (Node.Bind s id) = row_there (found rows (header_of (Node.Bind s id)) id) i
  step_none tree f below i (Node.Unary op s j) = below j
  step_none tree f below i (Node.Binary op s j k) = (
    λ e. let p = (first_none (f j) (f k)).0 e in ((below j).0 p.0, (below k).0 p.1),
    λ h. (first_none (f j) (f k)).1 ((below j).1 h.0, (below k).1 h.1),
  )

  from_none : (steps i : ℕ) → (missing_from rows arena steps i ≡ None) ↔ EveryInput (HasRow rows) (unfolded arena steps i)
  from_none zero i = (λ e. tt, λ h. refl)
  from_none (suc steps) i = step_none (unfolded arena steps) (missing_from rows arena steps) (from_none steps) i (at arena i)

  -- nothing is missing exactly where every input under i has a row
  pub nothing_missing : (i : ℕ) → (missing rows arena i ≡ None) ↔ EveryInput (HasRow rows) (tree_at arena i)
  unfolding missing tree_at
  nothing_missing i = from_none (suc i) i
