-- The run gains no input: whatever holds of every input of a tree holds of every input of what it becomes. Assumes nothing.
use Rattle.std.specs.Prelude.{Bool, true, false, ◌||◌, ◌≡◌, refl, ℕ, zero, suc}
use Rattle.std.proofs.Common.{sym, ◌∙◌, arith}
use Rattle.format.specs.declared.Bin.{Bin}
use Rattle.format.specs.declared.Un.{Un}
use Rattle.rules.specs.Rules.{bin_act, un_act}
use Rattle.rules.specs.Run.{weight}
use Rattle.rules.specs.declared.Act.{Act}
use Rattle.rules.specs.declared.Near.{Near}
use Rattle.format.specs.Truth.{or_left, or_right, or_neither}
use Rattle.theory.specs.Normal.{IsConst, normal_inputless, normal_top}
use Rattle.theory.proofs.Reduced.{reduced_normal, reduced_top}
use Rattle.theory.specs.TreeRun.{left_of, near_tree, const_tree, acted_tree, unary_tree, binary_tree, visit_tree, reduced_for, reduced}
use Rattle.tree.specs.Tree.{Tree, top, entry, const, bind, unary, binary, is_top, has_top, has_input}
use Rattle.theory.specs.Inputs.{EveryInput}

module _ (Q : Tree → Type 0) where
  left_inputs : (t : Tree) → EveryInput Q t → EveryInput Q (left_of t)
  left_inputs top h = h
  left_inputs (entry s sp o) h = h
  left_inputs (const s v) h = h
  left_inputs (bind s d) h = h
  left_inputs (unary op s a) h = h
  left_inputs (binary op s a b) h = h.0

  near_inputs : (a b : Tree) → EveryInput Q a → EveryInput Q b → (w : Near) → EveryInput Q (near_tree w a b)
  near_inputs a b p q Near.Left = p
  near_inputs a b p q Near.Right = q
  near_inputs a b p q Near.LeftLeft = left_inputs a p
  near_inputs a b p q Near.RightLeft = left_inputs b q

  module _ (again : Tree → Tree) (g : (u : Tree) → EveryInput Q u → EveryInput Q (again u)) where
    acted_inputs : (act : Act) (kept swapped : Tree) (s : ℕ) (a b : Tree) → EveryInput Q kept → EveryInput Q swapped → EveryInput Q a → EveryInput Q b →
        EveryInput Q (acted_tree again act kept swapped s a b)
    acted_inputs Act.Keep kept swapped s a b x y p q = x
    acted_inputs Act.Swap kept swapped s a b x y p q = y
    acted_inputs (Act.Give w) kept swapped s a b x y p q = near_inputs a b p q w
    acted_inputs (Act.Make v) kept swapped s a b x y p q = tt
    acted_inputs (Act.Redo op w v) kept swapped s a b x y p q = g (binary op s (near_tree w a b) (const_tree s v)) (near_inputs a b p q w, tt)
    acted_inputs (Act.RedoUnary op w) kept swapped s a b x y p q = g (unary op s (near_tree w a b)) (near_inputs a b p q w)

    unary_inputs : (op : Un) (s : ℕ) (a : Tree) → EveryInput Q a → (c : Bool) → EveryInput Q (unary_tree again c op s a)
    unary_inputs op s a p true = tt
    unary_inputs op s a p false = acted_inputs (un_act op s a) (unary op s a) (unary op s a) s a a p p p p

    binary_inputs : (op : Bin) (s : ℕ) (a b : Tree) → EveryInput Q a → EveryInput Q b → (c : Bool) → EveryInput Q (binary_tree again c op s a b)
    binary_inputs op s a b p q true = tt
    binary_inputs op s a b p q false = acted_inputs (bin_act op s a b) (binary op s a b) (binary op s b a) s a b (p, q) (q, p) p q

    visit_inputs : (t : Tree) → EveryInput Q t → EveryInput Q (visit_tree again t)
    visit_inputs top h = h
    visit_inputs (entry s sp o) h = h
    visit_inputs (const s v) h = h
    visit_inputs (bind s d) h = h
    visit_inputs (unary op s a) h = unary_inputs op s (again a) (g a h) (is_top (again a))
    visit_inputs (binary op s a b) h = binary_inputs op s (again a) (again b) (g a h.0) (g b h.1) (is_top (again a) || is_top (again b))

  run_inputs : (n : ℕ) (t : Tree) → EveryInput Q t → EveryInput Q (reduced_for n t)
  run_inputs zero t h = h
  run_inputs (suc n) t h = visit_inputs (reduced_for n) (run_inputs n) t h

  pub reduced_inputs : (t : Tree) → EveryInput Q t → EveryInput Q (reduced t)
  reduced_inputs t h = run_inputs (weight t) t h

-- no input at all
none_of : (t : Tree) → has_input t ≡ false → EveryInput (λ u. ⊥) t
none_of top h = tt
none_of (entry s sp o) h = let z : ◌≡◌ {A = ℕ} 0 1 = cc in omega arith
none_of (const s v) h = tt
none_of (bind s d) h = let z : ◌≡◌ {A = ℕ} 0 1 = cc in omega arith
none_of (unary op s a) h = none_of a h
none_of (binary op s a b) h = (none_of a (or_left _ _ h), none_of b (or_right (has_input a) _ h))

has_none : (t : Tree) → EveryInput (λ u. ⊥) t → has_input t ≡ false
has_none top h = refl
has_none (entry s sp o) h = absurd h
has_none (const s v) h = refl
has_none (bind s d) h = absurd h
has_none (unary op s a) h = has_none a h
has_none (binary op s a b) h = or_neither _ _ (has_none a h.0) (has_none b h.1)

-- a tree without Top and inputs becomes one constant
pub reduced_constant : (t : Tree) → has_top t ≡ false → has_input t ≡ false → IsConst (reduced t)
reduced_constant t p q =
    normal_inputless (reduced t) (reduced_normal t) (sym (normal_top (reduced t) (reduced_normal t)) ∙ reduced_top t ∙ p)
    (has_none (reduced t) (reduced_inputs (λ u. ⊥) t (none_of t q)))
