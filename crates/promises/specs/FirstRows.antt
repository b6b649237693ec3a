-- What evaluation's places are: a bad row that is named is the first, and so is an input without a row. Assumes nothing.
use Rattle.std.specs.Prelude.{true, false, List, [], ◌∷◌, ◌++◌, ◌⊎◌, ◌≡◌, refl, eqb, length, None, Option, Some}
use Rattle.std.proofs.Common.{append_assoc, ⊎_elim, sym, eq-or-lt_of_le}
use Rattle.std.proofs.Math.Logic.{inl, inr}
use Rattle.std.proofs.Math.Path.{subst}
use Prim.Native.Nat.{ℕ, zero, suc, ◌+◌, ◌/◌, ◌%◌, ◌≤◌, ◌<◌}
use native.Mathlib.Omega.{arith}
use Rattle.format.specs.Nodes.{header_of}
use Rattle.format.specs.Truth.{either_knowing}
use Rattle.format.specs.declared.Node.{Node}
use Rattle.tree.specs.Arena.{at}
use Rattle.tree.specs.Rows.{row_words, good_row, bad_row_from, bad_row, found, first_of, unless_found, missing_step, missing_from, missing}

-- BAD ROWS

-- row i is the first bad one of n whole rows from j upward and what comes after them: it is not good, or the slice ends inside it
pub record FirstBad (rows : List ℕ) (n j i : ℕ) : Type 0 where
  pub from : j ≤ i
  pub before : (k : ℕ) → j ≤ k → k < i → good_row rows k ≡ true
  pub bad : ((i < j + n) × (good_row rows i ≡ false)) ⊎ ((i ≡ j + n) × (eqb (length rows % row_words) 0 ≡ false))

-- no row is bad: the whole ones are good, and there is nothing after them
pub record NoneBad (rows : List ℕ) (n j : ℕ) : Type 0 where
  pub good : (k : ℕ) → j ≤ k → k < j + n → good_row rows k ≡ true
  pub whole : eqb (length rows % row_words) 0 ≡ true

abbrev Tells : List ℕ → (n j : ℕ) → Option ℕ → Type 0
Tells rows n j None = NoneBad rows n j
Tells rows n j (Some i) = FirstBad rows n j i

module _ (rows : List ℕ) where
  one_more : (n j : ℕ) → good_row rows j ≡ true → (bad : Option ℕ) → Tells rows n (suc j) bad → Tells rows (suc n) j bad
  one_more n j good None t = record {
    good = λ k a b. ⊎_elim (λ e. subst (λ (i : ℕ). good_row rows i ≡ true) e good) (λ h. t.good k h (omega arith)) (eq-or-lt_of_le a);
    whole = t.whole;
  }
  one_more n j good (Some i) t = record {
    from = omega (arith, t.from);
    before = λ k a b. ⊎_elim (λ e. subst (λ (i : ℕ). good_row rows i ≡ true) e good) (λ h. t.before k h b) (eq-or-lt_of_le a);
    bad = ⊎_elim (λ p. inl (omega (arith, p.0), p.1)) (λ p. inr (omega (arith, p.0), p.1)) t.bad;
  }

  bad_tells : (n j : ℕ) → Tells rows n j (bad_row_from rows n j)
  unfolding bad_row_from
  bad_tells zero j =
      either_knowing (Tells rows 0 j) (eqb (length rows % row_words) 0)
      (λ e. record { good = λ k a b. absurd (omega arith); whole = e })
      (λ e. record { from = omega arith; before = λ k a b. absurd (omega arith); bad = inr (omega arith, e) })
  bad_tells (suc n) j =
      either_knowing (Tells rows (suc n) j) (good_row rows j)
      (λ good. one_more n j good (bad_row_from rows n (suc j)) (bad_tells n (suc j)))
      (λ ill. record { from = omega arith; before = λ k a b. absurd (omega arith); bad = inl (omega arith, ill) })

  -- 01, answer 8: the first bad row's number
  pub bad_row_is_first : (i : ℕ) → bad_row rows ≡ Some i → FirstBad rows (length rows / row_words) 0 i
  bad_row_is_first i e = subst (Tells rows (length rows / row_words) 0) e (bad_tells (length rows / row_words) 0)

-- MISSING INPUTS

-- a node that is an input without a row
abbrev pub WithoutRow : List ℕ → Node → Type 0
WithoutRow rows Node.Top = ⊥
WithoutRow rows (Node.Entry size space offset) = found rows (header_of (Node.Entry size space offset)) offset ≡ None
WithoutRow rows (Node.Const size value) = ⊥
WithoutRow rows (Node.Bind size id) = found rows (header_of (Node.Bind size id)) id ≡ None
WithoutRow rows (Node.Unary op size left) = ⊥
WithoutRow rows (Node.Binary op size left right) = ⊥

-- the inputs under node i, left before right, each as often as it is reached
abbrev inputs_step : (ℕ → List ℕ) → ℕ → Node → List ℕ
inputs_step inputs i Node.Top = []
inputs_step inputs i (Node.Entry size space offset) = i ∷ []
inputs_step inputs i (Node.Const size value) = []
inputs_step inputs i (Node.Bind size id) = i ∷ []
inputs_step inputs i (Node.Unary op size left) = inputs left
inputs_step inputs i (Node.Binary op size left right) = inputs left ++ inputs right

abbrev inputs_from : List Node → (steps i : ℕ) → List ℕ
inputs_from arena zero i = []
inputs_from arena (suc steps) i = inputs_step (inputs_from arena steps) i (at arena i)

abbrev pub inputs : List Node → ℕ → List ℕ
inputs arena i = inputs_from arena (suc i) i

-- no node of an order is an input without a row
abbrev pub NoneWithoutRow : List ℕ → List Node → List ℕ → Type 0
NoneWithoutRow rows arena [] = Unit {0}
NoneWithoutRow rows arena (i ∷ order) = (WithoutRow rows (at arena i) → ⊥) × NoneWithoutRow rows arena order

-- node j is the first of an order that is one
pub record FirstWithoutRow (rows : List ℕ) (arena : List Node) (order : List ℕ) (j : ℕ) : Type 0 where
  pub before : List ℕ
  pub after : List ℕ
  pub order_is : order ≡ before ++ (j ∷ after)
  pub none_before : NoneWithoutRow rows arena before
  pub without_row : WithoutRow rows (at arena j)

abbrev Names : List ℕ → List Node → List ℕ → Option ℕ → Type 0
Names rows arena order None = NoneWithoutRow rows arena order
Names rows arena order (Some j) = FirstWithoutRow rows arena order j

module _ (rows : List ℕ) (arena : List Node) where
  none_in_both : (p q : List ℕ) → NoneWithoutRow rows arena p → NoneWithoutRow rows arena q → NoneWithoutRow rows arena (p ++ q)
  none_in_both [] q a b = b
  none_in_both (i ∷ p) q a b = (a.0, none_in_both p q a.1 b)

  -- the left child's inputs, then the right one's
  both_name : (p q : List ℕ) (a b : Option ℕ) → Names rows arena p a → Names rows arena q b → Names rows arena (p ++ q) (first_of a b)
  both_name p q None None l r = none_in_both p q l r
  both_name p q None (Some j) l r = record {
    before = p ++ r.before;
    after = r.after;
    order_is = rw r.order_is (sym (append_assoc p r.before (j ∷ r.after)));
    none_before = none_in_both p r.before l r.none_before;
    without_row = r.without_row;
  }
  both_name p q (Some j) b l r = record {
    before = l.before;
    after = l.after ++ q;
    order_is = rw l.order_is (append_assoc l.before (j ∷ l.after) q);
    none_before = l.none_before;
    without_row = l.without_row;
  }

  -- a single input, by its row
  module _ (i : ℕ) (node : Node) (is : at arena i ≡ node) where
    input_names : (row : Option ℕ) → (row ≡ None → WithoutRow rows node) → (WithoutRow rows node → row ≡ None) → Names rows arena (i ∷ []) (unless_found row i)
    input_names None absent p =
        record { before = []; after = []; order_is = refl; none_before = tt; without_row = rw is (absent refl) }
    input_names (Some v) absent present = (λ w. let e = present (rw is at w) in let z : ◌≡◌ {A = ℕ} 0 1 = cc in absurd (omega arith), tt)

  module _ (list : ℕ → List ℕ) (first : ℕ → Option ℕ) (below : (i : ℕ) → Names rows arena (list i) (first i)) where
    step_names : (i : ℕ) (node : Node) → at arena i ≡ node → Names rows arena (inputs_step list i node) (missing_step rows first i node)
    step_names i Node.Top is = tt
    step_names i (Node.Entry s space offset) is =
        input_names i (Node.Entry s space offset) is (found rows (header_of (Node.Entry s space offset)) offset) (λ e. e) (λ w. w)
    step_names i (Node.Const s v) is = tt
    step_names i (Node.Bind s id) is = input_names i (Node.Bind s id) is (found rows (header_of (Node.Bind s id)) id) (λ e. e) (λ w. w)
    step_names i (Node.Unary op s left) is = below left
    step_names i (Node.Binary op s left right) is = both_name (list left) (list right) (first left) (first right) (below left) (below right)

  from_names : (steps i : ℕ) → Names rows arena (inputs_from arena steps i) (missing_from rows arena steps i)
  from_names zero i = tt
  from_names (suc steps) i = step_names (inputs_from arena steps) (missing_from rows arena steps) (from_names steps) i (at arena i) refl

  -- 01, answer 9: the index of the first input without a row, left before right
  pub missing_is_first : (i j : ℕ) → missing rows arena i ≡ Some j → FirstWithoutRow rows arena (inputs arena i) j
  unfolding missing
  missing_is_first i j e = subst (Names rows arena (inputs arena i)) e (from_names (suc i) i)
