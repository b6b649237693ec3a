-- What the rule of a node of two children decides keeps the node's size and value, and is well sized. Assumes nothing.
-- Throughout, `ok` says that a tree is well sized, and `free` that no Top is reached from it.
use Rattle.std.specs.Prelude.{Bool, true, false, ◌≡◌, refl, ℕ, ◌*◌, ◌^◌, None, Option, Some}
use Rattle.std.proofs.Common.{sym, ◌∙◌, subst, mod-eq_of_lt}
use Rattle.std.proofs.Math.Nat.{zero-mod}
use Rattle.format.specs.declared.Bin.{Bin}
use Rattle.rules.specs.Rules.{constant_of, view, on_left, on_right, on_equal, rule_of, decided, bin_act}
use Rattle.rules.specs.declared.Act.{Act}
use Rattle.rules.specs.declared.Beside.{Beside}
use Rattle.rules.specs.declared.Equals.{Equals}
use Rattle.theory.specs.Keeps.{Replaces, replaces_itself, bin_made, left_sized, left_free, given}
use Rattle.theory.proofs.Keeps.{value_fits, operands, made_constant, rebuilt}
use Rattle.theory.specs.Lawful.{by_test, Operands, BesideKeeps, EqualKeeps}
use Rattle.theory.proofs.Lawful.{lawful}
use Rattle.theory.specs.Seen.{Shows}
use Rattle.theory.proofs.Seen.{constant_shows, view_tells}
use Rattle.theory.specs.Sizes.{tree_is_size, free_left, free_right}
use Rattle.theory.proofs.Sizes.{binary_sized}
use Rattle.theory.specs.TreeRun.{left_of, const_tree}
use Rattle.tree.specs.Form.{is_size, bin_sizing, Sized}
use Rattle.tree.specs.Meaning.{Assignment, Fitting, bin_value, value}
use Rattle.tree.specs.Tree.{Tree, binary, size, has_top, same, same_eq}

module _ (ρ : Assignment) (fitting : Fitting ρ) (op : Bin) (s : ℕ) (a b : Tree)
    (ok : Sized (binary op s a b)) (free : has_top (binary op s a b) ≡ false) where
  is : is_size s ≡ true
  is = tree_is_size (binary op s a b) ok refl

  free_a : has_top a ≡ false
  free_a = free_left a b free

  free_b : has_top b ≡ false
  free_b = free_right a b free

  both : Operands (bin_sizing op) s (size a) (size b) (value ρ a) (value ρ b)
  both = operands ρ fitting op s a b ok free (value_fits ρ fitting a ok.1 free_a) (value_fits ρ fitting b ok.2 free_b)

  kept : Replaces ρ (binary op s a b) (binary op s a b)
  kept = replaces_itself ρ (binary op s a b) ok free

  swapped : (rule_of op).swaps ≡ true → Replaces ρ (binary op s a b) (binary op s b a)
  swapped does =
      let swaps = (lawful op).swaps does in
      record {
        sized = binary_sized op s b a is ok.2 ok.1 free_b free_a (swaps.sizes s (size a) (size b) both.sizes);
        size_is = refl;
        topless = rw (free_a, free_b);
        value_is = sym (swaps.values s (size a) (size b) (value ρ a) (value ρ b));
      }

  -- a decision that pays what it owes keeps the value
  on_left_lem : (o : Beside) →
      BesideKeeps o s (size a) (value ρ a) (size (left_of a)) (value ρ (left_of a)) (value ρ (binary op s a b)) →
      Replaces ρ (binary op s a b) (bin_made op s a b (on_left o))
  on_left_lem Beside.Stay owed = kept
  on_left_lem Beside.Itself owed = given ok.1 free_a owed
  on_left_lem (Beside.Make n) owed = made_constant is n owed
  on_left_lem (Beside.Redo op' n) owed = rebuilt is op' n a ok.1 free_a owed
  on_left_lem (Beside.RedoInner op' n) owed = rebuilt is op' n (left_of a) (left_sized a ok.1) (left_free a free_a) owed

  on_right_lem : (rule_of op).swaps ≡ true → (o : Beside) →
      BesideKeeps o s (size b) (value ρ b) (size (left_of b)) (value ρ (left_of b)) (value ρ (binary op s a b)) →
      Replaces ρ (binary op s a b) (bin_made op s a b (on_right o))
  on_right_lem does Beside.Stay owed = swapped does
  on_right_lem does Beside.Itself owed = given ok.2 free_b owed
  on_right_lem does (Beside.Make n) owed = made_constant is n owed
  on_right_lem does (Beside.Redo op' n) owed = rebuilt is op' n b ok.2 free_b owed
  on_right_lem does (Beside.RedoInner op' n) owed = rebuilt is op' n (left_of b) (left_sized b ok.2) (left_free b free_b) owed

  on_equal_lem : (q : Equals) → EqualKeeps q s (size a) (value ρ a) (value ρ (binary op s a b)) →
      Replaces ρ (binary op s a b) (bin_made op s a b (on_equal q))
  on_equal_lem Equals.Stay owed = kept
  on_equal_lem Equals.Zero owed = made_constant is 0 (zero-mod (2 ^ (8 * s)) ∙ sym owed)
  on_equal_lem Equals.Left owed = given ok.1 free_a owed

  -- and what the kind's rule decides pays it
  constant_on_right : (n : ℕ) → value ρ b ≡ n → Replaces ρ (binary op s a b) (bin_made op s a b (on_left ((rule_of op).beside s (view a) n)))
  constant_on_right n e =
      on_left_lem ((rule_of op).beside s (view a) n)
      (rw e
      ((lawful op).beside s (size a) (size b) (value ρ a) n (rw e at both)
      (size (left_of a)) (value ρ (left_of a)) (view a) (view_tells ρ a ok.1 free_a)))

  constant_on_left : (n : ℕ) → value ρ a ≡ n → (rule_of op).swaps ≡ true →
      Replaces ρ (binary op s a b) (bin_made op s a b (on_right ((rule_of op).beside s (view b) n)))
  constant_on_left n e does =
      let swaps = (lawful op).swaps does in
      on_right_lem does ((rule_of op).beside s (view b) n)
      (rw (swaps.values s (size a) (size b) (value ρ a) (value ρ b), e)
      ((lawful op).beside s (size b) (size a) (value ρ b) n
      (record {
        small = both.small;
        sizes = swaps.sizes s (size a) (size b) both.sizes;
        left_fits = both.right_fits;
        right_fits = rw e at both.left_fits;
      })
      (size (left_of b)) (value ρ (left_of b)) (view b) (view_tells ρ b ok.2 free_b)))

  two_constants : (m n : ℕ) → value ρ a ≡ m → value ρ b ≡ n → Replaces ρ (binary op s a b) (const_tree s (bin_value op s (size a) m n))
  two_constants m n p q =
      made_constant is (bin_value op s (size a) m n)
      (rw (← p, ← q) (mod-eq_of_lt ((lawful op).fits s (size a) (size b) (value ρ a) (value ρ b) both)))

  equal_children : a ≡ b → Replaces ρ (binary op s a b) (bin_made op s a b (on_equal (rule_of op).equal))
  equal_children e =
      on_equal_lem (rule_of op).equal
      (subst (λ (u : Tree). EqualKeeps (rule_of op).equal s (size a) (value ρ a) (bin_value op s (size a) (value ρ a) (value ρ u))) e
      ((lawful op).equal s (size a) (value ρ a)
      (subst (λ (u : Tree). Operands (bin_sizing op) s (size a) (size u) (value ρ a) (value ρ u)) (sym e) both)))

  decided_keeps : (alike : Bool) → same a b ≡ alike → (m n : Option ℕ) → Shows m (size a) (value ρ a) → Shows n (size b) (value ρ b) →
      Replaces ρ (binary op s a b) (bin_made op s a b (decided op s alike (view a) (view b) (size a) m n))
  decided_keeps alike e None None p q =
      by_test (λ (act : Act). Replaces ρ (binary op s a b) (bin_made op s a b act)) alike
      (λ t. equal_children (same_eq a b (e ∙ t))) (λ t. kept)
  decided_keeps alike e None (Some n) p q = constant_on_right n q.0
  decided_keeps alike e (Some m) None p q =
      by_test (λ (act : Act). Replaces ρ (binary op s a b) (bin_made op s a b act)) (rule_of op).swaps
      (constant_on_left m p.0) (λ t. kept)
  decided_keeps alike e (Some m) (Some n) p q = two_constants m n p.0 q.0

  pub bin_act_keeps : Replaces ρ (binary op s a b) (bin_made op s a b (bin_act op s a b))
  bin_act_keeps =
      decided_keeps (same a b) refl (constant_of a) (constant_of b) (constant_shows ρ a ok.1) (constant_shows ρ b ok.2)
