-- Why the rule of each kind of two children keeps the value, in numbers: all that depends on the kind is one record, with a line
-- for each kind. Assumes nothing.
use Rattle.std.specs.Prelude.{true, false, cond, ◌≡◌, refl, ℕ, ◌-◌, ◌*◌, ◌%◌, ◌^◌, ◌≤◌, ◌<◌, eqb}
use Rattle.std.proofs.lemmas.Bool.{false≢true}
use Rattle.std.proofs.Common.{sym, ◌∙◌, mod-eq_of_lt, arith, eqb-true}
use Rattle.std.proofs.Math.Nat.{zero-mod}
use Rattle.format.specs.Kinds.{row_of}
use Rattle.format.specs.declared.Bin.{Bin}
use Rattle.format.specs.declared.Sizing.{Sizing}
use Rattle.manual.specs.Fits.{int_add_fits, int_sub_fits, int_mult_fits, int_xor_fits, int_or_fits, int_left_fits, int_right_fits, int_scarry_fits, int_sborrow_fits}
use Rattle.manual.proofs.Fits.{int_sright_fits, int_carry_fits}
use Rattle.manual.specs.Laws.{int_add_comm, int_mult_comm, int_xor_comm, int_or_comm, int_add_zero, int_sub_zero, int_mult_one, int_mult_zero, int_xor_zero, int_or_zero, int_or_ones, int_left_zero, int_right_zero, int_sub_self, int_xor_self, int_or_self, int_sborrow_self}
use Rattle.manual.proofs.Laws.{int_sright_zero}
use Rattle.manual.specs.Operations.{int_add, int_sub, int_mult, int_xor, int_or, int_left, int_right, int_sright, int_2comp, negative64}
use Rattle.manual.specs.Rewritings.{subtract_is_add, add_add, sub_sub, sub_add_by_sign, add_sub_by_sign}
use Rattle.rules.specs.Rules.{add_inner, sub_inner}
use Rattle.rules.specs.declared.Beside.{Beside}
use Rattle.rules.specs.declared.View.{View}
use Rattle.theory.specs.Seen.{Tells}
use Rattle.theory.specs.Lawful.{BesideKeeps, Lawful, Operands, Rebuilt, at_size, by_test}

-- WHAT A DECISION OWES, so that it keeps the value v of a node of s bytes. The child e that it is about has c bytes and the value
-- x, and e's left child k bytes and the value i.

-- SUMS AND DIFFERENCES

rebuilt_add : {s c x n v : ℕ} → c ≡ s → v ≡ int_add (8 * s) x (n % 2 ^ (8 * s)) → Rebuilt Bin.Add s c x n v
unfolding row_of
rebuilt_add e h = record { sizes = (e, refl); value_is = sym h }

rebuilt_sub : {s c x n v : ℕ} → c ≡ s → v ≡ int_sub (8 * s) x (n % 2 ^ (8 * s)) → Rebuilt Bin.Sub s c x n v
unfolding row_of
rebuilt_sub e h = record { sizes = (e, refl); value_is = sym h }

module _ (s c x k i n : ℕ) (small : 8 * s ≤ 64) (fits : n < 2 ^ (8 * s)) where
  add_inner_lem : (e : View) → Tells e s x k i → BesideKeeps (add_inner e n) s c x k i (int_add (8 * s) x n)
  add_inner_lem (View.Constant a) t = tt
  add_inner_lem (View.Plus a) t = rebuilt_add t.0 (rw t.2 (add_add (8 * s) small i a n t.1 fits))
  add_inner_lem (View.Minus a) t =
      by_test (λ (o : Beside). BesideKeeps o s c x k i (int_add (8 * s) x n)) (negative64 (int_sub 64 a n))
      (λ sign. rebuilt_add t.0 (rw t.2 (sub_add_by_sign (8 * s) small i a n t.1 fits true sign)))
      (λ sign. rebuilt_sub t.0 (rw t.2 (sub_add_by_sign (8 * s) small i a n t.1 fits false sign)))
  add_inner_lem View.Negation t = tt
  add_inner_lem (View.Extension d) t = tt
  add_inner_lem View.Other t = tt

  sub_inner_lem : (e : View) → Tells e s x k i → BesideKeeps (sub_inner e n) s c x k i (int_sub (8 * s) x n)
  sub_inner_lem (View.Constant a) t = tt
  sub_inner_lem (View.Plus a) t =
      by_test (λ (o : Beside). BesideKeeps o s c x k i (int_sub (8 * s) x n)) (negative64 (int_sub 64 a n))
      (λ sign. rebuilt_sub t.0 (rw t.2 (add_sub_by_sign (8 * s) small i a n t.1 fits true sign)))
      (λ sign. rebuilt_add t.0 (rw t.2 (add_sub_by_sign (8 * s) small i a n t.1 fits false sign)))
  sub_inner_lem (View.Minus a) t = rebuilt_sub t.0 (rw t.2 (sub_sub (8 * s) small i a n t.1 fits))
  sub_inner_lem View.Negation t = tt
  sub_inner_lem (View.Extension d) t = tt
  sub_inner_lem View.Other t = tt

  sub_beside : c ≡ s → (e : View) → Tells e s x k i →
      BesideKeeps (cond (negative64 n) (Beside.Redo Bin.Add (int_2comp 64 n)) (sub_inner e n)) s c x k i (int_sub (8 * s) x n)
  sub_beside same e t =
      by_test (λ (o : Beside). BesideKeeps o s c x k i (int_sub (8 * s) x n)) (negative64 n)
      (λ sign. rebuilt_add same (subtract_is_add (8 * s) small x n fits)) (λ sign. sub_inner_lem e t)

module _ (s c x k i n : ℕ) where
  -- SINGLE CONSTANTS

  -- beside its neutral element m an operation leaves e; else the rule goes on
  beside_neutral : (f : (w a b : ℕ) → ℕ) (m : ℕ) → ((w a : ℕ) → a < 2 ^ w → f w a m ≡ a) → c ≡ s → x < 2 ^ (8 * s) →
      (else : Beside) → BesideKeeps else s c x k i (f (8 * s) x n) →
      BesideKeeps (cond (eqb n m) Beside.Itself else) s c x k i (f (8 * s) x n)
  beside_neutral f m neutral same fits else kept =
      by_test (λ (o : Beside). BesideKeeps o s c x k i (f (8 * s) x n)) (eqb n m)
      (λ is. (same, sym (rw (eqb-true n m is) (neutral (8 * s) x fits)))) (λ is. kept)

  beside_zero : BesideKeeps (cond (eqb n 0) (Beside.Make 0) Beside.Stay) s c x k i (int_mult (8 * s) x n)
  beside_zero =
      by_test (λ (o : Beside). BesideKeeps o s c x k i (int_mult (8 * s) x n)) (eqb n 0)
      (λ is. rw (eqb-true n 0 is) (zero-mod (2 ^ (8 * s)) ∙ sym (int_mult_zero (8 * s) x))) (λ is. tt)

  beside_ones : x < 2 ^ (8 * s) → n < 2 ^ (8 * s) →
      BesideKeeps (cond (eqb n (2 ^ (8 * s) - 1)) (Beside.Make n) Beside.Stay) s c x k i (int_or (8 * s) x n)
  beside_ones fits_x fits_n =
      by_test (λ (o : Beside). BesideKeeps o s c x k i (int_or (8 * s) x n)) (eqb n (2 ^ (8 * s) - 1))
      (λ is. mod-eq_of_lt fits_n ∙ rw (eqb-true n (2 ^ (8 * s) - 1) is) (sym (int_or_ones (8 * s) x fits_x))) (λ is. tt)

-- OPERANDS at the node's width

same_left : {s c d x y : ℕ} → Operands Sizing.Same s c d x y → x < 2 ^ (8 * s)
same_left o = at_size o.sizes.0 o.left_fits

same_right : {s c d x y : ℕ} → Operands Sizing.Same s c d x y → y < 2 ^ (8 * s)
same_right o = at_size o.sizes.1 o.right_fits

shift_left : {s c d x y : ℕ} → Operands Sizing.Shift s c d x y → x < 2 ^ (8 * s)
shift_left o = at_size o.sizes.0 o.left_fits

bits : {s : ℕ} → s ≤ 8 → 8 * s ≤ 64
bits h = omega arith

flag_fits : {s v : ℕ} → s ≡ 1 → v < 2 → v < 2 ^ (8 * s)
flag_fits e h = rw e (omega arith)

never_swaps : {A : Type 0} → false ≡ true → A
never_swaps e = absurd (false≢true e)

-- EACH KIND

pub lawful : (op : Bin) → Lawful op
unfolding row_of
lawful Bin.Add = record {
  fits = λ s c d x y o. int_add_fits (8 * s) x y;
  swaps = λ is. record { sizes = λ s c d h. (h.1, h.0); values = λ s c d x y. int_add_comm (8 * s) x y };
  beside = λ s c d x n o k i e t.
      beside_neutral s c x k i n int_add 0 int_add_zero o.sizes.0 (same_left o) (add_inner e n)
      (add_inner_lem s c x k i n (bits o.small) (same_right o) e (rw o.sizes.0 at t));
  equal = λ s c x o. tt;
}
lawful Bin.Sub = record {
  fits = λ s c d x y o. int_sub_fits (8 * s) x y;
  swaps = never_swaps;
  beside = λ s c d x n o k i e t.
      beside_neutral s c x k i n int_sub 0 int_sub_zero o.sizes.0 (same_left o) _
      (sub_beside s c x k i n (bits o.small) (same_right o) o.sizes.0 e (rw o.sizes.0 at t));
  equal = λ s c x o. int_sub_self (8 * s) x (same_left o);
}
lawful Bin.Mul = record {
  fits = λ s c d x y o. int_mult_fits (8 * s) x y;
  swaps = λ is. record { sizes = λ s c d h. (h.1, h.0); values = λ s c d x y. int_mult_comm (8 * s) x y };
  beside = λ s c d x n o k i e t.
      beside_neutral s c x k i n int_mult 1 int_mult_one o.sizes.0 (same_left o) _ (beside_zero s c x k i n);
  equal = λ s c x o. tt;
}
lawful Bin.Xor = record {
  fits = λ s c d x y o. int_xor_fits (8 * s) x y (same_left o) (same_right o);
  swaps = λ is. record { sizes = λ s c d h. (h.1, h.0); values = λ s c d x y. int_xor_comm (8 * s) x y };
  beside = λ s c d x n o k i e t.
      beside_neutral s c x k i n int_xor 0 (λ w a h. int_xor_zero w a) o.sizes.0 (same_left o) Beside.Stay tt;
  equal = λ s c x o. int_xor_self (8 * s) x;
}
lawful Bin.Or = record {
  fits = λ s c d x y o. int_or_fits (8 * s) x y (same_left o) (same_right o);
  swaps = λ is. record { sizes = λ s c d h. (h.1, h.0); values = λ s c d x y. int_or_comm (8 * s) x y };
  beside = λ s c d x n o k i e t.
      beside_neutral s c x k i n int_or 0 (λ w a h. int_or_zero w a) o.sizes.0 (same_left o) _
      (beside_ones s c x k i n (same_left o) (same_right o));
  equal = λ s c x o. (o.sizes.0, sym (int_or_self (8 * s) x));
}
lawful Bin.IntLeftShift = record {
  fits = λ s c d x y o. int_left_fits (8 * s) x y;
  swaps = never_swaps;
  beside = λ s c d x n o k i e t.
      beside_neutral s c x k i n int_left 0 int_left_zero o.sizes.0 (shift_left o) Beside.Stay tt;
  equal = λ s c x o. tt;
}
lawful Bin.IntRightShift = record {
  fits = λ s c d x y o. int_right_fits (8 * s) x y (shift_left o);
  swaps = never_swaps;
  beside = λ s c d x n o k i e t.
      beside_neutral s c x k i n int_right 0 (λ w a h. int_right_zero w a) o.sizes.0 (shift_left o) Beside.Stay tt;
  equal = λ s c x o. tt;
}
lawful Bin.IntSignedRightShift = record {
  fits = λ s c d x y o. int_sright_fits (8 * s) x y (shift_left o);
  swaps = never_swaps;
  beside = λ s c d x n o k i e t.
      beside_neutral s c x k i n int_sright 0 int_sright_zero o.sizes.0 (shift_left o) Beside.Stay tt;
  equal = λ s c x o. tt;
}
lawful Bin.IntCarry = record {
  fits = λ s c d x y o. flag_fits o.sizes.0 (int_carry_fits (8 * c) x y);
  swaps = never_swaps;
  beside = λ s c d x n o k i e t. tt;
  equal = λ s c x o. tt;
}
lawful Bin.IntSCarry = record {
  fits = λ s c d x y o. flag_fits o.sizes.0 (int_scarry_fits (8 * c) x y);
  swaps = never_swaps;
  beside = λ s c d x n o k i e t. tt;
  equal = λ s c x o. tt;
}
lawful Bin.IntSBorrow = record {
  fits = λ s c d x y o. flag_fits o.sizes.0 (int_sborrow_fits (8 * c) x y);
  swaps = never_swaps;
  beside = λ s c d x n o k i e t. tt;
  equal = λ s c x o. int_sborrow_self (8 * c) x;
}
