-- What the rule of a node of one child decides keeps the node's size and value, and is well sized. Assumes nothing.
-- Throughout, `ok` says that a tree is well sized, and `free` that no Top is reached from it.
use Rattle.std.specs.Prelude.{true, false, ◌≡◌, refl, ℕ, ◌*◌, ◌^◌, ◌≤◌, ◌<◌, eqb, leb}
use Rattle.std.proofs.Common.{sym, mod-eq_of_lt, arith, eqb-true}
use Rattle.format.specs.Kinds.{row_of}
use Rattle.format.specs.declared.Un.{Un}
use Rattle.manual.specs.Fits.{int_2comp_fits, int_sext_fits}
use Rattle.manual.specs.Laws.{int_2comp_twice, int_sext_same, int_sext_twice}
use Rattle.manual.specs.Operations.{int_2comp, int_sext}
use Rattle.rules.specs.Rules.{view, neg_act, sext_inner, un_act}
use Rattle.rules.specs.declared.Act.{Act}
use Rattle.rules.specs.declared.View.{View}
use Rattle.theory.specs.Keeps.{Replaces, replaces_itself, un_made, left_sized, left_free, given}
use Rattle.theory.proofs.Keeps.{value_fits, made_constant}
use Rattle.theory.specs.Lawful.{by_test, at_size}
use Rattle.theory.specs.Seen.{Tells}
use Rattle.theory.proofs.Seen.{view_tells}
use Rattle.theory.specs.Sizes.{size_bounds, tree_is_size, free_is_top}
use Rattle.theory.proofs.Sizes.{child_allowed, unary_sized}
use Rattle.theory.specs.TreeRun.{left_of, const_tree}
use Rattle.tree.specs.Form.{is_size, un_sizing, Sized}
use Rattle.tree.specs.Meaning.{Assignment, Fitting, value}
use Rattle.tree.specs.Tree.{Tree, unary, size, has_top}

-- the value of the child's left child fits, too
inner_fits : (ρ : Assignment) → Fitting ρ → (a : Tree) → Sized a → has_top a ≡ false → value ρ (left_of a) < 2 ^ (8 * size (left_of a))
inner_fits ρ fitting a ok free = value_fits ρ fitting (left_of a) (left_sized a ok) (left_free a free)

-- NEGATION
module _ (ρ : Assignment) (fitting : Fitting ρ) (s : ℕ) (a : Tree)
    (ok : Sized (unary Un.Int2Comp s a)) (free : has_top a ≡ false) where
  same : size a ≡ s
  unfolding row_of
  same = (child_allowed (un_sizing Un.Int2Comp) s a (free_is_top a free) ok.0).0

  neg_kept : Replaces ρ (unary Un.Int2Comp s a) (unary Un.Int2Comp s a)
  neg_kept = replaces_itself ρ (unary Un.Int2Comp s a) ok free

  neg_keeps : (e : View) → Tells e s (value ρ a) (size (left_of a)) (value ρ (left_of a)) →
      Replaces ρ (unary Un.Int2Comp s a) (un_made Un.Int2Comp s a (neg_act s e))
  neg_keeps (View.Constant n) t =
      made_constant (tree_is_size (unary Un.Int2Comp s a) ok refl) (int_2comp (8 * s) n)
      (rw t (mod-eq_of_lt (int_2comp_fits (8 * s) n)))
  neg_keeps (View.Plus n) t = neg_kept
  neg_keeps (View.Minus n) t = neg_kept
  neg_keeps View.Negation t =
      given (left_sized a ok.1) (left_free a free)
      (t.0, rw t.1 (sym (int_2comp_twice (8 * s) (value ρ (left_of a)) (at_size t.0 (inner_fits ρ fitting a ok.1 free)))))
  neg_keeps (View.Extension c) t = neg_kept
  neg_keeps View.Other t = neg_kept

-- SIGN EXTENSION
module _ (ρ : Assignment) (fitting : Fitting ρ) (s : ℕ) (a : Tree)
    (ok : Sized (unary Un.SignExtend s a)) (free : has_top a ≡ false) where
  is : is_size s ≡ true
  is = tree_is_size (unary Un.SignExtend s a) ok refl

  no_wider_lem : size a ≤ s
  unfolding row_of
  no_wider_lem = child_allowed (un_sizing Un.SignExtend) s a (free_is_top a free) ok.0

  fits : value ρ a < 2 ^ (8 * size a)
  fits = value_fits ρ fitting a ok.1 free

  sext_kept : Replaces ρ (unary Un.SignExtend s a) (unary Un.SignExtend s a)
  sext_kept = replaces_itself ρ (unary Un.SignExtend s a) ok free

  same_size_lem : size a ≡ s → Replaces ρ (unary Un.SignExtend s a) a
  same_size_lem e = given ok.1 free (e, rw e (sym (int_sext_same (8 * s) (value ρ a) (at_size e fits))))

  folded : (n : ℕ) → value ρ a ≡ n → Replaces ρ (unary Un.SignExtend s a) (const_tree s (int_sext (8 * size a) (8 * s) n))
  folded n e =
      made_constant is (int_sext (8 * size a) (8 * s) n)
      (rw e (mod-eq_of_lt (int_sext_fits (8 * size a) (8 * s) n (omega (arith, no_wider_lem)) (rw e at fits))))

  once : size (left_of a) ≤ size a → value ρ a ≡ int_sext (8 * size (left_of a)) (8 * size a) (value ρ (left_of a)) →
      Replaces ρ (unary Un.SignExtend s a) (unary Un.SignExtend s (left_of a))
  unfolding row_of
  once inner e =
      let below = no_wider_lem in
      let some = size_bounds (size (left_of a)) (tree_is_size (left_of a) (left_sized a ok.1) (free_is_top (left_of a) (left_free a free))) in
      record {
        sized = unary_sized Un.SignExtend s (left_of a) is (left_sized a ok.1) (left_free a free) (omega arith);
        size_is = refl;
        topless = left_free a free;
        value_is =
            rw e
            (sym (int_sext_twice (8 * size (left_of a)) (8 * size a) (8 * s) (value ρ (left_of a)) (omega arith) (omega arith) (omega arith)
            (inner_fits ρ fitting a ok.1 free)));
      }

  sext_keeps : (e : View) → Tells e (size a) (value ρ a) (size (left_of a)) (value ρ (left_of a)) →
      Replaces ρ (unary Un.SignExtend s a) (un_made Un.SignExtend s a (sext_inner s (size a) e))
  sext_keeps (View.Constant n) t = folded n t
  sext_keeps (View.Plus n) t = sext_kept
  sext_keeps (View.Minus n) t = sext_kept
  sext_keeps View.Negation t = sext_kept
  sext_keeps (View.Extension c) t =
      by_test (λ (act : Act). Replaces ρ (unary Un.SignExtend s a) (un_made Un.SignExtend s a act)) (leb c s)
      (λ below. once t.1 t.2) (λ above. sext_kept)
  sext_keeps View.Other t = sext_kept

pub un_act_keeps : (ρ : Assignment) → Fitting ρ → (op : Un) (s : ℕ) (a : Tree) → Sized (unary op s a) → has_top a ≡ false →
    Replaces ρ (unary op s a) (un_made op s a (un_act op s a))
un_act_keeps ρ fitting Un.SignExtend s a ok free =
    by_test (λ (act : Act). Replaces ρ (unary Un.SignExtend s a) (un_made Un.SignExtend s a act)) (eqb (size a) s)
    (λ e. same_size_lem ρ fitting s a ok free (eqb-true (size a) s e))
    (λ e. sext_keeps ρ fitting s a ok free (view a) (view_tells ρ a ok.1 free))
un_act_keeps ρ fitting Un.Int2Comp s a ok free =
    neg_keeps ρ fitting s a ok free (view a) (rw (same ρ fitting s a ok free) at (view_tells ρ a ok.1 free))
