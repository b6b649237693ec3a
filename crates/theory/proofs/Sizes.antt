-- What the rules of sizes say, as facts about numbers drawn from their one test `sized`: first over what a rule sees of the
-- children, then over trees. Assumes nothing.
use Rattle.std.specs.Prelude.{true, false, ◌↔◌, ◌≡◌, refl, ℕ, ◌*◌, ◌^◌, eqb, None, Option, Some}
use Rattle.std.proofs.Common.{eqb-true, leb-true, ltb-true, eq-eqb, le-leb, lt-ltb}
use Rattle.format.specs.declared.Bin.{Bin}
use Rattle.format.specs.declared.Sizing.{Sizing}
use Rattle.format.specs.declared.Un.{Un}
use Rattle.tree.specs.Form.{is_size, same_size, no_wider, one_size, sized, un_sizing, bin_sizing, size_seen, Sized}
use Rattle.tree.specs.Tree.{Tree, unary, binary, size, is_top, has_top}
use Rattle.theory.specs.Sizes.{Allowed, NoWider, OneSize, SameSize, both, free_is_top, parts, size_seen_lem}

-- A SIZE is 1, 2, 4 or 8

-- A RULE: what it asks of a node of s bytes beside that s is a size. A child that it does not see passes

same_size_lem : (s : ℕ) (child : Option ℕ) → (same_size s child ≡ true) ↔ SameSize s child
same_size_lem s None = (λ e. tt, λ h. refl)
same_size_lem s (Some c) = (eqb-true c s, eq-eqb c s)

no_wider_lem : (s : ℕ) (child : Option ℕ) → (no_wider s child ≡ true) ↔ NoWider s child
no_wider_lem s None = (λ e. tt, λ h. refl)
no_wider_lem s (Some c) = (leb-true c s, le-leb c s)

one_size_lem : (left right : Option ℕ) → (one_size left right ≡ true) ↔ OneSize left right
one_size_lem None right = (λ e. tt, λ h. refl)
one_size_lem (Some c) right = same_size_lem c right

module _ (s payload : ℕ) (left right : Option ℕ) where
  pub allowed : (rule : Sizing) → sized rule s payload left right ≡ true → Allowed rule s payload left right
  allowed Sizing.Unsized e = eqb-true s 0 e
  allowed Sizing.Input e = tt
  allowed Sizing.Constant e = ltb-true payload (2 ^ (8 * s)) (parts (is_size s) _ e).1
  allowed Sizing.Same e =
      let p = parts (same_size s left) _ (parts (is_size s) _ e).1 in
      ((same_size_lem s left).0 p.0, (same_size_lem s right).0 p.1)
  allowed Sizing.Shift e =
      let p = parts (same_size s left) _ (parts (is_size s) _ e).1 in
      ((same_size_lem s left).0 p.0, (no_wider_lem s right).0 p.1)
  allowed Sizing.Extension e = (no_wider_lem s left).0 (parts (is_size s) _ e).1
  allowed Sizing.Flag e =
      let p = parts (eqb s 1) _ e in
      (eqb-true s 1 p.0, (one_size_lem left right).0 p.1)

  -- the other way, for a node that is built
  pub allowed_sized : (rule : Sizing) → is_size s ≡ true → Allowed rule s payload left right → sized rule s payload left right ≡ true
  allowed_sized Sizing.Unsized is h = eq-eqb s 0 h
  allowed_sized Sizing.Input is h = is
  allowed_sized Sizing.Constant is h = both is (lt-ltb payload (2 ^ (8 * s)) h)
  allowed_sized Sizing.Same is h = both is (both ((same_size_lem s left).1 h.0) ((same_size_lem s right).1 h.1))
  allowed_sized Sizing.Shift is h = both is (both ((same_size_lem s left).1 h.0) ((no_wider_lem s right).1 h.1))
  allowed_sized Sizing.Extension is h = both is ((no_wider_lem s left).1 h)
  allowed_sized Sizing.Flag is h = both (eq-eqb s 1 h.0) ((one_size_lem left right).1 h.1)

-- OPERATORS: their nodes have a size

-- TREES: a child that is not Top shows its size

pub child_allowed : (rule : Sizing) (s : ℕ) (a : Tree) → is_top a ≡ false →
    sized rule s 0 (size_seen a) None ≡ true → Allowed rule s 0 (Some (size a)) None
child_allowed rule s a e h = rw (size_seen_lem a e) at (allowed s 0 (size_seen a) None rule h)

pub children_allowed : (rule : Sizing) (s : ℕ) (a b : Tree) → is_top a ≡ false → is_top b ≡ false →
    sized rule s 0 (size_seen a) (size_seen b) ≡ true → Allowed rule s 0 (Some (size a)) (Some (size b))
children_allowed rule s a b e f h = rw (size_seen_lem a e, size_seen_lem b f) at (allowed s 0 (size_seen a) (size_seen b) rule h)

-- a node over trees from which no Top is reached
pub unary_sized : (op : Un) (s : ℕ) (a : Tree) → is_size s ≡ true → Sized a → has_top a ≡ false →
    Allowed (un_sizing op) s 0 (Some (size a)) None → Sized (unary op s a)
unary_sized op s a is ok free h =
    (rw (size_seen_lem a (free_is_top a free)) (allowed_sized s 0 (Some (size a)) None (un_sizing op) is h), ok)

pub binary_sized : (op : Bin) (s : ℕ) (a b : Tree) → is_size s ≡ true → Sized a → Sized b → has_top a ≡ false → has_top b ≡ false →
    Allowed (bin_sizing op) s 0 (Some (size a)) (Some (size b)) → Sized (binary op s a b)
binary_sized op s a b is ok_a ok_b free_a free_b h = (
  rw (size_seen_lem a (free_is_top a free_a), size_seen_lem b (free_is_top b free_b))
      (allowed_sized s 0 (Some (size a)) (Some (size b)) (bin_sizing op) is h),
  ok_a,
  ok_b,
)
