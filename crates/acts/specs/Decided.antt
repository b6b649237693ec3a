-- A rule's decision by what the code has read of the children, and why the operands of a fold fit. Assumes nothing.
use Rattle.std.specs.Prelude.{Bool, false, cond, List, ◌≡◌, refl, ℕ, ◌*◌, true, None, Option, Some, MatchOption}
use Rattle.std.proofs.Common.{ap, sym, ◌∙◌, pow_pos}
use Rattle.acts.specs.Operated.{UnaryOver, BinaryOver, ViewFits}
use Rattle.acts.specs.Views.{view_constant_lem}
use Rattle.arena.specs.Live.{Live, tree_of}
use Rattle.arith.specs.Operands.{Size, Extension}
use Rattle.format.specs.Header.{size_of}
use Rattle.format.specs.Kinds.{row_of}
use Rattle.format.specs.Truth.{or_neither}
use Rattle.format.specs.declared.Bin.{Bin}
use Rattle.format.specs.declared.Sizing.{Sizing}
use Rattle.format.specs.declared.Un.{Un}
use Rattle.rules.specs.Rules.{constant_of, view, decided, bin_act}
use Rattle.rules.specs.Seen.{view_constant}
use Rattle.rules.specs.declared.Act.{Act}
use Rattle.rules.specs.declared.View.{View}
use Rattle.theory.proofs.Seen.{constant_shows}
use Rattle.theory.specs.Sizes.{size_bounds, un_is_size, bin_is_size, free_is_top}
use Rattle.theory.proofs.Sizes.{child_allowed}
use Rattle.tree.specs.Form.{is_size, bin_sizing, Sized}
use Rattle.tree.specs.Meaning.{Assignment, Fitting as FittingValues, value}
use Rattle.tree.specs.Tree.{Tree, binary, size, same}
use Rattle.values.specs.Operands.{Fitting}
use Rattle.values.specs.SizedOperands.{unary_operand, binary_operands}

-- a view that was read off a tree shows the tree's constant
pub seen : (t : Tree) {x : View} {c : Option ℕ} → x ≡ view t → c ≡ view_constant x → constant_of t ≡ c
seen t p e = sym (view_constant_lem t) ∙ ap view_constant (sym p) ∙ sym e

-- the decision of code that has read the views x and y and the constants that they show
pub read_as : (op : Bin) (s : ℕ) (a b : Tree) {x y : View} {u v : Option ℕ} {act : Act} → x ≡ view a → y ≡ view b →
    u ≡ view_constant x → v ≡ view_constant y → act ≡ decided op s (same a b) x y (size a) u v → act ≡ bin_act op s a b
read_as op s a b p q e f g = rw (seen a p e, seen b q f, ← p, ← q) g

-- a kind that does nothing with equal trees need not compare them
pub keep_either : (alike : Bool) → Act.Keep ≡ cond alike Act.Keep Act.Keep
keep_either true = refl
keep_either false = refl

-- a size that passed
pub is_size_lem : (s : ℕ) → is_size s ≡ true → Size s
is_size_lem s e = let b = size_bounds s e in record { least = b.0; most = b.1 }

-- THE OPERANDS OF A FOLD: constants are values, whatever the assignment

nowhere : Assignment
nowhere word payload = 0

nowhere_fits : FittingValues nowhere
unfolding nowhere
nowhere_fits word payload = pow_pos (8 * size_of word)

constant_value : (t : Tree) (n : ℕ) → Sized t → constant_of t ≡ Some n → value nowhere t ≡ n
constant_value t n ok e = (rw e at (constant_shows nowhere t ok)).0

pub un_over_size : {words : List ℕ} {count : ℕ} {op : Un} {s a : ℕ} → UnaryOver words count op s a → Size s
un_over_size {op = op} {s} o = is_size_lem s (un_is_size op s _ _ o.sized_over)

pub over_size : {words : List ℕ} {count : ℕ} {op : Bin} {s a b : ℕ} → BinaryOver words count op s a b → Size s
over_size {op = op} {s} o = is_size_lem s (bin_is_size op s _ _ o.sized_over)

module _ {words : List ℕ} {count : ℕ} (live : Live words count) where
  pub fold_fitting : {op : Bin} {s a b m n : ℕ} {x y : View} {u v : Option ℕ} → BinaryOver words count op s a b →
      x ≡ view (tree_of count words a) → y ≡ view (tree_of count words b) → u ≡ view_constant x → v ≡ view_constant y →
      u ≡ Some m → v ≡ Some n → Fitting (bin_sizing op) s (size (tree_of count words a)) m n
  fold_fitting {op} {s} {a} {b} {m} {n} o p q e f g h =
      let t = tree_of count words a in
      let u = tree_of count words b in
      let whole : Sized (binary op s t u) = (o.sized_over, live.sized a o.left_below, live.sized b o.right_below) in
      rw (constant_value t m whole.1 (seen t p e ∙ g), constant_value u n whole.2 (seen u q f ∙ h)) at
      (binary_operands nowhere nowhere_fits op s t u whole (or_neither _ _ o.left_topless o.right_topless))

  -- THE OPERAND OF A RULE OF ONE CHILD

  constant_fits : {op : Un} {s a : ℕ} → UnaryOver words count op s a → (c : Option ℕ) → constant_of (tree_of count words a) ≡ c →
      MatchOption c (Unit {0}) (λ n. Extension (size (tree_of count words a)) s n)
  constant_fits o None e = tt
  constant_fits {op} {s} {a} o (Some n) e =
      let t = tree_of count words a in
      let ok = live.sized a o.below in
      rw (constant_value t n ok e) at (unary_operand nowhere nowhere_fits op s t (o.sized_over, ok) o.topless)

  pub view_fits : {op : Un} {s a : ℕ} → UnaryOver words count op s a → (v : View) → v ≡ view (tree_of count words a) →
      ViewFits s (size (tree_of count words a)) v
  view_fits {a = a} o v e = constant_fits o (view_constant v) (seen (tree_of count words a) e refl)

  pub sext_fits : {s a : ℕ} → UnaryOver words count Un.SignExtend s a → (v : View) → v ≡ view (tree_of count words a) →
      ViewFits s (size (tree_of count words a)) v
  sext_fits o v e = view_fits o v e

  pub neg_fits : {s a : ℕ} → UnaryOver words count Un.Int2Comp s a → (v : View) → v ≡ view (tree_of count words a) → ViewFits s s v
  unfolding row_of
  neg_fits {s} {a} o v e =
      let t = tree_of count words a in
      rw (child_allowed Sizing.Same s t (free_is_top t o.topless) o.sized_over).0 at (view_fits o v e)
