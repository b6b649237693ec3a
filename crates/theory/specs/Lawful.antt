-- Why the rule of each kind of two children keeps the value, in numbers: all that depends on the kind is one record, with a line
-- for each kind. Assumes nothing.
-- The laws that rest on what an edit in must-fail/ changes are in proofs/Lawful.antt.
use Rattle.std.specs.Prelude.{Bool, true, false, cond, ◌≡◌, refl, ℕ, ◌*◌, ◌%◌, ◌^◌, ◌≤◌, ◌<◌, Some}
use Rattle.std.proofs.Common.{subst}
use Rattle.format.specs.declared.Bin.{Bin}
use Rattle.format.specs.declared.Sizing.{Sizing}
use Rattle.rules.specs.Rules.{rule_of}
use Rattle.rules.specs.declared.Beside.{Beside}
use Rattle.rules.specs.declared.Equals.{Equals}
use Rattle.rules.specs.declared.View.{View}
use Rattle.theory.specs.Seen.{Tells}
use Rattle.theory.specs.Sizes.{Allowed}
use Rattle.tree.specs.Form.{bin_sizing}
use Rattle.tree.specs.Meaning.{bin_value}

pub by_test : {A : Type 0} (P : A → Type 0) (test : Bool) {x y : A} → (test ≡ true → P x) → (test ≡ false → P y) → P (cond test x y)
by_test P true p q = p refl
by_test P false p q = q refl

pub at_size : {c s x : ℕ} → c ≡ s → x < 2 ^ (8 * c) → x < 2 ^ (8 * s)
at_size {x = x} e h = subst (λ (n : ℕ). x < 2 ^ (8 * n)) e h

-- the operands of a node of s bytes under a rule of sizes: x of c bytes, and y of d bytes
pub record Operands (rule : Sizing) (s c d x y : ℕ) : Type 0 where
  pub small : s ≤ 8
  pub sizes : Allowed rule s 0 (Some c) (Some d)
  pub left_fits : x < 2 ^ (8 * c)
  pub right_fits : y < 2 ^ (8 * d)

-- WHAT A DECISION OWES, so that it keeps the value v of a node of s bytes. The child e that it is about has c bytes and the value
-- x, and e's left child k bytes and the value i.

-- the new node (x op #n) may be built and has the value v
pub record Rebuilt (op : Bin) (s c x n v : ℕ) : Type 0 where
  pub sizes : Allowed (bin_sizing op) s 0 (Some c) (Some s)
  pub value_is : bin_value op s c x (n % 2 ^ (8 * s)) ≡ v

abbrev pub BesideKeeps : Beside → (s c x k i v : ℕ) → Type 0
BesideKeeps Beside.Stay s c x k i v = Unit {0}
BesideKeeps Beside.Itself s c x k i v = (c ≡ s) × (x ≡ v)
BesideKeeps (Beside.Make n) s c x k i v = n % 2 ^ (8 * s) ≡ v
BesideKeeps (Beside.Redo op n) s c x k i v = Rebuilt op s c x n v
BesideKeeps (Beside.RedoInner op n) s c x k i v = Rebuilt op s k i n v

abbrev pub EqualKeeps : Equals → (s c x v : ℕ) → Type 0
EqualKeeps Equals.Stay s c x v = Unit {0}
EqualKeeps Equals.Zero s c x v = v ≡ 0
EqualKeeps Equals.Left s c x v = (c ≡ s) × (x ≡ v)

-- the children may change places
pub record Swaps (op : Bin) : Type 0 where
  pub sizes : (s c d : ℕ) → Allowed (bin_sizing op) s 0 (Some c) (Some d) →
      Allowed (bin_sizing op) s 0 (Some d) (Some c)
  pub values : (s c d x y : ℕ) → bin_value op s c x y ≡ bin_value op s d y x

-- all that a kind owes: its values fit, and each part of its rule keeps them
pub record Lawful (op : Bin) : Type 0 where
  pub fits : (s c d x y : ℕ) → Operands (bin_sizing op) s c d x y → bin_value op s c x y < 2 ^ (8 * s)
  pub swaps : (rule_of op).swaps ≡ true → Swaps op
  pub beside : (s c d x n : ℕ) → Operands (bin_sizing op) s c d x n → (k i : ℕ) (e : View) → Tells e c x k i →
      BesideKeeps ((rule_of op).beside s e n) s c x k i (bin_value op s c x n)
  pub equal : (s c x : ℕ) → Operands (bin_sizing op) s c c x x → EqualKeeps (rule_of op).equal s c x (bin_value op s c x x)
