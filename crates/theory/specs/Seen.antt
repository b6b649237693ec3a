-- What a rule's view of a tree tells of the tree's size and value, in numbers. Assumes nothing.
-- The laws that rest on what an edit in must-fail/ changes are in proofs/Seen.antt.
use Rattle.std.specs.Prelude.{◌≡◌, ℕ, ◌*◌, ◌^◌, ◌≤◌, ◌<◌, None, Option, Some}
use Rattle.manual.specs.Operations.{int_add, int_sub, int_2comp, int_sext}
use Rattle.rules.specs.declared.View.{View}

-- what the view of a tree tells, of its size s and value x, and of its left child's size c and value i
abbrev pub Tells : View → (s x c i : ℕ) → Type 0
Tells (View.Constant n) s x c i = x ≡ n
Tells (View.Plus n) s x c i = (c ≡ s) × (n < 2 ^ (8 * s)) × (x ≡ int_add (8 * s) i n)
Tells (View.Minus n) s x c i = (c ≡ s) × (n < 2 ^ (8 * s)) × (x ≡ int_sub (8 * s) i n)
Tells View.Negation s x c i = (c ≡ s) × (x ≡ int_2comp (8 * s) i)
Tells (View.Extension d) s x c i = (d ≡ s) × (c ≤ s) × (x ≡ int_sext (8 * c) (8 * s) i)
Tells View.Other s x c i = Unit {0}

-- what the number of a constant tells of its size d and value y
abbrev pub Shows : Option ℕ → (d y : ℕ) → Type 0
Shows None d y = Unit {0}
Shows (Some n) d y = (y ≡ n) × (n < 2 ^ (8 * d))
