-- What is left of a budget of nodes and of a limit on paths, from a tree to its children. Assumes nothing.
use Rattle.std.specs.Prelude.{cond, ◌≡◌, refl, ℕ, suc, ◌+◌, ◌-◌, ◌≤◌, ◌<◌, max, leb}
use Rattle.std.proofs.Common.{sym, ◌∙◌, arith, le-leb, leb-true, leb-false}
use Rattle.std.proofs.lemmas.Bool.{lt-leb}
use Rattle.format.specs.Truth.{either_knowing}

-- a budget less n nodes; nothing where the longest path, of p nodes, has more than `most`
abbrev pub left_over : (n p budget most : ℕ) → ℕ
left_over n p budget most = cond (leb p most) (budget - n) 0

module _ (n p budget most : ℕ) where
  short : p ≤ most → left_over n p budget most ≡ budget - n
  short h = rw (le-leb p most h)

  long : most < p → left_over n p budget most ≡ 0
  long h = rw (lt-leb p most h)

  -- what holds of a short path and of a long one
  by_path : (Q : ℕ → Type 0) → (p ≤ most → Q (budget - n)) → (most < p → Q 0) → Q (left_over n p budget most)
  by_path Q q r = either_knowing Q (leb p most) (λ e. q (leb-true p most e)) (λ e. r (leb-false p most e))

  pub no_budget : budget ≡ 0 → 0 ≡ left_over n p budget most
  no_budget none = by_path (λ (x : ℕ). 0 ≡ x) (λ h. omega arith) (λ h. refl)

  pub no_path : most ≡ 0 → 1 ≤ p → 0 ≡ left_over n p budget most
  no_path none some = sym (long (omega arith))

-- a node is counted, and is on the path, before its children
module _ (budget most : ℕ) (some : most ≡ 0 → ⊥) where
  pub over_leaf : budget - 1 ≡ left_over 1 1 budget most
  over_leaf = sym (short 1 1 budget most (omega arith))

  pub over_one : (n p : ℕ) → left_over n p (budget - 1) (most - 1) ≡ left_over (suc n) (suc p) budget most
  over_one n p =
      by_path n p (budget - 1) (most - 1) (λ (x : ℕ). x ≡ left_over (suc n) (suc p) budget most)
      (λ h. rw (short (suc n) (suc p) budget most (omega arith)) (omega arith))
      (λ h. sym (long (suc n) (suc p) budget most (omega arith)))

  module _ (n p m q : ℕ) where
    abbrev both : ℕ
    both = left_over (suc (n + m)) (suc (max p q)) budget most

    pub over_two : (rest : ℕ) → rest ≡ left_over n p (budget - 1) (most - 1) → left_over m q rest (most - 1) ≡ both
    over_two rest e =
        rw e
        (by_path n p (budget - 1) (most - 1) (λ (x : ℕ). left_over m q x (most - 1) ≡ both)
        (λ left. by_path m q (budget - 1 - n) (most - 1) (λ (x : ℕ). x ≡ both)
        (λ right. rw (short (suc (n + m)) (suc (max p q)) budget most (omega arith)) (omega arith))
        (λ right. sym (long (suc (n + m)) (suc (max p q)) budget most (omega arith))))
        (λ left. sym (no_budget m q 0 (most - 1) refl) ∙ sym (long (suc (n + m)) (suc (max p q)) budget most (omega arith))))

-- with one more than `limit` as the budget, something is left exactly where both limits are kept
module _ (n p limit most : ℕ) where
  pub some_left : 0 < left_over n p (limit + 1) most → (n ≤ limit) × (p ≤ most)
  some_left =
      by_path n p (limit + 1) most (λ (x : ℕ). 0 < x → (n ≤ limit) × (p ≤ most))
      (λ h some. (omega arith, h))
      (λ h some. absurd (omega arith))

  pub none_left : left_over n p (limit + 1) most ≤ 0 → n ≤ limit → most < p
  none_left =
      by_path n p (limit + 1) most (λ (x : ℕ). x ≤ 0 → n ≤ limit → most < p)
      (λ h none few. absurd (omega arith))
      (λ h none few. h)
