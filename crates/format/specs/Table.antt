-- A rule of a table, proved at all of its lines by one test that computes. Assumes nothing.
use Rattle.std.specs.Prelude.{◌≡◌, Bool, true, ◌&&◌, List, [], ◌∷◌, ℕ, zero, suc, ◌+◌, ◌<◌, length, get_or}
use Rattle.std.proofs.Common.{subst, ◌∙◌, sym, add-zero, zero-add, add-suc, suc-add, arith}
use Rattle.format.specs.Truth.{and_left, and_right}

module _ {A : Type 0} where
  -- the test passes at each line of the table, given its number, counted from i, and itself
  abbrev pub every : (ℕ → A → Bool) → ℕ → List A → Bool
  every f i [] = true
  every f i (x ∷ xs) = f i x && every f (suc i) xs

  from : (f : ℕ → A → Bool) (d : A) (xs : List A) (i : ℕ) → every f i xs ≡ true → (k : ℕ) → k < length xs →
      f (i + k) (get_or xs k d) ≡ true
  from f d [] i t k h = absurd (omega arith)
  from f d (x ∷ xs) i t zero h = rw add-zero (and_left (f i x) (every f (suc i) xs) t)
  from f d (x ∷ xs) i t (suc k) h =
      subst (λ (m : ℕ). f m (get_or xs k d) ≡ true) (suc-add i k ∙ sym (add-suc i k))
      (from f d xs (suc i) (and_right (f i x) (every f (suc i) xs) t) k (omega arith))

  -- a test that every line passes is passed by line k
  pub at_line : (f : ℕ → A → Bool) (d : A) (xs : List A) → every f 0 xs ≡ true → (k : ℕ) → k < length xs →
      f k (get_or xs k d) ≡ true
  at_line f d xs t k h = subst (λ (m : ℕ). f m (get_or xs k d) ≡ true) (zero-add k) (from f d xs 0 t k h)
