-- Words set to zero one after the other. Assumes nothing.
use mathlib.Core.List.{List, [], ◌∷◌, ◌++◌, append_assoc}
use Rattle.std.specs.Prelude.{◌≡◌, ℕ, suc, ◌+◌, ◌-◌, ◌≤◌, ◌<◌, length, get_or, set, drop}
use Rattle.std.proofs.Math.Path.{ap, sym}
use Rattle.std.proofs.Common.{ap₂, ◌∙◌, add-one, length-append, take-append-drop, length-drop, drop-cons}
use Rattle.std.proofs.Math.Nat.{sub_self}
use native.Mathlib.Omega.{arith}
use Rattle.std.proofs.Math.ListN.{take, replicate}
use Rattle.std.proofs.lemmas.List.{drop-drop, length-replicate, replicate-append-replicate, set_at}
use Rattle.std.proofs.Math.Seq.{length-take-le}

-- the words from `from` to `to` are zero
abbrev pub cleared : List ℕ → (from to : ℕ) → List ℕ
cleared words from to = take from words ++ (replicate (to - from) 0 ++ drop to words)

module _ (words : List ℕ) (from : ℕ) where
  pub cleared_none : cleared words from from ≡ words
  cleared_none = rw (sub_self from) (take-append-drop from words)

  -- what has been cleared before word k
  head : ℕ → List ℕ
  head k = take from words ++ replicate (k - from) 0

  head_length : (k : ℕ) → from ≤ k → k ≤ length words → length (head k) ≡ k
  unfolding head
  head_length k h g = simp (length-append, length-replicate) (omega (arith, length-take-le from words (omega arith)))

  split : (k : ℕ) → cleared words from k ≡ head k ++ drop k words
  unfolding head
  split k = sym (append_assoc (take from words) (replicate (k - from) 0) (drop k words))

  one_more : (k : ℕ) → from ≤ k → head (k + 1) ≡ head k ++ 0 ∷ []
  unfolding head
  one_more k h =
      let e : k + 1 - from ≡ (k - from) + 1 = omega arith in
      ap (λ (n : ℕ). take from words ++ replicate n 0) e
      ∙ ap (λ (zeros : List ℕ). take from words ++ zeros) (sym (replicate-append-replicate (k - from) 1 0))
      ∙ sym (append_assoc (take from words) (replicate (k - from) 0) (0 ∷ []))

  pub cleared_more : (k : ℕ) → from ≤ k → k < length words → set (cleared words from k) k 0 ≡ cleared words from (k + 1)
  cleared_more k h g =
      ap (λ (l : List ℕ). set l k 0) (split k ∙ ap (λ (l : List ℕ). head k ++ l) (drop-cons words k 0 g))
      ∙ set_at (head k) (get_or words k 0) (drop (suc k) words) 0 k (head_length k h (omega arith))
      ∙ sym (split (k + 1) ∙ ap₂ ◌++◌ (one_more k h) (ap (λ (n : ℕ). drop n words) (add-one k)) ∙ append_assoc (head k) (0 ∷ []) (drop (suc k) words))

  pub cleared_length : (to : ℕ) → from ≤ to → to ≤ length words → length (cleared words from to) ≡ length words
  cleared_length to h g = ap length (split to) ∙ length-append (head to) (drop to words) ∙ omega (arith, head_length to h g, length-drop to words)

-- zeros in the place of the words from `from` to `to`
pub zeros_put : (words : List ℕ) (from to : ℕ) → from ≤ to → to ≤ length words →
    take from words ++ (replicate (length (take (to - from) (drop from words))) 0 ++ drop (to - from) (drop from words)) ≡ cleared words from to
zeros_put words from to h g =
    let e : from + (to - from) ≡ to = omega arith in
    ap₂ (λ (n : ℕ) (rest : List ℕ). take from words ++ (replicate n 0 ++ rest))
    (length-take-le (to - from) (drop from words) (omega (arith, length-drop from words)))
    (drop-drop (to - from) from words ∙ ap (λ (n : ℕ). drop n words) e)
