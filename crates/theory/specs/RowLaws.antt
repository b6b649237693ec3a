-- Laws of rows: the searches, row by row, and that values of good rows fit. Assumes nothing.
use Rattle.std.specs.Prelude.{Bool, true, false, cond, List, ◌≡◌, eqb, ltb, length, None, Option, Some}
use Rattle.std.proofs.Math.Path.{refl}
use Rattle.std.proofs.Common.{subst, ltb-true}
use Prim.Native.Nat.{ℕ, zero, suc, ◌+◌, ◌-◌, ◌*◌, ◌%◌, ◌^◌, ◌≤◌, ◌<◌}
use Rattle.std.proofs.Math.Numerals.{add-one}
use native.Mathlib.Omega.{arith}
use Rattle.std.proofs.Math.Pow.{pow_pos}
use Rattle.format.specs.Header.{size_of}
use Rattle.format.specs.Truth.{and_left, and_right, eqb_equal}
use Rattle.tree.specs.Form.{is_size}
use Rattle.tree.specs.Meaning.{Fitting}
use Rattle.tree.specs.Rows.{row_words, key_header, key_payload, row_value, good_row, bad_row_from, bad_row, keyed, found_from, or_zero, assigned}

-- SEARCHING n whole rows, of which j are passed

module _ (rows : List ℕ) (n j : ℕ) where
  pub bad_step : j < n → bad_row_from rows (n - j) j ≡ cond (good_row rows j) (bad_row_from rows (n - (j + 1)) (j + 1)) (Some j)
  unfolding bad_row_from
  bad_step h = let e : n - j ≡ suc (n - (j + 1)) = omega arith in rw (e, add-one j)

  pub bad_end : j ≤ n → n ≤ j → bad_row_from rows (n - j) j ≡ cond (eqb (length rows % row_words) 0) None (Some n)
  unfolding bad_row_from
  bad_end h h' = let e : n - j ≡ 0 = omega arith in let d : j ≡ n = omega arith in rw (e, d)

  module _ (word payload : ℕ) where
    pub found_step : j < n → found_from rows (n - j) j word payload
        ≡ cond (keyed rows j word payload) (Some (row_value rows j)) (found_from rows (n - (j + 1)) (j + 1) word payload)
    unfolding found_from
    found_step h = let e : n - j ≡ suc (n - (j + 1)) = omega arith in rw (e, add-one j)

    pub found_end : n ≤ j → found_from rows (n - j) j word payload ≡ None
    unfolding found_from
    found_end h = let e : n - j ≡ 0 = omega arith in rw e

-- VALUES OF GOOD ROWS FIT

good_fits : (rows : List ℕ) (j : ℕ) → good_row rows j ≡ true → row_value rows j < 2 ^ (8 * size_of (key_header rows j))
unfolding good_row
good_fits rows j good =
    let s = size_of (key_header rows j) in
    ltb-true (row_value rows j) (2 ^ (8 * s)) (and_right (is_size s) (ltb (row_value rows j) (2 ^ (8 * s))) good)

keyed_header : (rows : List ℕ) (j word payload : ℕ) → keyed rows j word payload ≡ true → key_header rows j ≡ word
keyed_header rows j word payload e = eqb_equal (key_header rows j) word (and_left (eqb (key_header rows j) word) (eqb (key_payload rows j) payload) e)

module _ (rows : List ℕ) (word payload : ℕ) where
  found_fits : (n j : ℕ) → bad_row_from rows n j ≡ None → or_zero (found_from rows n j word payload) < 2 ^ (8 * size_of word)
  unfolding bad_row_from found_from
  found_fits zero j e = pow_pos (8 * size_of word)
  found_fits (suc n) j e = by_row (found_fits n (suc j)) (good_row rows j) refl e
    where
      Fits : Option ℕ → Type 0
      Fits row = or_zero row < 2 ^ (8 * size_of word)

      by_key : good_row rows j ≡ true → Fits (found_from rows n (suc j) word payload) → (key : Bool) → keyed rows j word payload ≡ key →
          Fits (cond key (Some (row_value rows j)) (found_from rows n (suc j) word payload))
      by_key good rest true is =
          subst (λ (header : ℕ). row_value rows j < 2 ^ (8 * size_of header)) (keyed_header rows j word payload is) (good_fits rows j good)
      by_key good rest false is = rest

      by_row : (bad_row_from rows n (suc j) ≡ None → Fits (found_from rows n (suc j) word payload)) →
          (good : Bool) → good_row rows j ≡ good → cond good (bad_row_from rows n (suc j)) (Some j) ≡ None → Fits (found_from rows (suc n) j word payload)
      by_row below true good e = by_key good (below e) (keyed rows j word payload) refl
      by_row below false bad e = let z : ◌≡◌ {A = ℕ} 0 1 = cc in absurd (omega arith)

-- without a bad row each input's value fits its size
pub assigned_fitting : (rows : List ℕ) → bad_row rows ≡ None → Fitting (assigned rows)
assigned_fitting rows good word payload = found_fits rows word payload _ 0 good
