-- What a search over the chunks of the rows finds is what a search over the rows by their places finds. Assumes nothing.
use Rattle.std.specs.Prelude.{Bool, true, false, cond, List, ◌≡◌, refl, ℕ, zero, suc, ◌+◌, ◌*◌, ◌/◌, ◌%◌, ◌≤◌, ◌<◌, eqb, length, get_or, None, Option, Some, MatchOption, IfSome}
use Rattle.std.specs.Bool.{IsTrue}
use Rattle.std.specs.Option.{IsSomeAnd}
use Rattle.std.specs.Fn.{Called}
use Rattle.std.specs.List.{IsSubsliceAt}
use Rattle.std.specs.Iterator.Runs.{Run, IsChunksRun, IsChunksExactRun, AllItems, AllItemsGive, IsFirstToGive, CallKeepsClosure}
use Rattle.std.proofs.Common.{ap, sym, ◌∙◌, arith, subst, ⊎_elim, eq-or-lt_of_le, eq-eqb, ne_eqb}
use Rattle.std.proofs.Math.Decide.{dec_lt}
use denote.Param.Members.{Mut}
use denote.Ref.{Bor}
use mathlib.Core.Bool.{not}
use Rattle.format.specs.Truth.{not_both}
use Rattle.eval.specs.Chunks.{good_chunk, value_in}
use Rattle.tree.specs.Rows.{row_words, row_value, good_row, bad_row_from, bad_row, keyed, found_from, found, first_of}

not_true : (b : Bool) → true ≡ not b → b ≡ false
not_true true e = e
not_true false e = refl

not_false : (b : Bool) → false ≡ not b → b ≡ true
not_false true e = refl
not_false false e = e

-- a search through the places from j upward, by what each of them shows
module _ (shown : ℕ → Option ℕ) (first : (n j : ℕ) → Option ℕ) (step : (n j : ℕ) → first (suc n) j ≡ first_of (shown j) (first n (suc j))) where
  -- the first place that shows something
  hits : (n j i v : ℕ) → ((k : ℕ) → k < i → shown k ≡ None) → shown i ≡ Some v → j ≤ i → i < j + n → first n j ≡ Some v
  hits zero j i v before here from within = absurd (omega arith)
  hits (suc n) j i v before here from within =
      ⊎_elim (λ e. let at : shown j ≡ Some v = subst (λ k. shown k ≡ Some v) (sym e) here in step n j ∙ rw at)
      (λ later. step n j ∙ rw (before j later) (hits n (suc j) i v before here later (omega arith)))
      (eq-or-lt_of_le from)

  -- no place shows anything
  misses : (n j : ℕ) → ((k : ℕ) → k < j + n → shown k ≡ None) → first n j ≡ first 0 (j + n)
  misses zero j none = let e : j ≡ j + 0 = omega arith in ap (first 0) e
  misses (suc n) j none =
      let e : suc j + n ≡ j + suc n = omega arith in
      step n j ∙ rw (none j (omega arith)) (misses n (suc j) (λ k h. none k (omega arith)) ∙ ap (first 0) e)

-- how many rows are whole
abbrev count : List ℕ → ℕ
count rows = length rows / row_words

-- the chunk at place k of the rows
record Chunk (rows : List ℕ) (k : ℕ) (row : List ℕ) : Type 0 where
  inside : k * row_words < length rows
  part : IsSubsliceAt row_words rows (k * row_words) row

module _ {rows : List ℕ} {k : ℕ} {row : List ℕ} (c : Chunk rows k row) where
  word_at : (m n : ℕ) → m < row_words → k * row_words + m ≡ n → get_or row m 0 ≡ get_or rows n 0
  word_at m n h e = c.part.2 m 0 h ∙ ap (λ n. get_or rows n 0) e

  header_is : get_or row 0 0 ≡ get_or rows (row_words * k) 0
  header_is = word_at 0 (row_words * k) (omega arith) (omega arith)

  payload_is : get_or row 1 0 ≡ get_or rows (row_words * k + 1) 0
  payload_is = word_at 1 (row_words * k + 1) (omega arith) (omega arith)

  value_is : get_or row 2 0 ≡ get_or rows (row_words * k + 2) 0
  value_is = word_at 2 (row_words * k + 2) (omega arith) (omega arith)

  -- a whole row
  module _ (h : k < count rows) where
    whole : length row ≡ row_words
    whole = omega (arith, c.part.1)

    good_here : good_chunk row ≡ good_row rows k
    unfolding good_row
    good_here = rw (eq-eqb (length row) row_words whole, header_is, value_is)

    value_here : (word payload : ℕ) → value_in row word payload ≡ cond (keyed rows k word payload) (Some (row_value rows k)) None
    value_here word payload =
        rw (eq-eqb (length row) row_words whole, header_is, payload_is, value_is)

  -- one that the slice ends inside
  module _ (h : count rows ≤ k) where
    short : length row ≡ row_words → ⊥
    short e = omega (arith, c.part.1, c.inside)

    good_past : good_chunk row ≡ false
    good_past = rw (ne_eqb (length row) row_words short)

-- what the run of `chunks` says of its item at place k, and the run of `chunks_exact`
part_of_chunks : (rows : List ℕ) (k : ℕ) (o : Option (Bor (List ℕ))) →
    IfSome o (λ x. (0 < length x.now) × (k * row_words < length rows) × IsSubsliceAt row_words rows (k * row_words) x.now) →
    IfSome o (λ x. Chunk rows k x.now)
part_of_chunks rows k None c = c
part_of_chunks rows k (Some x) c = record { inside = c.1; part = c.2 }

part_of_exact : (rows : List ℕ) (k : ℕ) (o : Option (Bor (List ℕ))) →
    IfSome o (λ x. (length x.now ≡ row_words) × (k * row_words + row_words ≤ length rows) × IsSubsliceAt row_words rows (k * row_words) x.now) →
    IfSome o (λ x. (k < count rows) × Chunk rows k x.now)
part_of_exact rows k None c = c
part_of_exact rows k (Some x) c = (omega (arith, c.1), record { inside = omega (arith, c.1); part = c.2 })

-- the items that a closure was called at, by what it answered
module _ {S F R X : Type 0} {steps : S → Option X → S → Type 0} (p : Run steps) (default : X) (Part : ℕ → X → Type 0)
    (parts : (k : ℕ) → IfSome (p.at k) (Part k)) (g : Mut F (X × Unit {0}) R) (f : F) where
  -- place k has an item, and the answer there was r
  abbrev Answered : ℕ → R → Type 0
  Answered k r = (x : X) × Part k x × Called g f (x, tt) r f

  at_place : (k : ℕ) (r : R) (o : Option X) → IfSome o (Part k) → IsSomeAnd o (λ x. Called g f (x, tt) r f) → Answered k r
  at_place k r None c a = absurd a
  at_place k r (Some x) c a = (x, c, a)

  answered : (k : ℕ) (r : R) → IsSomeAnd (p.at k) (λ x. Called g f (x, tt) r f) → Answered k r
  answered k r a = at_place k r (p.at k) (parts k) a

  there : (k : ℕ) (r : R) → k < p.len → (o : Option X) → p.at k ≡ o → IfSome o (λ x. Called g f (x, tt) r f) → IsSomeAnd o (λ x. Called g f (x, tt) r f)
  there k r h None e a = let none = rw e at (p.reads k default h) in let z : ◌≡◌ {A = ℕ} 0 1 = cc in absurd (omega arith)
  there k r h (Some x) e a = a

  -- where it answered r at each item
  each : (r : R) → AllItems p (λ x. Called g f (x, tt) r f) → (k : ℕ) → k < p.len → Answered k r
  each r all k h = answered k r (there k r h (p.at k) refl (all k))

-- the places that a search over the rows themselves stops at
module _ (rows : List ℕ) where
  abbrev bad_at : ℕ → Option ℕ
  bad_at k = cond (good_row rows k) None (Some k)

  bad_step : (n j : ℕ) → bad_row_from rows (suc n) j ≡ first_of (bad_at j) (bad_row_from rows n (suc j))
  unfolding bad_row_from
  bad_step n j = go (good_row rows j)
    where
      go : (b : Bool) → cond b (bad_row_from rows n (suc j)) (Some j) ≡ first_of (cond b None (Some j)) (bad_row_from rows n (suc j))
      go true = refl
      go false = refl

  bad_end : (j : ℕ) → bad_row_from rows 0 j ≡ cond (eqb (length rows % row_words) 0) None (Some j)
  unfolding bad_row_from
  bad_end j = refl

  module _ (word payload : ℕ) where
    abbrev value_at : ℕ → Option ℕ
    value_at k = cond (keyed rows k word payload) (Some (row_value rows k)) None

    abbrev found_in : (n j : ℕ) → Option ℕ
    found_in n j = found_from rows n j word payload

    found_step : (n j : ℕ) → found_in (suc n) j ≡ first_of (value_at j) (found_in n (suc j))
    unfolding found_from
    found_step n j = go (keyed rows j word payload)
      where
        go : (b : Bool) → cond b (Some (row_value rows j)) (found_in n (suc j)) ≡ first_of (cond b (Some (row_value rows j)) None) (found_in n (suc j))
        go true = refl
        go false = refl

    found_end : (j : ℕ) → found_in 0 j ≡ None
    unfolding found_from
    found_end j = refl

module _ {S F : Type 0} {steps : S → Option (Bor (List ℕ)) → S → Type 0} (rows : Bor (List ℕ)) (p : Run steps) where
  module _ (chunks : IsChunksRun p row_words rows.now) (g : Mut F (Bor (List ℕ) × Unit {0}) Bool) (f : F) (keeps : CallKeepsClosure g f)
      (tests : (x : Bor (List ℕ)) (r : Bool) → Called g f (x, tt) r f → r ≡ not (good_chunk x.now)) where
    abbrev IsPart : ℕ → Bor (List ℕ) → Type 0
    IsPart k x = Chunk rows.now k x.now

    abbrev Judged : ℕ → Bool → Type 0
    Judged k r = (x : Bor (List ℕ)) × IsPart k x × Called g f (x, tt) r f

    part : (k : ℕ) → IfSome (p.at k) (IsPart k)
    part k = part_of_chunks rows.now k (p.at k) (chunks.2 k)

    passed_at : (k : ℕ) → k < count rows.now → Judged k false → bad_at rows.now k ≡ None
    passed_at k h (x, c, a) = rw (← good_here c h, not_false (good_chunk x.now) (tests x false a))

    failed_at : (k : ℕ) → k < count rows.now → Judged k true → bad_at rows.now k ≡ Some k
    failed_at k h (x, c, a) = rw (← good_here c h, not_true (good_chunk x.now) (tests x true a))

    past_fails : (k : ℕ) → count rows.now ≤ k → Judged k false → ⊥
    past_fails k h (x, c, a) = not_both (not_false (good_chunk x.now) (tests x false a)) (good_past c h)

    none_fails : ((k : ℕ) → k * row_words < length rows.now → Judged k false) → None ≡ bad_row rows.now
    none_fails good =
        sym (misses (bad_at rows.now) (bad_row_from rows.now) (bad_step rows.now) (count rows.now) 0
        (λ k h. passed_at k (omega arith) (good k (omega arith)))
        ∙ bad_end rows.now _
        ∙ rw (eq-eqb (length rows.now % row_words) 0 (no_part (dec_lt (count rows.now * row_words) (length rows.now)))))
      where
        no_part : Dec (count rows.now * row_words < length rows.now) → length rows.now % row_words ≡ 0
        no_part (yes h) = absurd (past_fails (count rows.now) (omega arith) (good (count rows.now) h))
        no_part (no h) = omega arith

    one_fails : (i : ℕ) → Judged i true → ((k : ℕ) → k < i → Judged k false) → Some i ≡ bad_row rows.now
    one_fails i (x, c, a) before = go (dec_lt i (count rows.now))
      where
        go : Dec (i < count rows.now) → Some i ≡ bad_row rows.now
        go (yes h) =
            sym (hits (bad_at rows.now) (bad_row_from rows.now) (bad_step rows.now) (count rows.now) 0 i i
            (λ k h'. passed_at k (omega arith) (before k h')) (failed_at i h (x, c, a)) (omega arith) (omega arith))
        go (no h) =
            let last : i ≡ count rows.now = omega (arith, c.inside) in
            sym (misses (bad_at rows.now) (bad_row_from rows.now) (bad_step rows.now) (count rows.now) 0
            (λ k h'. passed_at k (omega arith) (before k (omega arith)))
            ∙ bad_end rows.now _
            ∙ rw (ne_eqb (length rows.now % row_words) 0 (λ z. omega (arith, c.inside)), ← last) (ap Some (omega arith)))

    pub bad_by : (result : Option ℕ) →
        MatchOption result (IsTrue p.whole × AllItemsGive p g f false) (λ i. (p.len ≡ i + 1) × IsFirstToGive p g f true false i) →
        result ≡ bad_row rows.now
    bad_by None (ends, all) = none_fails (λ k h. each p rows IsPart part g f false (all keeps) k (omega (arith, chunks.1 ends)))
    bad_by (Some i) (len, first) =
        let told = answered p rows IsPart part g f in
        one_fails i (told i true (first keeps).0) (λ k h. told k false ((first keeps).1 k h))

  module _ (chunks : IsChunksExactRun p row_words rows.now) (g : Mut F (Bor (List ℕ) × Unit {0}) (Option ℕ)) (f : F) (keeps : CallKeepsClosure g f)
      (word payload : ℕ) (tests : (x : Bor (List ℕ)) (r : Option ℕ) → Called g f (x, tt) r f → r ≡ value_in x.now word payload) where
    abbrev IsRow : ℕ → Bor (List ℕ) → Type 0
    IsRow k x = (k < count rows.now) × Chunk rows.now k x.now

    abbrev Told : ℕ → Option ℕ → Type 0
    Told k r = (x : Bor (List ℕ)) × IsRow k x × Called g f (x, tt) r f

    row : (k : ℕ) → IfSome (p.at k) (IsRow k)
    row k = part_of_exact rows.now k (p.at k) (chunks.2 k)

    told_at : (k : ℕ) (r : Option ℕ) → Told k r → value_at rows.now word payload k ≡ r
    told_at k r (x, c, a) = sym (tests x r a ∙ value_here c.1 c.0 word payload)

    pub found_by : (result : Option ℕ) →
        MatchOption result (IsTrue p.whole × AllItemsGive p g f None)
        (λ y. (i : ℕ) × (i < p.len) × (p.len ≡ i + 1) × IsFirstToGive p g f (Some y) None i) → result ≡ found rows.now word payload
    found_by None (ends, all) =
        sym (misses (value_at rows.now word payload) (found_in rows.now word payload) (found_step rows.now word payload) (count rows.now) 0
        (λ k h. told_at k None (each p rows IsRow row g f None (all keeps) k (omega (arith, chunks.1 ends))))
        ∙ found_end rows.now word payload _)
    found_by (Some y) (i, within, len, first) =
        let told = answered p rows IsRow row g f in
        let here = told i (Some y) (first keeps).0 in
        sym (hits (value_at rows.now word payload) (found_in rows.now word payload) (found_step rows.now word payload) (count rows.now) 0 i y
        (λ k h. told_at k None (told k None ((first keeps).1 k h)))
        (told_at i (Some y) here) (omega arith) (omega (arith, here.1.0)))
