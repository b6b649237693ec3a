-- What a good file's head tells, and words laid one after the other. Assumes nothing.
use Rattle.std.specs.Prelude.{Bool, true, false, cond, Option, None, Some, List, [], ◌∷◌, ◌++◌, ◌≡◌, leb, eqb, length, take, drop, set, get_or, replicate}
use Rattle.std.specs.Array.{IsFirstChunk}
use Rattle.std.specs.Simd.{first_chunks}
use Rattle.std.proofs.Math.Path.{refl, ap}
use Rattle.std.proofs.Common.{sym, ◌∙◌, add-zero, add-one, drop-cons}
use Prim.Native.Nat.{ℕ, zero, suc, ◌+◌, ◌*◌, ◌/◌, ◌%◌, ◌^◌, ◌-◌, ◌<◌, ◌≤◌}
use Rattle.std.proofs.Math.Numerals.{unary_clauses}
use native.Mathlib.Omega.{arith}
use borrow.Author.Tests.{le-leb, lt-leb, eq-eqb, ne_eqb, leb-true, eqb-true}
use Rattle.std.proofs.lemmas.List.{set_at, drop-drop, length-take-le}
use Rattle.std.proofs.Math.Seq.{append_snoc}
use Rattle.arena.specs.LiveLaws.{capacity_few, capacity_room}
use Rattle.format.specs.Limits.{node_words, max_nodes, capacity}
use Rattle.rules.specs.Call.{simplified_answer, words_after}
use Rattle.simplifier.specs.Replies.{simplify_reply}
use Rattle.file.specs.Bytes.{number_at, number_of_rest, number_of_front}
use Rattle.file.specs.File.{program_words, head_bytes, word_bytes, node_bytes, count_of, root_of, head_of, words_from, laid, bad_reply, file_reply, words_after_file}
use Rattle.file.specs.declared.Head.{Head}

-- THE HEAD

not_bad : (b : Bool) (other : Option Head) (head : Head) → cond b other None ≡ Some head → (b ≡ true) × (other ≡ Some head)
not_bad true other head e = (refl, e)
not_bad false other head e = cc

cond_same : (b : Bool) → cond {A = Option Head} b None None ≡ None
cond_same true = refl
cond_same false = refl

pub short_file : (bytes : List ℕ) (most : ℕ) → length bytes < head_bytes → None ≡ head_of bytes most
unfolding head_of
short_file bytes most h = rw (ne_eqb (length bytes) (head_bytes + node_bytes * count_of bytes) (λ e. omega arith)) (sym (cond_same (leb (count_of bytes) most)))

-- the tests of a head, one after the other, once its word is read
module _ (bytes chunk : List ℕ) (most word : ℕ) (first : IsFirstChunk bytes chunk head_bytes) (read : word ≡ number_at chunk 0 head_bytes) where
  same_word : number_at bytes 0 head_bytes ≡ word
  same_word = sym (read ∙ ap (λ (bs : List ℕ). number_at bs 0 head_bytes) first.same ∙ number_of_front bytes head_bytes 0 head_bytes (omega arith))

  pub count_too_large : most < word / 2 ^ 32 → None ≡ head_of bytes most
  unfolding head_of
  count_too_large h = rw (same_word, lt-leb (word / 2 ^ 32) most h)

  pub other_length : word / 2 ^ 32 ≤ most → ((length bytes ≡ head_bytes + node_bytes * (word / 2 ^ 32)) → ⊥) → None ≡ head_of bytes most
  unfolding head_of
  other_length h n = rw (same_word, le-leb (word / 2 ^ 32) most h, ne_eqb (length bytes) (head_bytes + node_bytes * (word / 2 ^ 32)) n)

  pub whole_file : word / 2 ^ 32 ≤ most → length bytes ≡ head_bytes + node_bytes * (word / 2 ^ 32) → Some (record { count = word / 2 ^ 32; root = word % 2 ^ 32 }) ≡ head_of bytes most
  unfolding head_of
  whole_file h e = rw (same_word, le-leb (word / 2 ^ 32) most h, eq-eqb (length bytes) (head_bytes + node_bytes * (word / 2 ^ 32)) e)

-- what a head is read by
pub ruleset head_tests = (short_file, count_too_large, other_length, whole_file)

-- and by the count that the bytes have
module _ (bytes : List ℕ) (most : ℕ) where
  pub many_nodes : most < count_of bytes → head_of bytes most ≡ None
  unfolding head_of
  many_nodes h = rw (lt-leb (count_of bytes) most h)

  pub another_length : count_of bytes ≤ most → ((length bytes ≡ head_bytes + node_bytes * count_of bytes) → ⊥) → head_of bytes most ≡ None
  unfolding head_of
  another_length h n = rw (le-leb (count_of bytes) most h, ne_eqb (length bytes) (head_bytes + node_bytes * count_of bytes) n)

  pub whole_of_count : count_of bytes ≤ most → length bytes ≡ head_bytes + node_bytes * count_of bytes →
      head_of bytes most ≡ Some (record { count = count_of bytes; root = root_of bytes })
  unfolding head_of
  whole_of_count h e = rw (le-leb (count_of bytes) most h, eq-eqb (length bytes) (head_bytes + node_bytes * count_of bytes) e)

good_file : (bytes : List ℕ) (most : ℕ) (head : Head) → head_of bytes most ≡ Some head → (head.count ≤ most) × (length bytes ≡ head_bytes + node_bytes * head.count)
unfolding head_of
good_file bytes most head e =
    let within = not_bad (leb (count_of bytes) most) _ head e in
    let whole = not_bad (eqb (length bytes) (head_bytes + node_bytes * count_of bytes)) _ head within.1 in
    let nodes = whole.1 in
    let same : count_of bytes ≡ head.count = cc in
    (rw (← same) (leb-true (count_of bytes) most within.0), rw (← same) (eqb-true (length bytes) (head_bytes + node_bytes * count_of bytes) whole.0))

-- a good file has all its words and no more, and the arena has room for them
pub file_fits : (bytes : List ℕ) (len : ℕ) (head : Head) → head_of bytes (capacity len) ≡ Some head →
    (head.count ≤ max_nodes) × (length bytes ≡ head_bytes + word_bytes * (node_words * head.count)) × (node_words * head.count ≤ len)
file_fits bytes len head e =
    let g = good_file bytes (capacity len) head e in
    (capacity_few len head.count g.0, omega (arith, g.1), capacity_room len head.count g.0)

-- THE WORDS

-- the bytes of a chunk
chunk_at : (size count k : ℕ) (bytes : List ℕ) → k < count → get_or (first_chunks size count bytes) k [] ≡ take size (drop (size * k) bytes)
chunk_at size zero k bytes h = absurd (omega arith)
chunk_at size (suc count) zero bytes h = let e : size * 0 ≡ 0 = omega arith in rw e
chunk_at size (suc count) (suc k) bytes h =
    let e : size + size * k ≡ size * suc k = omega arith in
    chunk_at size count k (drop size bytes) (omega arith) ∙ ap (take size) (drop-drop (size * k) size bytes) ∙ ap (λ (n : ℕ). take size (drop n bytes)) e

-- the number in a chunk
chunk_number : (size count k : ℕ) (bytes : List ℕ) → k < count → number_at (get_or (first_chunks size count bytes) k []) 0 size ≡ number_at bytes (size * k) size
chunk_number size count k bytes h =
    ap (λ (chunk : List ℕ). number_at chunk 0 size) (chunk_at size count k bytes h)
    ∙ number_of_front (drop (size * k) bytes) size 0 size (omega arith)
    ∙ number_of_rest bytes (size * k) 0 size
    ∙ ap (λ (at : ℕ). number_at bytes at size) (add-zero (size * k))

module _ (bytes : List ℕ) where
  length_words : (at n : ℕ) → length (words_from bytes at n) ≡ n
  unfolding words_from
  length_words at zero = refl
  length_words at (suc n) = ap suc (length_words (at + word_bytes) n)

  words_snoc : (at n : ℕ) → words_from bytes at (suc n) ≡ words_from bytes at n ++ (number_at bytes (at + word_bytes * n) word_bytes ∷ [])
  unfolding words_from
  words_snoc at zero = let e : at + word_bytes * 0 ≡ at = omega arith in rw e
  words_snoc at (suc n) =
      let e : at + word_bytes * suc n ≡ at + word_bytes + word_bytes * n = omega arith in
      rw (words_snoc (at + word_bytes) n, e)

  -- words laid one after the other, from any byte on
  module _ (at : ℕ) (words : List ℕ) where
    pub laid_none : words ≡ words_from bytes at 0 ++ drop 0 words
    unfolding words_from
    laid_none = refl

    pub laid_more : (after : List ℕ) (k word : ℕ) → k < length words → after ≡ words_from bytes at k ++ drop k words → word ≡ number_at bytes (at + word_bytes * k) word_bytes →
        set after k word ≡ words_from bytes at (k + 1) ++ drop (k + 1) words
    laid_more after k word h e q =
        rw (e, q, add-one, drop-cons words k 0, words_snoc)
        (set_at (words_from bytes at k) (get_or words k 0) (drop (suc k) words) (number_at bytes (at + word_bytes * k) word_bytes) k (length_words at k)
        ∙ sym (append_snoc (words_from bytes at k) (number_at bytes (at + word_bytes * k) word_bytes) (drop (suc k) words)))

  -- words laid one after the other: those behind the head, which is a word itself
  module _ (words : List ℕ) where
    pub lay_none : words ≡ words_from bytes head_bytes 0 ++ drop 0 words
    unfolding words_from
    lay_none = refl

    pub lay_more : (after : List ℕ) (k word : ℕ) → k < length words → length bytes ≡ head_bytes + word_bytes * length words → after ≡ words_from bytes head_bytes k ++ drop k words →
        word ≡ number_at (get_or (first_chunks word_bytes (length bytes / word_bytes) bytes) (k + 1) []) 0 word_bytes →
        set after k word ≡ words_from bytes head_bytes (k + 1) ++ drop (k + 1) words
    lay_more after k word h whole e q =
        let at : word_bytes * (k + 1) ≡ head_bytes + word_bytes * k = omega arith in
        let number = number_at bytes (head_bytes + word_bytes * k) word_bytes in
        let same = q ∙ chunk_number word_bytes (length bytes / word_bytes) (k + 1) bytes (omega arith) ∙ ap (λ (from : ℕ). number_at bytes from word_bytes) at in
        rw (e, same, add-one, drop-cons words k 0, words_snoc)
        (set_at (words_from bytes head_bytes k) (get_or words k 0) (drop (suc k) words) number k (length_words head_bytes k)
        ∙ sym (append_snoc (words_from bytes head_bytes k) number (drop (suc k) words)))

-- THE ANSWER

module _ (bytes words : List ℕ) where
  pub bad_answer : head_of bytes (capacity (length words)) ≡ None → (bad_reply ≡ file_reply bytes words) × (words ≡ words_after_file bytes words)
  bad_answer e = (rw e, rw e)

  pub good_answer : (head : Head) (over : List ℕ) (n : ℕ) → head_of bytes (capacity (length words)) ≡ Some head → over ≡ words_from bytes head_bytes n → n ≡ node_words * head.count →
      simplify_reply (simplified_answer (over ++ drop (node_words * head.count) words) head.count head.root) head.count ≡ file_reply bytes words
  good_answer head over n e f s = rw (e, f, s) refl

  pub good_left : (head : Head) (over : List ℕ) (n : ℕ) → head_of bytes (capacity (length words)) ≡ Some head → over ≡ words_from bytes head_bytes n → n ≡ node_words * head.count →
      words_after (over ++ drop (node_words * head.count) words) head.count head.root ≡ words_after_file bytes words
  good_left head over n e f s = rw (e, f, s) refl

module _ (bytes words : List ℕ) where
  pub answered_laid : (head : Head) → head_of bytes (capacity (length words)) ≡ Some head → (over : List ℕ) → over ≡ laid bytes head.count words →
      (simplify_reply (simplified_answer over head.count head.root) head.count ≡ file_reply bytes words)
      × (words_after over head.count head.root ≡ words_after_file bytes words)
  answered_laid head e over f = (rw (e, f), rw (e, f))

-- what a file is answered by
pub ruleset answers = (file_fits, length-take-le, good_answer, good_left)

-- THE PROGRAM

pub program_capacity : capacity program_words ≡ 2048
program_capacity = refl

zeros_left : (n m : ℕ) → drop {A = ℕ} n (replicate m 0) ≡ replicate (m - n) 0
zeros_left zero m = simp unary_clauses refl
zeros_left (suc n) zero = let e : 0 - suc n ≡ 0 = omega arith in rw e
zeros_left (suc n) (suc m) = simp unary_clauses (zeros_left n m)

-- the file's words are followed by zeros
pub program_laid : (bytes : List ℕ) (count : ℕ) → laid bytes count (replicate program_words 0) ≡ words_from bytes head_bytes (node_words * count) ++ replicate (program_words - node_words * count) 0
program_laid bytes count = ap (λ (zeros : List ℕ). words_from bytes head_bytes (node_words * count) ++ zeros) (zeros_left (node_words * count) program_words)
