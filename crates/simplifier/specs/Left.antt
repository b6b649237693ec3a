-- The words that the call leaves, from what the run leaves. Assumes nothing.
use Rattle.std.specs.Prelude.{true, List, [], ◌∷◌, ◌++◌, ◌≡◌, refl, ℕ, zero, suc, ◌+◌, ◌-◌, ◌*◌, ◌≤◌, ◌<◌, length, get_or, take, drop, replicate, Err, Ok, Result}
use Rattle.std.proofs.Common.{append_assoc, ap, ap₂, sym, ◌∙◌, arith, le-leb, length-take, length-drop, take-append-drop, take-take, take-suc, get_or-take, get_or-drop, ext_get_or}
use Rattle.std.proofs.lemmas.Bool.{lt-leb}
use Rattle.std.proofs.Math.Seq.{drop-nil}
use Rattle.arena.specs.Ended.{Ended}
use Rattle.arena.specs.Live.{Live}
use Rattle.arena.specs.LiveLaws.{capacity_room}
use Rattle.arena.specs.Step.{Step}
use Rattle.arena.specs.declared.NoRoom.{NoRoom}
use Rattle.format.specs.Limits.{node_words, capacity}
use Rattle.format.specs.Nodes.{header_of, payload_of}
use Rattle.format.specs.declared.Node.{Node}
use Rattle.rules.specs.Call.{words_of, fits, ended, appended_words, cleared_words, done}
use Rattle.rules.specs.Run.{Out}
use Rattle.rules.specs.declared.Simplified.{Simplified}
use Rattle.rules.specs.declared.SimplifyError.{SimplifyError}
use Rattle.simplifier.specs.Cleared.{cleared}
use Rattle.tree.specs.Arena.{node_at, nodes_of}
use Rattle.tree.specs.ArenaLaws.{length-nodes_of}

-- how a run has ended, by what the code has of it
abbrev pub step_to : Result Simplified NoRoom → Step
step_to (Ok to) = Step.Done to.root to.count
step_to (Err none) = Step.NoRoom

-- lists that agree up to n, and from n on
take_agree : (n : ℕ) (xs ys : List ℕ) → length xs ≡ length ys → ((k : ℕ) → k < n → get_or xs k 0 ≡ get_or ys k 0) → take n xs ≡ take n ys
take_agree n xs ys e h =
    ext_get_or 0 (take n xs) (take n ys) (simp length-take (rw e))
    (λ i b. let l : i < n = omega (arith, simp length-take at b) in get_or-take n xs i 0 l ∙ h i l ∙ sym (get_or-take n ys i 0 l))

drop_agree : (n : ℕ) (xs ys : List ℕ) → length xs ≡ length ys → ((k : ℕ) → n ≤ k → get_or xs k 0 ≡ get_or ys k 0) → drop n xs ≡ drop n ys
drop_agree n xs ys e h =
    ext_get_or 0 (drop n xs) (drop n ys) (simp length-drop (rw e))
    (λ i b. get_or-drop n xs i 0 ∙ h (n + i) (omega arith) ∙ sym (get_or-drop n ys i 0))

-- THE WORDS OF NODES

words_append : (xs ys : List Node) → words_of (xs ++ ys) ≡ words_of xs ++ words_of ys
words_append [] ys = refl
words_append (x ∷ xs) ys = ap (λ (r : List ℕ). header_of x ∷ payload_of x ∷ r) (words_append xs ys)

words_drop : (n : ℕ) (xs : List Node) → words_of (drop n xs) ≡ drop (node_words * n) (words_of xs)
words_drop zero xs = refl
words_drop (suc n) [] = sym (drop-nil (node_words * suc n))
words_drop (suc n) (x ∷ xs) =
    let e : node_words * suc n ≡ suc (suc (node_words * n)) = omega arith in
    words_drop n xs ∙ sym (ap (λ (k : ℕ). drop k (words_of (x ∷ xs))) e)

-- the words of an arena's nodes are its words
words_of_live : {words : List ℕ} {n : ℕ} → Live words n → (m : ℕ) → m ≤ n → words_of (nodes_of m words) ≡ take (node_words * m) words
words_of_live live zero h = refl
words_of_live {words} {n} live (suc m) h =
    let room = capacity_room (length words) n live.room in
    let g = live.good m (omega arith) in
    let e : node_words * suc m ≡ suc (suc (node_words * m)) = omega arith in
    let f : suc (node_words * m) ≡ node_words * m + 1 = omega arith in
    words_append (nodes_of m words) (node_at words m ∷ [])
    ∙ ap₂ ◌++◌ (words_of_live live m (omega arith)) (ap₂ (λ (x y : ℕ). x ∷ y ∷ []) g.header_is g.payload_is)
    ∙ sym (ap (λ (k : ℕ). take k words) e ∙ take-suc words (suc (node_words * m)) 0 (omega arith)
    ∙ ap₂ (λ (x : List ℕ) (k : ℕ). x ++ get_or words k 0 ∷ []) (take-suc words (node_words * m) 0 (omega arith)) f ∙ append_assoc (take (node_words * m) words) _ _)

-- DONE

module _ (words after : List ℕ) (count : ℕ) (o : Out) (root m : ℕ) (more : count ≤ m) (h : Ended words after count o (Step.Done root m)) where
  m_is : length o.arena ≡ m
  m_is = sym (ap length h.ran.nodes_are) ∙ length-nodes_of m after

  pub done_answer : done root m ≡ ended (fits words o) o
  done_answer =
      let room = h.ran.live.room in
      let ok : fits words o ≡ true = le-leb (length o.arena) (capacity (length words)) (rw (m_is, ← h.same_length) room) in
      rw ok (ap₂ done h.ran.root_is (sym m_is))

  pub done_words : after ≡ appended_words words count o
  done_words =
      let a = node_words * count in
      let b = node_words * m in
      sym (ap (λ (l : List ℕ). l ++ (words_of (drop count o.arena) ++ drop (node_words * length o.arena) words)) (sym (take_agree a after words h.same_length h.kept) ∙ sym (take-take a b after (omega arith)))
      ∙ ap (λ (l : List ℕ). take a (take b after) ++ (l ++ drop (node_words * length o.arena) words))
      (ap (λ (ns : List Node). words_of (drop count ns)) (sym h.ran.nodes_are) ∙ words_drop count (nodes_of m after) ∙ ap (drop a) (words_of_live h.ran.live m (omega arith)))
      ∙ ap (λ (l : List ℕ). take a (take b after) ++ (drop a (take b after) ++ l))
      (ap (λ (n : ℕ). drop (node_words * n) words) m_is ∙ sym (drop_agree b after words h.same_length h.ran.later))
      ∙ sym (append_assoc (take a (take b after)) (drop a (take b after)) (drop b after))
      ∙ ap (λ (l : List ℕ). l ++ drop b after) (take-append-drop a (take b after)) ∙ take-append-drop b after)

-- NO ROOM

module _ (words mid : List ℕ) (count : ℕ) (o : Out) (h : Ended words mid count o Step.NoRoom) where
  pub none_answer : Err SimplifyError.NoRoom ≡ ended (fits words o) o
  none_answer = rw (lt-leb (length o.arena) (capacity (length words)) h.ran)

  pub none_words : cleared mid (node_words * count) (node_words * capacity (length words)) ≡ cleared_words words count
  none_words =
      let end = node_words * capacity (length words) in
      ap₂ (λ (x y : List ℕ). x ++ (replicate (end - node_words * count) 0 ++ y)) (take_agree (node_words * count) mid words h.same_length h.kept)
      (drop_agree end mid words h.same_length h.past)
