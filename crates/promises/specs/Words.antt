-- What simplify leaves, word by word: the words that it keeps, appends and clears. Assumes nothing.
use Rattle.std.specs.Prelude.{List, [], ◌∷◌, ◌++◌, ◌≡◌, refl, ℕ, zero, suc, ◌+◌, ◌-◌, ◌*◌, ◌^◌, ◌≤◌, ◌<◌, length, get_or, take, drop, replicate}
use Rattle.std.proofs.Common.{ap, ◌∙◌, subst, arith, length-append, length-drop, length-take-le, get_or-take, get_or-drop, get_or-append-add}
use Rattle.std.proofs.lemmas.List.{length-replicate, get_or-replicate}
use Rattle.std.proofs.Math.ListN.{get_or-append}
use Rattle.format.specs.Limits.{node_words, capacity, header_at, payload_at}
use Rattle.format.specs.Nodes.{header_of, payload_of}
use Rattle.format.specs.declared.Node.{Node}
use Rattle.rules.specs.Call.{words_of, appended_words, cleared_words}
use Rattle.rules.specs.Run.{Out}
use Rattle.tree.specs.Arena.{at}

-- as the words of a slice of u64 are
abbrev pub Words64 : List ℕ → Type 0
Words64 words = (k : ℕ) → get_or words k 0 < 2 ^ 64

-- A LIST OF THREE PARTS, the first of p and the second of q words

module _ (a b c : List ℕ) (p q : ℕ) (first : length a ≡ p) (second : length b ≡ q) where
  length_parts : length (a ++ (b ++ c)) ≡ p + (q + length c)
  length_parts = length-append a (b ++ c) ∙ rw (length-append b c, first, second)

  in_first : (k : ℕ) → k < p → get_or (a ++ (b ++ c)) k 0 ≡ get_or a k 0
  in_first k h = get_or-append a (b ++ c) 0 k (rw first h)

  in_second : (k : ℕ) → k < q → get_or (a ++ (b ++ c)) (p + k) 0 ≡ get_or b k 0
  in_second k h =
      subst (λ (n : ℕ). get_or (a ++ (b ++ c)) (n + k) 0 ≡ get_or (b ++ c) k 0) first (get_or-append-add a (b ++ c) k 0)
      ∙ get_or-append b c 0 k (rw second h)

  in_third : (k : ℕ) → get_or (a ++ (b ++ c)) (p + (q + k)) 0 ≡ get_or c k 0
  in_third k =
      subst (λ (n : ℕ). get_or (a ++ (b ++ c)) (n + (q + k)) 0 ≡ get_or (b ++ c) (q + k) 0) first (get_or-append-add a (b ++ c) (q + k) 0)
      ∙ subst (λ (n : ℕ). get_or (b ++ c) (n + k) 0 ≡ get_or c k 0) second (get_or-append-add b c k 0)

-- THE WORDS OF NODES

length-words_of : (nodes : List Node) → length (words_of nodes) ≡ node_words * length nodes
length-words_of [] = refl
length-words_of (node ∷ nodes) = omega (arith, length-words_of nodes)

header_of_nodes : (nodes : List Node) (i : ℕ) → i < length nodes → header_at (words_of nodes) i ≡ header_of (at nodes i)
header_of_nodes [] i h = absurd (omega arith)
header_of_nodes (node ∷ nodes) zero h = refl
header_of_nodes (node ∷ nodes) (suc i) h =
    let e : node_words * suc i ≡ suc (suc (node_words * i)) = omega arith in
    rw e (header_of_nodes nodes i (omega arith))

payload_of_nodes : (nodes : List Node) (i : ℕ) → i < length nodes → payload_at (words_of nodes) i ≡ payload_of (at nodes i)
payload_of_nodes [] i h = absurd (omega arith)
payload_of_nodes (node ∷ nodes) zero h = refl
payload_of_nodes (node ∷ nodes) (suc i) h =
    let e : node_words * suc i + 1 ≡ suc (suc (node_words * i + 1)) = omega arith in
    rw e (payload_of_nodes nodes i (omega arith))

-- DONE: o is where the run ended, and its nodes fit

module _ (words : List ℕ) (count : ℕ) (o : Out) (grown : count ≤ length o.arena) (room : node_words * length o.arena ≤ length words) where
  abbrev m : ℕ
  m = length o.arena

  abbrev after : List ℕ
  after = appended_words words count o

  abbrev new : List Node
  new = drop count o.arena

  first : length (take (node_words * count) words) ≡ node_words * count
  first = length-take-le (node_words * count) words (omega arith)

  second : length (words_of new) ≡ node_words * (m - count)
  second = length-words_of new ∙ ap (λ (n : ℕ). node_words * n) (length-drop count o.arena)

  pub appended_length : length after ≡ length words
  appended_length =
      length_parts (take (node_words * count) words) (words_of new) (drop (node_words * m) words) _ _ first second
      ∙ omega (arith, length-drop (node_words * m) words)

  pub appended_keeps : (k : ℕ) → k < node_words * count → get_or after k 0 ≡ get_or words k 0
  appended_keeps k h =
      in_first (take (node_words * count) words) (words_of new) (drop (node_words * m) words) _ _ first second k h
      ∙ get_or-take (node_words * count) words k 0 h

  pub appended_leaves : (k : ℕ) → node_words * m ≤ k → get_or after k 0 ≡ get_or words k 0
  appended_leaves k h =
      let e : k ≡ node_words * count + (node_words * (m - count) + (k - node_words * m)) = omega arith in
      let d : node_words * m + (k - node_words * m) ≡ k = omega arith in
      ap (λ (n : ℕ). get_or after n 0) e
      ∙ in_third (take (node_words * count) words) (words_of new) (drop (node_words * m) words) _ _ first second (k - node_words * m)
      ∙ get_or-drop (node_words * m) words (k - node_words * m) 0
      ∙ ap (λ (n : ℕ). get_or words n 0) d

  module _ (i : ℕ) (from : count ≤ i) (to : i < m) where
    place : count + (i - count) ≡ i
    place = omega arith

    inside : i - count < length new
    inside = omega (arith, length-drop count o.arena)

    new_node : at new (i - count) ≡ at o.arena i
    new_node = get_or-drop count o.arena (i - count) Node.Top ∙ ap (at o.arena) place

    pub appended_header : header_at after i ≡ header_of (at o.arena i)
    appended_header =
        let e : node_words * i ≡ node_words * count + node_words * (i - count) = omega arith in
        ap (λ (n : ℕ). get_or after n 0) e
        ∙ in_second (take (node_words * count) words) (words_of new) (drop (node_words * m) words) _ _ first second (node_words * (i - count)) (omega arith)
        ∙ header_of_nodes new (i - count) inside
        ∙ ap header_of new_node

    pub appended_payload : payload_at after i ≡ payload_of (at o.arena i)
    appended_payload =
        let e : node_words * i + 1 ≡ node_words * count + (node_words * (i - count) + 1) = omega arith in
        ap (λ (n : ℕ). get_or after n 0) e
        ∙ in_second (take (node_words * count) words) (words_of new) (drop (node_words * m) words) _ _ first second (node_words * (i - count) + 1) (omega arith)
        ∙ payload_of_nodes new (i - count) inside
        ∙ ap payload_of new_node

-- NO ROOM: the words of the nodes from the count to the capacity are zero

module _ (words : List ℕ) (count : ℕ) (fits : count ≤ capacity (length words)) (room : node_words * capacity (length words) ≤ length words) where
  abbrev end : ℕ
  end = node_words * capacity (length words)

  abbrev cleared : List ℕ
  cleared = cleared_words words count

  kept_part : length (take (node_words * count) words) ≡ node_words * count
  kept_part = length-take-le (node_words * count) words (omega arith)

  zero_part : length (replicate {A = ℕ} (end - node_words * count) 0) ≡ end - node_words * count
  zero_part = length-replicate (end - node_words * count) 0

  pub cleared_length : length cleared ≡ length words
  cleared_length =
      length_parts (take (node_words * count) words) (replicate (end - node_words * count) 0) (drop end words) _ _ kept_part zero_part
      ∙ omega (arith, length-drop end words)

  pub cleared_keeps : (k : ℕ) → k < node_words * count → get_or cleared k 0 ≡ get_or words k 0
  cleared_keeps k h =
      in_first (take (node_words * count) words) (replicate (end - node_words * count) 0) (drop end words) _ _ kept_part zero_part k h
      ∙ get_or-take (node_words * count) words k 0 h

  pub cleared_zero : (k : ℕ) → node_words * count ≤ k → k < end → get_or cleared k 0 ≡ 0
  cleared_zero k from to =
      let e : k ≡ node_words * count + (k - node_words * count) = omega arith in
      ap (λ (n : ℕ). get_or cleared n 0) e
      ∙ in_second (take (node_words * count) words) (replicate (end - node_words * count) 0) (drop end words) _ _ kept_part zero_part (k - node_words * count) (omega arith)
      ∙ get_or-replicate (end - node_words * count) (k - node_words * count) 0 0 (omega arith)

  pub cleared_leaves : (k : ℕ) → end ≤ k → get_or cleared k 0 ≡ get_or words k 0
  cleared_leaves k h =
      let e : k ≡ node_words * count + ((end - node_words * count) + (k - end)) = omega arith in
      let d : end + (k - end) ≡ k = omega arith in
      ap (λ (n : ℕ). get_or cleared n 0) e
      ∙ in_third (take (node_words * count) words) (replicate (end - node_words * count) 0) (drop end words) _ _ kept_part zero_part (k - end)
      ∙ get_or-drop end words (k - end) 0
      ∙ ap (λ (n : ℕ). get_or words n 0) d
