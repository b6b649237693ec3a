-- What a call of simplify that was done leaves: the run's nodes, in words that are live and of 64 bits. Assumes nothing.
use Rattle.std.specs.Prelude.{List, ◌⊎◌, ◌≡◌, refl, ℕ, ◌+◌, ◌*◌, ◌/◌, ◌^◌, ◌≤◌, ◌<◌, length, get_or, Ok}
use Rattle.std.proofs.Common.{inl, inr, ap, ap₂, sym, ◌∙◌, arith, ext_get_or}
use Rattle.std.proofs.Math.Decide.{dec_lt}
use Rattle.arena.specs.Live.{Live, Good, tree_of}
use Rattle.arena.specs.LiveLaws.{capacity_room, capacity_few, live_ordered, in_arena}
use Rattle.format.specs.Limits.{node_words, capacity, header_at, payload_at}
use Rattle.format.specs.Nodes.{node_of, header_of, payload_of, Narrow}
use Rattle.format.proofs.NodesOfWords.{node_of_header}
use Rattle.format.specs.declared.Node.{Node}
use Rattle.formed.specs.LiveOfChecked.{Admitted, live_of_checked}
use Rattle.formed.specs.Lines.{checked_exactly}
use Rattle.promises.specs.Answers.{Fitted}
use Rattle.promises.proofs.Answers.{simplified_exactly}
use Rattle.promises.specs.Headers.{narrow_of_sized, header_word, second_or_first}
use Rattle.promises.specs.Words.{Words64, appended_length, appended_keeps, appended_leaves, appended_header, appended_payload}
use Rattle.rules.specs.Call.{ran_on, appended_words, words_after, done}
use Rattle.rules.specs.Run.{Out}
use Rattle.theory.specs.Simulation.{Stands}
use Rattle.theory.proofs.Simulation.{simplified_stands}
use Rattle.theory.specs.SizedRun.{Storable}
use Rattle.theory.proofs.SizedRun.{simplified_storable}
use Rattle.theory.specs.TreeRun.{reduced}
use Rattle.tree.specs.Arena.{node_at, nodes_of, at, tree_at}
use Rattle.tree.specs.ArenaLaws.{length-nodes_of, at-nodes_of, tree_eq}
use Rattle.tree.specs.Form.{checked}
use Rattle.promises.specs.After.{DoneCall}

-- with enough room a call on what passes the check is one
pub with_room : (words : List ℕ) (count root : ℕ) → Words64 words → checked words count root ≡ Ok tt →
    length (ran_on words count root).arena ≤ capacity (length words) →
    DoneCall words count root (ran_on words count root).index (length (ran_on words count root).arena)
with_room words count root words64 passes room = record {
  words64 = words64;
  answer =
      (simplified_exactly words count root (done (ran_on words count root).index (length (ran_on words count root).arena))).1
      (record { passing = (checked_exactly words count root (Ok tt)).0 passes; enough = room; root_is = refl; count_is = refl });
}

module _ {words : List ℕ} {count root root' m : ℕ} (call : DoneCall words count root root' m) where
  abbrev ran : Out
  ran = ran_on words count root

  abbrev after : List ℕ
  after = words_after words count root

  pub fitted : Fitted words count root root' m
  fitted = (simplified_exactly words count root (done root' m)).0 call.answer

  -- BEFORE

  pub admitted : Admitted words count root
  admitted = live_of_checked words count call.words64 root ((checked_exactly words count root (Ok tt)).1 fitted.passing)

  inside : root < length (nodes_of count words)
  inside = in_arena admitted.live root admitted.root_below

  storable_before : Storable (nodes_of count words)
  storable_before = record {
    sized = λ i h. admitted.live.sized i (omega (arith, length-nodes_of count words));
    payloads =
        λ i h. let b : i < count = omega (arith, length-nodes_of count words) in
        rw (at-nodes_of count words i b, (admitted.live.good i b).payload_is) (call.words64 (node_words * i + 1));
  }

  -- THE RUN

  pub stands : Stands (nodes_of count words) (reduced (tree_of count words root)) ran
  stands = simplified_stands (nodes_of count words) (live_ordered admitted.live) root inside

  storable : Storable ran.arena
  storable = simplified_storable (nodes_of count words) (live_ordered admitted.live) storable_before root inside

  pub grown : count ≤ length ran.arena
  grown = omega (arith, stands.extends.grown, length-nodes_of count words)

  pub room : node_words * length ran.arena ≤ length words
  room = capacity_room (length words) (length ran.arena) (rw fitted.count_is fitted.enough)

  narrow : (i : ℕ) → i < length ran.arena → Narrow (at ran.arena i)
  narrow i h =
      let few = capacity_few (length words) m fitted.enough in
      let total = fitted.count_is in
      narrow_of_sized (tree_at ran.arena) i (omega arith) (at ran.arena i) (stands.ordered i h)
      (rw (tree_eq ran.arena stands.ordered i h) at (storable.sized i h))

  -- AFTER

  pub after_is : words_after words count root ≡ appended_words words count ran
  unfolding words_after
  after_is = rw call.answer

  pub after_length : length (words_after words count root) ≡ length words
  after_length = rw after_is (appended_length words count ran grown room)

  pub after_kept : (k : ℕ) → k < node_words * count → get_or after k 0 ≡ get_or words k 0
  after_kept k h = rw after_is (appended_keeps words count ran grown room k h)

  module _ (i : ℕ) (from : count ≤ i) (to : i < length ran.arena) where
    pub header_new : header_at after i ≡ header_of (at ran.arena i)
    header_new = rw after_is (appended_header words count ran grown room i from to)

    pub payload_new : payload_at after i ≡ payload_of (at ran.arena i)
    payload_new = rw after_is (appended_payload words count ran grown room i from to)

    node_new : node_at after i ≡ at ran.arena i
    node_new = ap₂ node_of header_new payload_new ∙ node_of_header (at ran.arena i) (narrow i to)

    good_new : Good after i
    good_new = record {
      header_is = ap header_of node_new ∙ sym header_new;
      payload_is = ap payload_of node_new ∙ sym payload_new;
      below = rw node_new (stands.ordered i to);
    }

  module _ (i : ℕ) (b : i < count) where
    header_old : header_at after i ≡ header_at words i
    header_old = after_kept (node_words * i) (omega arith)

    payload_old : payload_at after i ≡ payload_at words i
    payload_old = after_kept (node_words * i + 1) (omega arith)

    node_old : node_at after i ≡ node_at words i
    node_old = ap₂ node_of header_old payload_old

    good_old : Good after i
    good_old =
        let g = admitted.live.good i b in
        record {
          header_is = ap header_of node_old ∙ g.header_is ∙ sym header_old;
          payload_is = ap payload_of node_old ∙ g.payload_is ∙ sym payload_old;
          below = rw node_old g.below;
        }

    node_there : node_at after i ≡ at ran.arena i
    node_there = node_old ∙ sym (at-nodes_of count words i b) ∙ sym (stands.extends.old i (in_arena admitted.live i b))

  node_after : (i : ℕ) → i < length ran.arena → node_at after i ≡ at ran.arena i
  node_after i h = go (dec_lt i count)
    where
      go : Dec (i < count) → node_at after i ≡ at ran.arena i
      go (yes b) = node_there i b
      go (no past) = node_new i (omega arith) h

  -- the nodes read off the words are the run's
  pub nodes_after : nodes_of m after ≡ ran.arena
  nodes_after =
      let total = fitted.count_is in
      ext_get_or Node.Top (nodes_of m after) ran.arena (length-nodes_of m after ∙ sym total)
      (λ i h. let b : i < m = omega (arith, length-nodes_of m after) in at-nodes_of m after i b ∙ node_after i (omega arith))

  good_after : (i : ℕ) → i < m → Good after i
  good_after i h = let total = fitted.count_is in go (dec_lt i count)
    where
      go : Dec (i < count) → Good after i
      go (yes b) = good_old i b
      go (no past) = good_new i (omega arith) (omega (arith, fitted.count_is))

  pub live_after : Live after m
  live_after = record {
    room = rw after_length fitted.enough;
    good = good_after;
    sized = λ i h. rw nodes_after (storable.sized i (omega (arith, fitted.count_is)));
  }

  -- and the tree under the new root is what the run makes of the tree
  pub tree_after : tree_of m after root' ≡ reduced (tree_of count words root)
  tree_after = rw (nodes_after, ← fitted.root_is) stands.is

  pub root_after : root' < m
  root_after = rw (← fitted.root_is, ← fitted.count_is) stands.bound

  -- they are words of 64 bits again: word k of the appended ones is node i's first or second
  module _ (k i : ℕ) (from : count ≤ i) (to : i < length ran.arena) where
    word_new : (k ≡ node_words * i + 1) ⊎ (k ≡ node_words * i) → get_or after k 0 < 2 ^ 64
    word_new (inl e) = rw (e, payload_new i from to) (storable.payloads i to)
    word_new (inr e) = rw (e, header_new i from to) (header_word (at ran.arena i) (narrow i to))

  word_after : (k : ℕ) → Dec (k < node_words * count) → Dec (k < node_words * length ran.arena) → get_or after k 0 < 2 ^ 64
  word_after k (yes old) d = rw (after_kept k old) (call.words64 k)
  word_after k (no past) (yes new) = word_new k (k / node_words) (omega arith) (omega arith) (second_or_first k)
  word_after k (no past) (no later) = rw (after_is, appended_leaves words count ran grown room k (omega arith)) (call.words64 k)

  pub words64_after : Words64 after
  words64_after k = word_after k (dec_lt k (node_words * count)) (dec_lt k (node_words * length ran.arena))
