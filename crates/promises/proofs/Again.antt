-- Simplifying what was simplified returns the same root and appends nothing, wherever it lies. Assumes nothing.
use Rattle.std.specs.Prelude.{List, ◌≡◌, refl, ℕ, ◌+◌, ◌*◌, ◌≤◌, ◌<◌, length, get_or, Ok}
use Rattle.std.proofs.Common.{ap, ap₂, sym, ◌∙◌, le_refl, arith, take-append-drop, drop_of_length-le}
use Rattle.arena.specs.Live.{Good, tree_of}
use Rattle.arena.specs.LiveLaws.{live_ordered, in_arena}
use Rattle.format.specs.Limits.{node_words, capacity}
use Rattle.format.specs.Nodes.{node_of, header_of, payload_of}
use Rattle.formed.specs.LiveOfChecked.{live_of_checked, checked_of_live}
use Rattle.formed.specs.Lines.{checked_exactly}
use Rattle.promises.proofs.Answers.{simplified_exactly}
use Rattle.promises.proofs.Check.{admitted_after, passes_after}
use Rattle.promises.specs.After.{DoneCall}
use Rattle.promises.proofs.After.{live_after, tree_after, words64_after}
use Rattle.promises.specs.Words.{Words64}
use Rattle.rules.specs.Call.{ran_on, appended_words, simplified_answer, words_after, done}
use Rattle.rules.specs.Run.{Out, out, weight}
use Rattle.theory.specs.Normal.{Normal}
use Rattle.theory.proofs.Reduced.{reduced_normal}
use Rattle.theory.specs.Simulation.{run_on_normal}
use Rattle.tree.specs.Arena.{node_at, nodes_of}
use Rattle.tree.specs.ArenaLaws.{length-nodes_of, nodes_of_cong}
use Rattle.tree.specs.Form.{checked}

-- nothing appended leaves the words as they were
nothing_appended : (words : List ℕ) (count root : ℕ) → appended_words words count (out (nodes_of count words) root) ≡ words
nothing_appended words count root =
    rw (drop_of_length-le (nodes_of count words) {i = count} (rw (length-nodes_of count words) (le_refl count)), length-nodes_of count words)
    (take-append-drop (node_words * count) words)

-- A NORMAL TREE is handed back as it is
module _ (words : List ℕ) (count root : ℕ) (words64 : Words64 words) (passed : checked words count root ≡ Ok tt) (normal : Normal (tree_of count words root)) where
  ran_nowhere : ran_on words count root ≡ out (nodes_of count words) root
  ran_nowhere =
      let a = live_of_checked words count words64 root passed in
      run_on_normal (nodes_of count words) (live_ordered a.live) (weight (tree_of count words root)) root (in_arena a.live root a.root_below) normal

  pub normal_answer : simplified_answer words count root ≡ done root count
  normal_answer =
      let p = (checked_exactly words count root (Ok tt)).0 passed in
      (simplified_exactly words count root (done root count)).1
      (record {
        passing = p;
        enough = p.room;
        root_is = ap (λ (o : Out). o.index) ran_nowhere;
        count_is = ap (λ (o : Out). length o.arena) ran_nowhere ∙ length-nodes_of count words;
      })

  pub normal_words : words_after words count root ≡ words
  unfolding words_after
  normal_words = rw (normal_answer, ran_nowhere) (nothing_appended words count root)

module _ {words : List ℕ} {count root root' m : ℕ} (call : DoneCall words count root root' m) where
  -- a simplified tree in any words
  module _ (other : List ℕ) (n i : ℕ) (words64 : Words64 other) (passed : checked other n i ≡ Ok tt)
      (same : tree_of n other i ≡ tree_of m (words_after words count root) root') where
    normal_there : Normal (tree_of n other i)
    normal_there = rw (same, tree_after call) (reduced_normal (tree_of count words root))

    -- DEMAND 3: simplifying it again returns the same root and appends nothing
    pub stays_anywhere : simplified_answer other n i ≡ done i n
    stays_anywhere = normal_answer other n i words64 passed normal_there

    pub words_stay_anywhere : words_after other n i ≡ other
    words_stay_anywhere = normal_words other n i words64 passed normal_there

  -- DEMAND 3: so does simplifying the result again
  pub again_answer : simplified_answer (words_after words count root) m root' ≡ done root' m
  again_answer = stays_anywhere (words_after words count root) m root' (words64_after call) (passes_after call) refl

  pub again_words : words_after (words_after words count root) m root' ≡ words_after words count root
  again_words = words_stay_anywhere (words_after words count root) m root' (words64_after call) (passes_after call) refl

  -- the result at the head of another slice, with more room or less
  module _ (other : List ℕ) (words64 : Words64 other) (room : m ≤ capacity (length other))
      (head : (k : ℕ) → k < node_words * m → get_or other k 0 ≡ get_or (words_after words count root) k 0) where
    node_same : (j : ℕ) → j < m → node_at other j ≡ node_at (words_after words count root) j
    node_same j h = ap₂ node_of (head (node_words * j) (omega arith)) (head (node_words * j + 1) (omega arith))

    nodes_same : nodes_of m other ≡ nodes_of m (words_after words count root)
    nodes_same = nodes_of_cong m (words_after words count root) other node_same

    good_there : (j : ℕ) → j < m → Good other j
    good_there j h =
        let g = (live_after call).good j h in
        record {
          header_is = ap header_of (node_same j h) ∙ g.header_is ∙ sym (head (node_words * j) (omega arith));
          payload_is = ap payload_of (node_same j h) ∙ g.payload_is ∙ sym (head (node_words * j + 1) (omega arith));
          below = rw (node_same j h) g.below;
        }

    passes_there : checked other m root' ≡ Ok tt
    passes_there =
        let a = admitted_after call in
        checked_of_live (record {
          live = record { room = room; good = good_there; sized = λ j h. rw nodes_same ((live_after call).sized j h) };
          root_below = a.root_below;
          few_nodes = rw nodes_same a.few_nodes;
          short_path = rw nodes_same a.short_path;
        })

    same_there : tree_of m other root' ≡ tree_of m (words_after words count root) root'
    same_there = rw nodes_same

    pub again_in_any_slice : simplified_answer other m root' ≡ done root' m
    again_in_any_slice = stays_anywhere other m root' words64 passes_there same_there

    pub again_words_in_any_slice : words_after other m root' ≡ other
    again_words_in_any_slice = words_stay_anywhere other m root' words64 passes_there same_there
