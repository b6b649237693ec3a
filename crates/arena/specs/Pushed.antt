-- What storing a node's two words at the count leaves. Assumes nothing.
use Rattle.std.specs.Prelude.{List, [], ◌∷◌, ◌++◌, ◌≡◌, refl, ℕ, suc, ◌+◌, ◌*◌, ◌≤◌, ◌<◌, length, get_or, set}
use Rattle.std.proofs.Common.{ap, ap₂, sym, ◌∙◌, subst, arith, length-set, get_or-set_same, get_or-set_other}
use Rattle.std.proofs.Math.Decide.{dec_lt}
use Rattle.arena.specs.Ended.{Ended, Did}
use Rattle.arena.specs.Live.{Live, Good, New}
use Rattle.arena.specs.LiveLaws.{capacity_room, live_ordered, nodes_kept, good_kept, live_kept}
use Rattle.arena.specs.Step.{Step}
use Rattle.format.specs.Limits.{node_words, capacity, header_at, payload_at}
use Rattle.format.specs.Nodes.{node_of, header_of, payload_of}
use Rattle.format.proofs.NodesOfWords.{node_of_header}
use Rattle.format.specs.declared.Node.{Node}
use Rattle.rules.specs.Run.{append}
use Rattle.tree.specs.Arena.{node_at, nodes_of, tree_at, Below}
use Rattle.tree.specs.ArenaLaws.{length-nodes_of, length_appended, appended_extends, tree_stays, tree_appended}
use Rattle.tree.specs.Form.{Sized}

module _ (words : List ℕ) (count : ℕ) (live : Live words count) (node : Node) (new : New (nodes_of count words) node) where
  -- without room nothing is stored
  pub not_pushed : capacity (length words) ≤ count → Ended words words count (append node (nodes_of count words)) Step.NoRoom
  not_pushed full = record {
    same_length = refl;
    kept = λ k h. refl;
    past = λ k h. refl;
    ran = omega (arith, length_appended (nodes_of count words) node, length-nodes_of count words);
  }

  module _ (room : count < capacity (length words)) where
    abbrev half : List ℕ
    half = set words (node_words * count) (header_of node)

    abbrev after : List ℕ
    after = set half (node_words * count + 1) (payload_of node)

    inside : node_words * count + 1 < length words
    inside = omega (arith, capacity_room (length words) (count + 1) (omega arith))

    other : (k : ℕ) → (k ≡ node_words * count → ⊥) → (k ≡ node_words * count + 1 → ⊥) → get_or after k 0 ≡ get_or words k 0
    other k p q =
        get_or-set_other half (node_words * count + 1) k (payload_of node) 0 (λ e. q e)
        ∙ get_or-set_other words (node_words * count) k (header_of node) 0 (λ e. p e)

    same_length : length after ≡ length words
    same_length = simp length-set

    header_stored : header_at after count ≡ header_of node
    header_stored =
        get_or-set_other half (node_words * count + 1) (node_words * count) (payload_of node) 0 (omega arith)
        ∙ get_or-set_same words (node_words * count) (header_of node) 0 (omega (arith, inside))

    payload_stored : payload_at after count ≡ payload_of node
    payload_stored = get_or-set_same half (node_words * count + 1) (payload_of node) 0 (simp length-set inside)

    node_stored : node_at after count ≡ node
    node_stored = ap₂ node_of header_stored payload_stored ∙ node_of_header node new.narrow

    kept : (k : ℕ) → k < node_words * count → get_or after k 0 ≡ get_or words k 0
    kept k h = other k (λ e. omega arith) (λ e. omega arith)

    -- after the first word the arena is as it was
    pub half_live : Live half count
    half_live =
        live_kept live half (simp length-set) (λ k h. get_or-set_other words (node_words * count) k (header_of node) 0 (λ e. omega arith))

    nodes_are : nodes_of (suc count) after ≡ nodes_of count words ++ node ∷ []
    nodes_are = ap₂ (λ (a : List Node) (n : Node). a ++ n ∷ []) (nodes_kept live after same_length kept) node_stored

    good_new : Good after count
    good_new = record {
      header_is = ap header_of node_stored ∙ sym header_stored;
      payload_is = ap payload_of node_stored ∙ sym payload_stored;
      below = rw node_stored (subst (λ (n : ℕ). Below n node) (length-nodes_of count words) new.below);
    }

    good : (i : ℕ) → i < suc count → Good after i
    good i h = go (dec_lt i count)
      where
        go : Dec (i < count) → Good after i
        go (yes p) = good_kept live after same_length kept i p
        go (no p) = let e : i ≡ count = omega arith in rw e good_new

    sized : (i : ℕ) → i < suc count → Sized (tree_at (nodes_of count words ++ node ∷ []) i)
    sized i h = go (dec_lt i count)
      where
        go : Dec (i < count) → Sized (tree_at (nodes_of count words ++ node ∷ []) i)
        go (yes p) =
            let b : i < length (nodes_of count words) = omega (arith, length-nodes_of count words) in
            rw (tree_stays (live_ordered live) (appended_extends (nodes_of count words) node) b) (live.sized i p)
        go (no p) =
            let e : length (nodes_of count words) ≡ i = omega (arith, length-nodes_of count words) in
            subst (λ (n : ℕ). Sized (tree_at (nodes_of count words ++ node ∷ []) n)) e
            (rw (tree_appended (nodes_of count words) node (live_ordered live) new.below) new.sized)

    did : Did words after (append node (nodes_of count words)) count (suc count)
    did = record {
      live = record { room = rw same_length room; good = good; sized = λ i h. rw nodes_are (sized i h) };
      nodes_are = nodes_are;
      root_is = sym (length-nodes_of count words);
      root_below = omega arith;
      later = λ k h. other k (λ e. omega arith) (λ e. omega arith);
    }

    pub pushed : Ended words after count (append node (nodes_of count words)) (Step.Done count (count + 1))
    pushed = record {
      same_length = same_length;
      kept = kept;
      past = λ k h. other k (λ e. omega arith) (λ e. omega arith);
      ran =
          let e : suc count ≡ count + 1 = omega arith in
          subst (λ (m : ℕ). Did words after (append node (nodes_of count words)) count m) e did;
    }
