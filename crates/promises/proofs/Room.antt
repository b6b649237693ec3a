-- Every word after a call of simplify: refusals leave all, no room clears the free ones, done appends. Assumes nothing.
use Rattle.std.specs.Prelude.{List, ◌≡◌, refl, ℕ, ◌+◌, ◌*◌, ◌^◌, ◌<◌, length, get_or, drop, Err, Ok}
use Rattle.std.proofs.Math.Decide.{dec_lt}
use Rattle.std.proofs.Common.{le_refl, arith, length-drop}
use Rattle.arena.specs.LiveLaws.{capacity_room}
use Rattle.format.specs.Limits.{node_words, capacity}
use Rattle.promises.proofs.Answers.{simplified_exactly}
use Rattle.promises.specs.After.{DoneCall}
use Rattle.promises.proofs.After.{fitted, grown, room, after_is, after_length, after_kept, header_new, payload_new, words64_after}
use Rattle.promises.specs.Words.{Words64, appended_leaves, cleared_length, cleared_keeps, cleared_zero, cleared_leaves}
use Rattle.rules.specs.Call.{ran_on, simplified_answer, words_after, SimplifiedAnswer}
use Rattle.rules.specs.declared.SimplifyError.{SimplifyError}
use Rattle.promises.specs.Room.{Appended, Cleared, refused_alters_nothing}

-- DEMAND 1: after "no room" the free words are zero
pub no_room_clears : (words : List ℕ) (count root : ℕ) → simplified_answer words count root ≡ Err SimplifyError.NoRoom →
    Cleared words (words_after words count root) count
unfolding words_after
no_room_clears words count root e =
    let fits = ((simplified_exactly words count root (Err SimplifyError.NoRoom)).0 e).0.room in
    let inside = capacity_room (length words) (capacity (length words)) (le_refl (capacity (length words))) in
    rw e (record {
      same_length = cleared_length words count fits inside;
      kept = cleared_keeps words count fits inside;
      zero_between = cleared_zero words count fits inside;
      past = cleared_leaves words count fits inside;
    })

-- 01, contracts: one possible content for every lent word, placement of new nodes included
pub done_appends : {words : List ℕ} {count root root' m : ℕ} → DoneCall words count root root' m → Appended words (words_after words count root) count root m
done_appends {words} {count} {root} {root'} {m} call =
    let total = (fitted call).count_is in
    record {
      same_length = after_length call;
      no_fewer = rw (← total) (grown call);
      kept = after_kept call;
      header_is = λ i from to. header_new call i from (rw total to);
      payload_is = λ i from to. payload_new call i from (rw total to);
      later = λ k h. rw (after_is call) (appended_leaves words count (ran_on words count root) (grown call) (room call) k (rw total h));
    }

-- 01, contracts: the count is the old one and the nodes that the rules append
pub done_count : {words : List ℕ} {count root root' m : ℕ} → DoneCall words count root root' m → m ≡ count + length (drop count (ran_on words count root).arena)
done_count {words} {count} {root} call =
    omega (arith, (fitted call).count_is, grown call, length-drop count (ran_on words count root).arena)

-- whatever the answer, the words are of 64 bits again
cleared_words64 : (words after : List ℕ) (count : ℕ) → Cleared words after count → Words64 words → Words64 after
cleared_words64 words after count c words64 k = go (dec_lt k (node_words * count)) (dec_lt k (node_words * capacity (length words)))
  where
    go : Dec (k < node_words * count) → Dec (k < node_words * capacity (length words)) → get_or after k 0 < 2 ^ 64
    go (yes old) d = rw (c.kept k old) (words64 k)
    go (no free) (yes inside) = rw (c.zero_between k (omega arith) inside) (omega arith)
    go (no free) (no out) = rw (c.past k (omega arith)) (words64 k)

pub words64_always : (words : List ℕ) (count root : ℕ) → Words64 words → Words64 (words_after words count root)
words64_always words count root words64 = by_answer (simplified_answer words count root) refl
  where
    by_answer : (answer : SimplifiedAnswer) → simplified_answer words count root ≡ answer → Words64 (words_after words count root)
    by_answer (Ok to) e = words64_after (record { words64 = words64; answer = e })
    by_answer (Err (SimplifyError.Refused refusal)) e = rw (refused_alters_nothing words count root refusal e) words64
    by_answer (Err SimplifyError.NoRoom) e = cleared_words64 words (words_after words count root) count (no_room_clears words count root e) words64
