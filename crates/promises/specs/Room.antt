-- Every word after a call of simplify: refusals leave all, no room clears the free ones, done appends. Assumes nothing.
-- The laws that rest on what an edit in must-fail/ changes are in proofs/Room.antt.
use Rattle.std.specs.Prelude.{List, ◌≡◌, refl, ℕ, ◌*◌, ◌≤◌, ◌<◌, length, get_or, Err, Ok}
use Rattle.format.specs.Limits.{node_words, capacity, header_at, payload_at}
use Rattle.format.specs.Nodes.{header_of, payload_of}
use Rattle.rules.specs.Call.{ran_on, simplified_answer, words_after, simplified_number, simplified_root, simplified_count, SimplifiedAnswer}
use Rattle.rules.specs.declared.SimplifyError.{SimplifyError}
use Rattle.tree.specs.Arena.{at}
use Rattle.tree.specs.Rows.{evaluated_number, evaluated_value, Evaluated}
use Rattle.tree.specs.declared.Refusal.{Refusal}

-- DEMAND 1: a refusal alters no word
pub refused_alters_nothing : (words : List ℕ) (count root : ℕ) (refusal : Refusal) → simplified_answer words count root ≡ Err (SimplifyError.Refused refusal) →
    words_after words count root ≡ words
unfolding words_after
refused_alters_nothing words count root refusal e = rw e

-- DEMAND 1: and neither a refusal nor no room moves the count; both return root 0, and a refused evaluation value 0
pub root_and_count : (answer : SimplifiedAnswer) (count : ℕ) → (simplified_number answer ≡ 0 → ⊥) → (simplified_root answer ≡ 0) × (simplified_count answer count ≡ count)
root_and_count (Ok to) count other = absurd (other refl)
root_and_count (Err (SimplifyError.Refused refusal)) count other = (refl, refl)
root_and_count (Err SimplifyError.NoRoom) count other = (refl, refl)

pub no_value : (answer : Evaluated) → (evaluated_number answer ≡ 0 → ⊥) → evaluated_value answer ≡ 0
no_value (Ok v) other = absurd (other refl)
no_value (Err error) other = refl

-- the words after no room: those of the old nodes and those past the capacity are kept, and those between are zero
pub record Cleared (words after : List ℕ) (count : ℕ) : Type 0 where
  pub same_length : length after ≡ length words
  pub kept : (k : ℕ) → k < node_words * count → get_or after k 0 ≡ get_or words k 0
  pub zero_between : (k : ℕ) → node_words * count ≤ k → k < node_words * capacity (length words) → get_or after k 0 ≡ 0
  pub past : (k : ℕ) → node_words * capacity (length words) ≤ k → get_or after k 0 ≡ get_or words k 0

-- the words after a done call: those of the old nodes and those past the new count are kept, and the run's nodes stand between
pub record Appended (words after : List ℕ) (count root m : ℕ) : Type 0 where
  pub same_length : length after ≡ length words
  pub no_fewer : count ≤ m
  pub kept : (k : ℕ) → k < node_words * count → get_or after k 0 ≡ get_or words k 0
  pub header_is : (i : ℕ) → count ≤ i → i < m → header_at after i ≡ header_of (at (ran_on words count root).arena i)
  pub payload_is : (i : ℕ) → count ≤ i → i < m → payload_at after i ≡ payload_of (at (ran_on words count root).arena i)
  pub later : (k : ℕ) → node_words * m ≤ k → get_or after k 0 ≡ get_or words k 0
