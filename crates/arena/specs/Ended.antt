-- What a function that appends leaves: every word below the old count and past the capacity is kept, and either the nodes are those of
-- the run and later words are kept, or the run has more nodes than fit. Assumes nothing: these are definitions.
use Rattle.std.specs.Prelude.{List, Result, Ok, Err, ◌≡◌, ℕ, ◌*◌, ◌≤◌, ◌<◌, length, get_or}
use Rattle.arena.specs.Live.{Live}
use Rattle.arena.specs.Step.{Step}
use Rattle.arena.specs.declared.NoRoom.{NoRoom}
use Rattle.format.specs.Limits.{node_words, capacity}
use Rattle.rules.specs.Run.{Out}
use Rattle.tree.specs.Arena.{nodes_of}

-- the words became `after`, which hold the nodes of o, of which there are m
pub record Did (words after : List ℕ) (o : Out) (root m : ℕ) : Type 0 where
  pub live : Live after m
  pub nodes_are : nodes_of m after ≡ o.arena
  pub root_is : root ≡ o.index
  pub root_below : root < m
  pub later : (k : ℕ) → node_words * m ≤ k → get_or after k 0 ≡ get_or words k 0

abbrev pub Ran : List ℕ → List ℕ → Out → Step → Type 0
Ran words after o (Step.Done root m) = Did words after o root m
Ran words after o Step.NoRoom = capacity (length words) < length o.arena

pub record Ended (words after : List ℕ) (count : ℕ) (o : Out) (step : Step) : Type 0 where
  pub same_length : length after ≡ length words
  pub kept : (k : ℕ) → k < node_words * count → get_or after k 0 ≡ get_or words k 0
  pub past : (k : ℕ) → node_words * capacity (length words) ≤ k → get_or after k 0 ≡ get_or words k 0
  pub ran : Ran words after o step

-- the step of a call that returned an index, and left a count
abbrev pub step_of : (count : ℕ) → Result ℕ NoRoom → Step
step_of count (Ok root) = Step.Done root count
step_of count (Err none) = Step.NoRoom
