-- What a function that appends to an arena leaves of it: the same slice, whose words and count are those of a run's end.
-- Assumes nothing: these are definitions.
use Rattle.std.specs.Prelude.{◌≡◌, ℕ, Result}
use Rattle.arena.specs.Ended.{Ended, step_of}
use Rattle.arena.specs.declared.Arena.{Arena}
use Rattle.arena.specs.declared.NoRoom.{NoRoom}
use Rattle.rules.specs.Run.{Out}

pub record Ends (old new : Arena) (o : Out) (result : Result ℕ NoRoom) : Type 0 where
  pub same_reference : new.words.ghost_name ≡ old.words.ghost_name
  pub ended : Ended old.words.now new.words.now old.count o (step_of new.count result)
