-- How a run that appends ends: at an index, with a new count, or without room for a node. Assumes nothing: these are definitions.
use Rattle.std.specs.Prelude.{ℕ}

pub data Step : Type 0 where
  Done : (root count : ℕ) → Step
  NoRoom : Step
