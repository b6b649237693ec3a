-- What a call of simplify that was done leaves: the run's nodes, in words that are live and of 64 bits. Assumes nothing.
-- The laws that rest on what an edit in must-fail/ changes are in proofs/After.antt.
use Rattle.std.specs.Prelude.{List, ◌≡◌, ℕ}
use Rattle.promises.specs.Words.{Words64}
use Rattle.rules.specs.Call.{simplified_answer, done}

-- a call of simplify on the words of a slice of u64 that was done, with the new root and count
pub record DoneCall (words : List ℕ) (count root root' m : ℕ) : Type 0 where
  pub words64 : Words64 words
  pub answer : simplified_answer words count root ≡ done root' m
