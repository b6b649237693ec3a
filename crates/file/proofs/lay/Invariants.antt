-- The file's words are laid one after the other: the first k are there, and the rest are as they were.
use Rattle.std.proofs.Common.{◌≡◌, ◌++◌, drop}
use Rattle.file.specs.File.{head_bytes, words_from}
use Rattle.file.proofs.lay.Given as goal

abbrev pub invariant-loop-k : goal.invariant-loop-k
invariant-loop-k l = l.words ≡ words_from l.bytes head_bytes l.k ++ drop l.k l.fn.words
