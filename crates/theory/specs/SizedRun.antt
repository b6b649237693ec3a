-- The run keeps an arena storable: all its trees are well sized, and its payloads are words of 64 bits. Assumes nothing.
-- The laws that rest on what an edit in must-fail/ changes are in proofs/SizedRun.antt.
use Rattle.std.specs.Prelude.{List, ℕ, ◌^◌, ◌<◌, length}
use Rattle.format.specs.Nodes.{payload_of}
use Rattle.format.specs.declared.Node.{Node}
use Rattle.tree.specs.Arena.{at, tree_at}
use Rattle.tree.specs.Form.{Sized}

pub record Storable (arena : List Node) : Type 0 where
  pub sized : (i : ℕ) → i < length arena → Sized (tree_at arena i)
  pub payloads : (i : ℕ) → i < length arena → payload_of (at arena i) < 2 ^ 64
