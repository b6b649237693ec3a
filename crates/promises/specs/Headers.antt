-- A node over sized trees fits a header, and its header is a word of 64 bits. Assumes nothing.
use Rattle.std.specs.Prelude.{false, ◌⊎◌, ◌≡◌, refl, ℕ, ◌+◌, ◌*◌, ◌/◌, ◌^◌, ◌≤◌, ◌<◌}
use Rattle.std.proofs.Common.{inl, inr, arith}
use Rattle.std.proofs.Math.Decide.{dec_lt}
use Rattle.format.proofs.KindRules.{un_number_known, bin_number_known}
use Rattle.format.specs.Limits.{node_words, max_nodes}
use Rattle.format.specs.Nodes.{header_of, Narrow}
use Rattle.format.specs.declared.Node.{Node}
use Rattle.theory.specs.Sizes.{size_bounds, tree_is_size}
use Rattle.tree.specs.Arena.{build, Below}
use Rattle.tree.specs.Form.{Sized}
use Rattle.tree.specs.Tree.{Tree, entry, const, bind, unary, binary, size, is_top}

measured : (t : Tree) → is_top t ≡ false → Sized t → size t < 2 ^ 8
measured t e ok = omega (arith, (size_bounds (size t) (tree_is_size t ok e)).1)

pub narrow_of_sized : (tree : ℕ → Tree) (i : ℕ) → i ≤ max_nodes → (node : Node) → Below i node → Sized (build tree node) → Narrow node
narrow_of_sized tree i few Node.Top b ok = tt
narrow_of_sized tree i few (Node.Entry s space offset) b ok = (measured (entry s space offset) refl ok, ok.1)
narrow_of_sized tree i few (Node.Const s v) b ok = measured (const s v) refl ok
narrow_of_sized tree i few (Node.Bind s id) b ok = measured (bind s id) refl ok
narrow_of_sized tree i few (Node.Unary op s j) b ok = (measured (unary op s (tree j)) refl ok, omega arith)
narrow_of_sized tree i few (Node.Binary op s j k) b ok = (measured (binary op s (tree j) (tree k)) refl ok, omega (arith, b.0), omega (arith, b.1))

pub header_word : (node : Node) → Narrow node → header_of node < 2 ^ 64
header_word Node.Top h = omega arith
header_word (Node.Entry s space offset) h = omega (arith, h.0, h.1)
header_word (Node.Const s v) h = omega arith
header_word (Node.Bind s id) h = omega arith
header_word (Node.Unary op s j) h = omega (arith, h.0, h.1, un_number_known op)
header_word (Node.Binary op s j k) h = omega (arith, h.0, h.1, h.2, bin_number_known op)

-- a word's place in its node
pub second_or_first : (k : ℕ) → (k ≡ node_words * (k / node_words) + 1) ⊎ (k ≡ node_words * (k / node_words))
second_or_first k = go (dec_lt (node_words * (k / node_words)) k)
  where
    go : Dec (node_words * (k / node_words) < k) → (k ≡ node_words * (k / node_words) + 1) ⊎ (k ≡ node_words * (k / node_words))
    go (yes odd) = inl (omega arith)
    go (no even) = inr (omega arith)
