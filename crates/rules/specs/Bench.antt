-- The examples at 01's bench, P1 to P12, and 01's slips, through the whole call: one table each, and one statement over its rows.
-- Assumes nothing.
use Rattle.std.specs.Prelude.{List, [], ◌∷◌, ◌++◌, map, ◌≡◌, refl, ℕ, ◌-◌, ◌*◌, ◌^◌, length, replicate}
use Rattle.std.proofs.Math.Decide.{ℕ_discrete}
use Rattle.format.specs.Kinds.{shape_of, row_of}
use Rattle.format.specs.Limits.{node_words}
use Rattle.format.specs.Nodes.{node_of}
use Rattle.format.specs.declared.Bin.{Bin}
use Rattle.format.specs.declared.Node.{Node}
use Rattle.format.specs.declared.Un.{Un}
use Rattle.manual.specs.Operations.{int_carry, unfit, int_scarry, int_sborrow}
use Rattle.rules.specs.Call.{words_of, simplified_answer, words_after, simplified_number, simplified_root, simplified_count}
use Rattle.tree.specs.Arena.{nodes_of, tree_at}
use Rattle.tree.specs.Form.{well_formed, well_sized, judged, scanned, checked}
use Rattle.tree.specs.Tree.{Tree, top, entry, const, binary, un_discrete, bin_discrete, same}

-- nodes of which the last is the root, and the tree that the root becomes
pub record Example : Type 0 where
  pub arena : List Node
  pub result : Tree

-- their words, with room for four nodes more
abbrev pub lent_for : List Node → List ℕ
lent_for arena = words_of arena ++ replicate (node_words * 4) 0

-- 01's number of the answer, and the tree under the root that is returned
pub record Seen : Type 0 where
  pub number : ℕ
  pub tree : Tree

abbrev pub seen : Example → Seen
seen e =
    let count = length e.arena in
    let words = lent_for e.arena in
    let answer = simplified_answer words count (count - 1) in
    record {
      number = simplified_number answer;
      tree = tree_at (nodes_of (simplified_count answer count) (words_after words count (count - 1))) (simplified_root answer);
    }

abbrev pub expected : Example → Seen
expected e = record { number = 0; tree = e.result }

-- an input x of s bytes, as a node and as a tree
abbrev input : ℕ → Node
input s = Node.Entry s 3 0x10

abbrev x : ℕ → Tree
x s = entry s 3 0x10

-- (a op b), and ((a op b) op' c)
abbrev one : Bin → (s : ℕ) → (a b : Node) → Tree → Example
one op s a b result = record { arena = a ∷ b ∷ Node.Binary op s 0 1 ∷ []; result = result }

abbrev two : (op op' : Bin) → (s : ℕ) → (a b c : Node) → Tree → Example
two op op' s a b c result = record { arena = a ∷ b ∷ Node.Binary op s 0 1 ∷ c ∷ Node.Binary op' s 2 3 ∷ []; result = result }

abbrev pub bench : List Example
bench =
    -- P1: (x - 5) + 3 -> x - 2
    two Bin.Sub Bin.Add 1 (input 1) (Node.Const 1 5) (Node.Const 1 3) (binary Bin.Sub 1 (x 1) (const 1 2))
    -- P2: (x + 200) + 56 -> x
    ∷ two Bin.Add Bin.Add 1 (input 1) (Node.Const 1 200) (Node.Const 1 56) (x 1)
    -- P3: x - 2^63 -> x + 2^63
    ∷ one Bin.Sub 8 (input 8) (Node.Const 8 (2 ^ 63)) (binary Bin.Add 8 (x 8) (const 8 (2 ^ 63)))
    -- P4: x - 0xFFFFFFFF stays
    ∷ one Bin.Sub 4 (input 4) (Node.Const 4 0xFFFF_FFFF) (binary Bin.Sub 4 (x 4) (const 4 0xFFFF_FFFF))
    -- P5: 0 * Top -> Top
    ∷ one Bin.Mul 4 (Node.Const 4 0) Node.Top top
    -- P6: 0x80 s>> 8 -> 0xFF; 0x40 s>> 8 -> 0
    ∷ one Bin.IntSignedRightShift 1 (Node.Const 1 0x80) (Node.Const 1 8) (const 1 0xFF)
    ∷ one Bin.IntSignedRightShift 1 (Node.Const 1 0x40) (Node.Const 1 8) (const 1 0)
    -- P7: carry(2^64 - 1, 1) -> 1; carry(0xFF, 0) -> 0
    ∷ one Bin.IntCarry 1 (Node.Const 8 (2 ^ 64 - 1)) (Node.Const 8 1) (const 1 1)
    ∷ one Bin.IntCarry 1 (Node.Const 1 0xFF) (Node.Const 1 0) (const 1 0)
    -- P8: scarry(0x7F, 1) -> 1; sborrow(0x80, 1) -> 1
    ∷ one Bin.IntSCarry 1 (Node.Const 1 0x7F) (Node.Const 1 1) (const 1 1)
    ∷ one Bin.IntSBorrow 1 (Node.Const 1 0x80) (Node.Const 1 1) (const 1 1)
    -- P9: sext(0x80) from 1 to 4 -> 0xFFFFFF80
    ∷ record { arena = Node.Const 1 0x80 ∷ Node.Unary Un.SignExtend 4 0 ∷ []; result = const 4 0xFFFF_FF80 }
    -- P10: x ^ x, two copies -> 0
    ∷ one Bin.Xor 1 (input 1) (input 1) (const 1 0)
    -- P11: x | 0xFFFF -> 0xFFFF
    ∷ one Bin.Or 2 (input 2) (Node.Const 2 0xFFFF) (const 2 0xFFFF)
    -- P12: 1 << 7 -> 0x80; 1 << 8 -> 0
    ∷ one Bin.IntLeftShift 1 (Node.Const 1 1) (Node.Const 1 7) (const 1 0x80)
    ∷ one Bin.IntLeftShift 1 (Node.Const 1 1) (Node.Const 1 8) (const 1 0)
    ∷ []

-- 01's slips, where P1 to P12 do not show them
abbrev pub slips : List Example
slips =
    -- 0xFF at size 1 is no -1: x - 0xFF stays
    one Bin.Sub 1 (input 1) (Node.Const 1 0xFF) (binary Bin.Sub 1 (x 1) (const 1 0xFF))
    -- equal trees, not equal indices: x - x, two copies -> 0
    ∷ one Bin.Sub 1 (input 1) (input 1) (const 1 0)
    -- the sign of a difference: (x - 3) + 5 -> x + 2; (x + 5) - 3 -> x + 2; (x + 3) - 5 -> x - 2
    ∷ two Bin.Sub Bin.Add 1 (input 1) (Node.Const 1 3) (Node.Const 1 5) (binary Bin.Add 1 (x 1) (const 1 2))
    ∷ two Bin.Add Bin.Sub 1 (input 1) (Node.Const 1 5) (Node.Const 1 3) (binary Bin.Add 1 (x 1) (const 1 2))
    ∷ two Bin.Add Bin.Sub 1 (input 1) (Node.Const 1 3) (Node.Const 1 5) (binary Bin.Sub 1 (x 1) (const 1 2))
    ∷ []

pub bench_holds : map seen bench ≡ map expected bench
unfolding words_after simplified_answer checked scanned judged well_formed well_sized row_of shape_of node_of tree_at same ℕ_discrete un_discrete bin_discrete int_carry unfit int_scarry int_sborrow
bench_holds = refl

pub slips_hold : map seen slips ≡ map expected slips
unfolding words_after simplified_answer checked scanned judged well_formed well_sized row_of shape_of node_of tree_at same ℕ_discrete un_discrete bin_discrete int_carry unfit int_scarry int_sborrow
slips_hold = refl
