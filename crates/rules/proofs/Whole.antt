-- 01's example P1 whole, through the call: its words, what they become, and what they become without room. Assumes nothing.
use Rattle.std.specs.Prelude.{List, [], ◌∷◌, ◌++◌, ◌≡◌, refl, Err}
use Rattle.std.proofs.Math.Decide.{ℕ_discrete}
use Rattle.format.specs.Kinds.{shape_of, row_of}
use Rattle.format.specs.Nodes.{node_of}
use Rattle.format.specs.declared.Bin.{Bin}
use Rattle.format.specs.declared.Node.{Node}
use Rattle.rules.specs.Bench.{lent_for}
use Rattle.rules.specs.Call.{words_of, simplified_answer, words_after, simplified_number, simplified_place, simplified_root, simplified_count, done}
use Rattle.rules.specs.declared.SimplifyError.{SimplifyError}
use Rattle.tree.specs.Arena.{tree_at}
use Rattle.tree.specs.Form.{well_formed, well_sized, judged, scanned, checked}
use Rattle.tree.specs.Tree.{un_discrete, bin_discrete, same}
use Rattle.tree.specs.declared.Refusal.{Refusal}
use Rattle.rules.specs.Whole.{p1, seven, six}

pub p1_answer : simplified_answer seven 5 4 ≡ done 6 7
unfolding simplified_answer checked scanned judged well_formed well_sized row_of shape_of node_of tree_at same ℕ_discrete un_discrete bin_discrete
p1_answer = refl

pub p1_words : words_after seven 5 4 ≡ p1 (0x0201_0000_0000_0000 ∷ 2 ∷ 0x0501_0000_0005_0000 ∷ 0 ∷ 0xE ∷ [])
unfolding words_after simplified_answer checked scanned judged well_formed well_sized row_of shape_of node_of tree_at same ℕ_discrete un_discrete bin_discrete
p1_words = refl

-- number, place, root and count, as the program prints them
pub p1_printed :
    simplified_number (simplified_answer seven 5 4)
    ∷ simplified_place (simplified_answer seven 5 4)
    ∷ simplified_root (simplified_answer seven 5 4)
    ∷ simplified_count (simplified_answer seven 5 4) 5
    ∷ []
    ≡ 0 ∷ 0 ∷ 6 ∷ 7 ∷ []
p1_printed = rw p1_answer

pub p1_no_room : simplified_answer six 5 4 ≡ Err SimplifyError.NoRoom
unfolding simplified_answer checked scanned judged well_formed well_sized row_of shape_of node_of tree_at same ℕ_discrete un_discrete bin_discrete
p1_no_room = refl

pub p1_cleared : words_after six 5 4 ≡ p1 (0 ∷ 0 ∷ 0xE ∷ [])
unfolding words_after simplified_answer checked scanned judged well_formed well_sized row_of shape_of node_of tree_at same ℕ_discrete un_discrete bin_discrete
p1_cleared = refl

-- the same slice with a root past its nodes is refused, and no word changes
pub p1_refused : simplified_answer six 5 5 ≡ Err (SimplifyError.Refused Refusal.RootNotBelowCount)
unfolding simplified_answer checked
p1_refused = refl

pub p1_left_alone : words_after six 5 5 ≡ six
unfolding words_after simplified_answer checked
p1_left_alone = refl

-- WHERE NEW NODES LIE: of (1 + 2) - (3 + 4) the left sum before the right one, and then the difference
abbrev sums : List Node
sums =
    Node.Const 1 1
    ∷ Node.Const 1 2
    ∷ Node.Binary Bin.Add 1 0 1
    ∷ Node.Const 1 3
    ∷ Node.Const 1 4
    ∷ Node.Binary Bin.Add 1 3 4
    ∷ Node.Binary Bin.Sub 1 2 5
    ∷ []

pub left_before_right : words_after (lent_for sums) 7 6 ≡ words_of (sums ++ Node.Const 1 3 ∷ Node.Const 1 7 ∷ Node.Const 1 0xFC ∷ []) ++ 0 ∷ 0 ∷ []
unfolding words_after simplified_answer checked scanned judged well_formed well_sized row_of shape_of node_of tree_at same ℕ_discrete un_discrete bin_discrete
left_before_right = refl
