-- Every number that the check and evaluation answer, given once; 01's stacks at the limits. Assumes nothing.
use Rattle.std.specs.Prelude.{List, [], ◌∷◌, ◌++◌, ◌≡◌, refl, ℕ, zero, suc, Err, Ok}
use Rattle.format.specs.Kinds.{shape_of, row_of}
use Rattle.format.specs.Nodes.{node_of}
use Rattle.format.specs.declared.Bin.{Bin}
use Rattle.format.specs.declared.Node.{Node}
use Rattle.format.specs.declared.Un.{Un}
use Rattle.rules.specs.Call.{words_of}
use Rattle.rules.specs.Whole.{seven}
use Rattle.tree.specs.Arena.{tree_at}
use Rattle.tree.specs.Form.{well_formed, well_sized, judged, scanned, checked, Verdict}
use Rattle.tree.specs.Rows.{good_row, bad_row_from, found_from, missing, evaluated}
use Rattle.tree.specs.Tree.{nodes, path}
use Rattle.tree.specs.declared.EvaluateError.{EvaluateError}
use Rattle.tree.specs.declared.Refusal.{Refusal}

-- STACKS: `over` makes a node of the one below it, n times, on an input
abbrev pub stack : (over : ℕ → Node) → ℕ → List Node
stack over zero = Node.Entry 1 3 0x10 ∷ []
stack over (suc n) = stack over n ++ over n ∷ []

abbrev pub sums : ℕ → List Node
sums n = stack (λ below. Node.Binary Bin.Add 1 below below) n

abbrev pub negations : ℕ → List Node
negations n = stack (λ below. Node.Unary Un.Int2Comp 1 below) n

abbrev verdict_on : List Node → ℕ → Verdict
verdict_on arena n = checked (words_of arena) (suc n) n

-- 01, examples: Add(n, n) 11 and 12 high on an input, and Int2Comp 127 and 128 high
pub stacks_at_the_limits :
    verdict_on (sums 11) 11 ∷ verdict_on (sums 12) 12 ∷ verdict_on (negations 127) 127 ∷ verdict_on (negations 128) 128 ∷ []
    ≡ Ok tt ∷ Err Refusal.TooManyNodes ∷ Ok tt ∷ Err Refusal.PathTooLong ∷ []
unfolding checked scanned judged well_formed well_sized row_of shape_of node_of tree_at
stacks_at_the_limits = refl

pub stacks_measured :
    nodes (tree_at (sums 11) 11) ∷ nodes (tree_at (sums 12) 12) ∷ path (tree_at (negations 127) 127) ∷ path (tree_at (negations 128) 128) ∷ []
    ≡ 4095 ∷ 8191 ∷ 128 ∷ 129 ∷ []
unfolding tree_at
stacks_measured = refl

-- EVERY VERDICT, in 01's order: a count past the slice; a root past the count; kind 17 before a node of 3 bytes; a node of 3 bytes
pub each_verdict :
    checked seven 5 4
    ∷ checked seven 8 4
    ∷ checked seven 5 5
    ∷ checked (0x1101_0000_0000_0000 ∷ 0 ∷ 0x0203_0000_0000_0000 ∷ 0 ∷ []) 2 0
    ∷ checked (0x0201_0000_0000_0000 ∷ 0 ∷ 0x0203_0000_0000_0000 ∷ 0 ∷ []) 2 0
    ∷ []
    ≡ Ok tt ∷ Err Refusal.CountAboveCapacity ∷ Err Refusal.RootNotBelowCount ∷ Err (Refusal.IllFormed 0) ∷ Err (Refusal.IllSized 1) ∷ []
unfolding checked scanned judged well_formed well_sized row_of shape_of node_of tree_at
each_verdict = refl

-- EVERY ANSWER OF EVALUATION, on (x - 5) + 3 and on a Top: x is 42; a root past the count; a row cut short; no row; a Top
abbrev pub answer42 : List ℕ
answer42 = 0x0101_0000_0000_0003 ∷ 0x10 ∷ 42 ∷ []

pub each_evaluation :
    evaluated seven 5 4 answer42
    ∷ evaluated seven 5 5 answer42
    ∷ evaluated seven 5 4 (answer42 ++ 7 ∷ [])
    ∷ evaluated seven 5 4 []
    ∷ evaluated (0 ∷ 0 ∷ []) 1 0 []
    ∷ []
    ≡ Ok 40 ∷ Err (EvaluateError.Refused Refusal.RootNotBelowCount) ∷ Err (EvaluateError.BadRow 1) ∷ Err (EvaluateError.InputMissing 0) ∷ Err EvaluateError.TopReachable ∷ []
unfolding evaluated missing found_from bad_row_from good_row checked scanned judged well_formed well_sized row_of shape_of node_of tree_at
each_evaluation = refl
