-- The premises of the promises are met: each theorem, at words of 01's bench. Assumes nothing.
use Rattle.std.specs.Prelude.{true, false, List, [], ◌∷◌, ◌++◌, ◌≡◌, refl, ℕ, ◌*◌, ◌^◌, ◌<◌, ltb, length, get_or, Err, Ok}
use Rattle.std.proofs.Common.{ap, sym, ◌∙◌, arith, ltb-true, lit≤}
use Rattle.std.proofs.Math.Decide.{dec_lt, ℕ_discrete}
use Rattle.std.proofs.Math.ListN.{get_or-append, get_or-eq_default}
use Rattle.arena.specs.Live.{tree_of}
use Rattle.theory.specs.MissingLaws.{nothing_missing}
use Rattle.theory.specs.RowLaws.{assigned_fitting}
use Rattle.format.specs.Kinds.{shape_of, row_of}
use Rattle.format.specs.Nodes.{node_of}
use Rattle.format.specs.Table.{every, at_line}
use Rattle.format.specs.declared.Bin.{Bin}
use Rattle.format.specs.declared.Node.{Node}
use Rattle.promises.specs.Bench.{answer42}
use Rattle.promises.specs.Evaluation.{Assigns}
use Rattle.promises.specs.FirstRows.{FirstBad, FirstWithoutRow}
use Rattle.promises.specs.After.{DoneCall}
use Rattle.promises.specs.Promises.{Passed, Simplifying}
use Rattle.promises.proofs.Promises.{answering, past_check, simplifying, alike}
use Rattle.promises.specs.Room.{Cleared}
use Rattle.promises.specs.Words.{Words64}
use Rattle.rules.specs.Bench.{lent_for}
use Rattle.rules.specs.Call.{ran_on, fits, ended, simplified_answer, words_after, simplified_number, simplified_count, done}
use Rattle.rules.specs.Run.{run_for}
use Rattle.rules.specs.Whole.{p1, seven, six}
use Rattle.rules.proofs.Whole.{p1_answer, p1_words, p1_no_room}
use Rattle.tree.specs.Arena.{nodes_of, tree_at}
use Rattle.tree.specs.Form.{well_formed, well_sized, judged, scanned, checked}
use Rattle.tree.specs.Meaning.{value}
use Rattle.tree.specs.Rows.{good_row, bad_row_from, found_from, assigned, missing, evaluated, evaluated_number, evaluated_value}
use Rattle.tree.specs.Tree.{const, size, is_top, has_top, un_discrete, bin_discrete, same}
use Rattle.tree.specs.declared.EvaluateError.{EvaluateError}
use Rattle.tree.specs.declared.Refusal.{Refusal}

-- a list's words are of 64 bits if a test of each passes
words64_by_test : (words : List ℕ) → every (λ k word. ltb word (2 ^ 64)) 0 words ≡ true → Words64 words
words64_by_test words test k = go (dec_lt k (length words))
  where
    go : Dec (k < length words) → get_or words k 0 < 2 ^ 64
    go (yes h) = ltb-true (get_or words k 0) (2 ^ 64) (at_line (λ k word. ltb word (2 ^ 64)) 0 words test k h)
    go (no past) = rw (get_or-eq_default words 0 {n = k} (omega arith)) (omega arith)

-- EVALUATION, on P1: (x - 5) + 3, where x is 42

p1_passed : Passed seven 5 4
unfolding checked scanned judged well_formed well_sized row_of shape_of node_of tree_at
p1_passed = record { words64 = words64_by_test seven refl; passes = refl }

p1_topless : has_top (tree_of 5 seven 4) ≡ false
unfolding tree_at node_of shape_of
p1_topless = refl

p1_assigns : Assigns seven 5 4 answer42
unfolding bad_row_from good_row missing found_from node_of shape_of
p1_assigns = record { no_bad_row = refl; every_input = (nothing_missing answer42 (nodes_of 5 seven) 4).0 refl }

p1_is_40 : value (assigned answer42) (tree_of 5 seven 4) ≡ 40
unfolding found_from tree_at node_of shape_of
p1_is_40 = refl

total_at_p1 : evaluated seven 5 4 answer42 ≡ Ok 40
total_at_p1 = (past_check p1_passed).total p1_topless answer42 p1_assigns ∙ ap Ok p1_is_40

answer_fits_at_p1 : 40 < 2 ^ (8 * size (tree_of 5 seven 4))
answer_fits_at_p1 = (past_check p1_passed).answer_in_size answer42 40 total_at_p1

value_fits_at_p1 : value (assigned answer42) (tree_of 5 seven 4) < 2 ^ (8 * size (tree_of 5 seven 4))
value_fits_at_p1 = (past_check p1_passed).value_in_size p1_topless (assigned answer42) (assigned_fitting answer42 p1_assigns.no_bad_row)

done_at_p1 : DoneCall seven 5 4 (ran_on seven 5 4).index (length (ran_on seven 5 4).arena)
unfolding row_of shape_of node_of tree_at same ℕ_discrete un_discrete bin_discrete
done_at_p1 = (past_check p1_passed).done (lit≤ tt)

steps_at_p1 : simplified_answer seven 5 4 ≡ (let o = run_for 99 (nodes_of 5 seven) 4 in ended (fits seven o) o)
unfolding tree_at node_of shape_of
steps_at_p1 = (past_check p1_passed).steps_answer 99 (lit≤ tt)

-- A DONE CALL, on P1: it becomes x - 2

p1_call : DoneCall seven 5 4 6 7
p1_call = record { words64 = words64_by_test seven refl; answer = p1_answer }

p1_simplifying : Simplifying seven 5 4 6 7
p1_simplifying = simplifying p1_call

size_at_p1 : size (tree_of 7 (words_after seven 5 4) 6) ≡ size (tree_of 5 seven 4)
size_at_p1 = p1_simplifying.size_kept p1_topless

value_at_p1 : value (assigned answer42) (tree_of 7 (words_after seven 5 4) 6) ≡ 40
value_at_p1 = p1_simplifying.value_kept p1_topless (assigned answer42) (assigned_fitting answer42 p1_assigns.no_bad_row) ∙ p1_is_40

evaluation_at_p1 : evaluated (words_after seven 5 4) 7 6 answer42 ≡ Ok 40
evaluation_at_p1 = p1_simplifying.evaluation_kept answer42 40 total_at_p1 ∙ total_at_p1

-- its nodes at the head of a slice with room for ten
ten : List ℕ
ten = words_after seven 5 4 ++ 1 ∷ 2 ∷ 3 ∷ 4 ∷ 5 ∷ []

slice_at_p1 : simplified_answer ten 7 6 ≡ done 6 7
unfolding ten
slice_at_p1 =
    p1_simplifying.any_slice ten (rw p1_words (words64_by_test (p1 (0x0201_0000_0000_0000 ∷ 2 ∷ 0x0501_0000_0005_0000 ∷ 0 ∷ 0xE ∷ 1 ∷ 2 ∷ 3 ∷ 4 ∷ 5 ∷ [])) refl))
    (rw p1_words (lit≤ tt)) (λ k h. get_or-append (words_after seven 5 4) (1 ∷ 2 ∷ 3 ∷ 4 ∷ 5 ∷ []) 0 k (rw p1_words (omega arith)))

-- x - 2 in other places
elsewhere : List ℕ
elsewhere = lent_for (Node.Const 1 2 ∷ Node.Entry 1 3 0x10 ∷ Node.Binary Bin.Sub 1 1 0 ∷ [])

anywhere_at_p1 : simplified_answer elsewhere 3 2 ≡ done 2 3
unfolding elsewhere checked scanned judged well_formed well_sized row_of shape_of node_of tree_at
anywhere_at_p1 = p1_simplifying.anywhere elsewhere 3 2 (words64_by_test elsewhere refl) refl (sym (ap (λ (words : List ℕ). tree_of 7 words 6) p1_words))

-- (x - 5) + 3 in other places, with a node between that the root does not reach
scattered : List ℕ
scattered =
    lent_for (Node.Const 1 3 ∷ Node.Top ∷ Node.Const 1 5 ∷ Node.Entry 1 3 0x10 ∷ Node.Binary Bin.Sub 1 3 2 ∷ Node.Binary Bin.Add 1 4 0 ∷ [])

scattered_call : DoneCall scattered 6 5 7 8
unfolding scattered simplified_answer checked scanned judged well_formed well_sized row_of shape_of node_of tree_at same ℕ_discrete un_discrete bin_discrete
scattered_call = record { words64 = words64_by_test scattered refl; answer = refl }

alike_at_p1 : tree_of 7 (words_after seven 5 4) 6 ≡ tree_of 8 (words_after scattered 6 5) 7
unfolding scattered node_of shape_of tree_at
alike_at_p1 = alike p1_call scattered_call refl

-- TOP AND CONSTANTS, on P5 and P12: 0 * Top, and 1 << 7

p5 : List ℕ
p5 = lent_for (Node.Const 4 0 ∷ Node.Top ∷ Node.Binary Bin.Mul 4 0 1 ∷ [])

p5_call : DoneCall p5 3 2 3 4
unfolding p5 simplified_answer checked scanned judged well_formed well_sized row_of shape_of node_of tree_at same ℕ_discrete un_discrete bin_discrete
p5_call = record { words64 = words64_by_test p5 refl; answer = refl }

top_at_p5 : is_top (tree_of 4 (words_after p5 3 2) 3) ≡ true
unfolding p5 node_of shape_of tree_at
top_at_p5 = (simplifying p5_call).top_is

p12 : List ℕ
p12 = lent_for (Node.Const 1 1 ∷ Node.Const 1 7 ∷ Node.Binary Bin.IntLeftShift 1 0 1 ∷ [])

p12_call : DoneCall p12 3 2 3 4
unfolding p12 simplified_answer checked scanned judged well_formed well_sized row_of shape_of node_of tree_at same ℕ_discrete un_discrete bin_discrete
p12_call = record { words64 = words64_by_test p12 refl; answer = refl }

constant_at_p12 : tree_of 4 (words_after p12 3 2) 3 ≡ const 1 0x80
unfolding p12 found_from node_of shape_of tree_at
constant_at_p12 = (simplifying p12_call).constant_is refl refl (assigned answer42) (assigned_fitting answer42 p1_assigns.no_bad_row)

-- REFUSALS, on P1 with a root past its nodes, and with room for six

refusal_at_p1 : words_after seven 5 5 ≡ seven
unfolding simplified_answer checked
refusal_at_p1 = (answering seven 5 5).refusal_words Refusal.RootNotBelowCount refl

no_room_at_p1 : Cleared six (words_after six 5 4) 5
no_room_at_p1 = (answering six 5 4).no_room_words p1_no_room

unmoved_at_p1 : simplified_count (simplified_answer six 5 4) 5 ≡ 5
unmoved_at_p1 = ((answering six 5 4).unmoved (λ e. let z = sym (ap simplified_number p1_no_room) ∙ e in omega arith)).1

cut_short : evaluated seven 5 4 (answer42 ++ 7 ∷ []) ≡ Err (EvaluateError.BadRow 1)
unfolding evaluated missing found_from bad_row_from good_row checked scanned judged well_formed well_sized row_of shape_of node_of tree_at
cut_short = refl

bad_row_at_p1 : FirstBad (answer42 ++ 7 ∷ []) 1 0 1
bad_row_at_p1 = (answering seven 5 4).bad_row (answer42 ++ 7 ∷ []) 1 cut_short

valueless_at_p1 : evaluated_value (evaluated seven 5 4 (answer42 ++ 7 ∷ [])) ≡ 0
valueless_at_p1 = (answering seven 5 4).valueless (answer42 ++ 7 ∷ []) (λ e. let z = sym (ap evaluated_number cut_short) ∙ e in omega arith)

missing_at_p1 : FirstWithoutRow [] (nodes_of 5 seven) (0 ∷ []) 0
unfolding evaluated missing found_from bad_row_from good_row checked scanned judged well_formed well_sized row_of shape_of node_of tree_at
missing_at_p1 = (answering seven 5 4).missing_input [] 0 refl
