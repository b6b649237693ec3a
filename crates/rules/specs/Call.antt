-- What simplify answers for any words, count and root, and what it leaves in every word. Assumes nothing: these are definitions.
use Rattle.std.specs.Prelude.{Bool, true, false, List, [], ◌∷◌, ◌++◌, ℕ, ◌-◌, ◌*◌, leb, length, take, drop, replicate, Err, Ok, Result}
use Rattle.format.specs.Limits.{node_words, capacity}
use Rattle.format.specs.Nodes.{header_of, payload_of}
use Rattle.format.specs.declared.Node.{Node}
use Rattle.rules.specs.Run.{Out, simplified}
use Rattle.rules.specs.declared.Simplified.{Simplified}
use Rattle.rules.specs.declared.SimplifyError.{SimplifyError}
use Rattle.tree.specs.Arena.{nodes_of}
use Rattle.tree.specs.Form.{Verdict, checked, refusal_number, refusal_place}

-- the run on words that have passed the check, with unlimited room
abbrev pub ran_on : List ℕ → (count root : ℕ) → Out
ran_on words count root = simplified (nodes_of count words) root

-- whether its nodes fit
abbrev pub fits : List ℕ → Out → Bool
fits words o = leb (length o.arena) (capacity (length words))

-- THE ANSWER: 1 to 6 as the check, then 7 or done

abbrev pub SimplifiedAnswer : Type 0
SimplifiedAnswer = Result Simplified SimplifyError

abbrev pub done : (root count : ℕ) → SimplifiedAnswer
done root count = Ok (record { root = root; count = count })

abbrev pub ended : Bool → Out → SimplifiedAnswer
ended true o = done o.index (length o.arena)
ended false o = Err SimplifyError.NoRoom

abbrev pub after_check : Verdict → SimplifiedAnswer → SimplifiedAnswer
after_check (Ok u) next = next
after_check (Err refusal) next = Err (SimplifyError.Refused refusal)

unfoldable pub simplified_answer : List ℕ → (count root : ℕ) → SimplifiedAnswer
simplified_answer words count root =
    let o = ran_on words count root in
    after_check (checked words count root) (ended (fits words o) o)

-- THE WORDS

abbrev pub words_of : List Node → List ℕ
words_of [] = []
words_of (node ∷ nodes) = header_of node ∷ payload_of node ∷ words_of nodes

-- done: old nodes unchanged, the appended ones after them, later words alone
abbrev pub appended_words : List ℕ → (count : ℕ) → Out → List ℕ
appended_words words count o =
    take (node_words * count) words ++ (words_of (drop count o.arena) ++ drop (node_words * length o.arena) words)

-- no room: every word of the nodes from the count to the capacity is zero
abbrev pub cleared_words : List ℕ → (count : ℕ) → List ℕ
cleared_words words count =
    let end = node_words * capacity (length words) in
    take (node_words * count) words ++ (replicate (end - node_words * count) 0 ++ drop end words)

-- after a refusal the words are as they were
abbrev pub words_left : SimplifiedAnswer → List ℕ → (count : ℕ) → Out → List ℕ
words_left (Ok to) words count o = appended_words words count o
words_left (Err (SimplifyError.Refused refusal)) words count o = words
words_left (Err SimplifyError.NoRoom) words count o = cleared_words words count

unfoldable pub words_after : List ℕ → (count root : ℕ) → List ℕ
words_after words count root = words_left (simplified_answer words count root) words count (ran_on words count root)

-- 01's number, place, root and count of each answer, for the count handed in
abbrev pub simplified_number : SimplifiedAnswer → ℕ
simplified_number (Ok to) = 0
simplified_number (Err (SimplifyError.Refused refusal)) = refusal_number refusal
simplified_number (Err SimplifyError.NoRoom) = 7

abbrev pub simplified_place : SimplifiedAnswer → ℕ
simplified_place (Ok to) = 0
simplified_place (Err (SimplifyError.Refused refusal)) = refusal_place refusal
simplified_place (Err SimplifyError.NoRoom) = 0

abbrev pub simplified_root : SimplifiedAnswer → ℕ
simplified_root (Ok to) = to.root
simplified_root (Err error) = 0

abbrev pub simplified_count : SimplifiedAnswer → (count : ℕ) → ℕ
simplified_count (Ok to) count = to.count
simplified_count (Err error) count = count
