-- The program's file and the answer to it (01, "The program"). Assumes nothing: these are definitions.
use Rattle.std.specs.Prelude.{cond, Option, None, Some, List, [], ◌∷◌, ◌++◌, ℕ, zero, suc, ◌+◌, ◌*◌, ◌/◌, ◌%◌, ◌^◌, leb, eqb, length, drop, replicate}
use Rattle.format.specs.Limits.{node_words, capacity}
use Rattle.rules.specs.Call.{simplified_answer, words_after}
use Rattle.simplifier.specs.Replies.{simplify_reply}
use Rattle.simplifier.specs.declared.exports.SimplifyReply.{SimplifyReply}
use Rattle.file.specs.Bytes.{number_at}
use Rattle.file.specs.declared.Head.{Head}

-- how many words the program's arena has
abbrev pub program_words : ℕ
program_words = 4096

-- how many bytes a word takes, and the file's head, and a node
abbrev pub word_bytes : ℕ
word_bytes = 8

abbrev pub head_bytes : ℕ
head_bytes = 8

abbrev pub node_bytes : ℕ
node_bytes = 16

-- THE HEAD

-- count in the high 32 bits, root in the low
abbrev pub count_of : List ℕ → ℕ
count_of bytes = number_at bytes 0 head_bytes / 2 ^ 32

abbrev pub root_of : List ℕ → ℕ
root_of bytes = number_at bytes 0 head_bytes % 2 ^ 32

-- a file is good if it has as many bytes as its count of nodes asks for, and the arena holds as many
unfoldable pub head_of : List ℕ → (most : ℕ) → Option Head
head_of bytes most =
    cond (leb (count_of bytes) most)
    (cond (eqb (length bytes) (head_bytes + node_bytes * count_of bytes)) (Some (record { count = count_of bytes; root = root_of bytes })) None)
    None

-- THE WORDS

-- n words, from byte `at` on
unfoldable pub words_from : List ℕ → (at n : ℕ) → List ℕ
words_from bytes at zero = []
words_from bytes at (suc n) = number_at bytes at word_bytes ∷ words_from bytes (at + word_bytes) n

-- the words with those of the file's nodes over their start
abbrev pub laid : List ℕ → (count : ℕ) → List ℕ → List ℕ
laid bytes count words = words_from bytes head_bytes (node_words * count) ++ drop (node_words * count) words

-- THE ANSWER

abbrev pub bad_reply : SimplifyReply
bad_reply = record { number = 11; place = 0; root = 0; count = 0 }

-- 11 for a bad file, else what simplify answers on the words
abbrev pub reply_to : Option Head → List ℕ → List ℕ → SimplifyReply
reply_to None bytes words = bad_reply
reply_to (Some head) bytes words = simplify_reply (simplified_answer (laid bytes head.count words) head.count head.root) head.count

abbrev pub left_by : Option Head → List ℕ → List ℕ → List ℕ
left_by None bytes words = words
left_by (Some head) bytes words = words_after (laid bytes head.count words) head.count head.root

-- the answer in lent words, and what it leaves in them
abbrev pub file_reply : List ℕ → List ℕ → SimplifyReply
file_reply bytes words = reply_to (head_of bytes (capacity (length words))) bytes words

abbrev pub words_after_file : List ℕ → List ℕ → List ℕ
words_after_file bytes words = left_by (head_of bytes (capacity (length words))) bytes words

-- the program's answer: its arena's words are all zero at first
abbrev pub program_reply : List ℕ → SimplifyReply
program_reply bytes = file_reply bytes (replicate program_words 0)
