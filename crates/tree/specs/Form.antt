-- Well formed, well sized, within the limits: what the check answers for any words. Assumes nothing: these are definitions.
use Rattle.std.specs.Prelude.{Bool, true, cond, ◌&&◌, ◌||◌, List, ◌≡◌, ℕ, zero, suc, ◌*◌, ◌^◌, ◌<◌, eqb, leb, ltb, length, Err, None, Ok, Option, Result, Some}
use Rattle.format.specs.Header.{kind_of, size_of, left_of, right_of, space_of}
use Rattle.format.specs.Kinds.{kind_count, row_of, un_number, bin_number}
use Rattle.format.specs.Limits.{capacity, header_at, payload_at, max_path, max_unfolded}
use Rattle.format.specs.declared.Bin.{Bin}
use Rattle.format.specs.declared.Row.{Row}
use Rattle.format.specs.declared.Sizing.{Sizing}
use Rattle.format.specs.declared.Un.{Un}
use Rattle.tree.specs.Arena.{nodes_of, tree_at}
use Rattle.tree.specs.Tree.{Tree, top, entry, const, bind, unary, binary, size, nodes, path, is_top}
use Rattle.tree.specs.declared.Refusal.{Refusal}

-- WELL FORMED: a known kind, zero in every unused field, each child index below the node's own

abbrev pub zero_unless_used : (used : Bool) → ℕ → Bool
zero_unless_used used x = used || eqb x 0

abbrev pub below_if_used : (used : Bool) → (child i : ℕ) → Bool
below_if_used used child i = cond used (ltb child i) (eqb child 0)

abbrev pub row_fits : Row → (word payload i : ℕ) → Bool
row_fits row word payload i =
    below_if_used (leb 1 row.arity) (left_of word) i
    && (below_if_used (leb 2 row.arity) (right_of word) i
    && (zero_unless_used row.space (space_of word)
    && zero_unless_used row.payload payload))

unfoldable pub well_formed : List ℕ → ℕ → Bool
well_formed words i =
    let word = header_at words i in
    ltb (kind_of word) kind_count && row_fits (row_of (kind_of word)) word (payload_at words i) i

-- WELL SIZED, by a rule of the kind that sees the size, the payload and the children's sizes

abbrev pub is_size : ℕ → Bool
is_size s = eqb s 1 || (eqb s 2 || (eqb s 4 || eqb s 8))

-- a child that is Top passes
abbrev pub same_size : ℕ → Option ℕ → Bool
same_size s None = true
same_size s (Some c) = eqb c s

abbrev pub no_wider : ℕ → Option ℕ → Bool
no_wider s None = true
no_wider s (Some c) = leb c s

abbrev pub one_size : Option ℕ → Option ℕ → Bool
one_size None d = true
one_size (Some c) d = same_size c d

abbrev pub sized : Sizing → (s payload : ℕ) → (left right : Option ℕ) → Bool
sized Sizing.Unsized s payload left right = eqb s 0
sized Sizing.Input s payload left right = is_size s
sized Sizing.Constant s payload left right = is_size s && ltb payload (2 ^ (8 * s))
sized Sizing.Same s payload left right = is_size s && (same_size s left && same_size s right)
sized Sizing.Shift s payload left right = is_size s && (same_size s left && no_wider s right)
sized Sizing.Extension s payload left right = is_size s && no_wider s left
sized Sizing.Flag s payload left right = eqb s 1 && one_size left right

-- what the rule sees of child j: nothing where the kind has no such child, or the child is Top, which is kind 0
abbrev pub child_size : List ℕ → (used : Bool) → ℕ → Option ℕ
child_size words used j =
    cond used (cond (eqb (kind_of (header_at words j)) 0) None (Some (size_of (header_at words j)))) None

abbrev pub row_sized : List ℕ → Row → (word payload : ℕ) → Bool
row_sized words row word payload =
    sized row.sizing (size_of word) payload
    (child_size words (leb 1 row.arity) (left_of word)) (child_size words (leb 2 row.arity) (right_of word))

unfoldable pub well_sized : List ℕ → ℕ → Bool
well_sized words i = row_sized words (row_of (kind_of (header_at words i))) (header_at words i) (payload_at words i)

-- the same rule on trees; an Entry's space fits its field, so that its first word has its size
abbrev pub un_sizing : Un → Sizing
un_sizing op = (row_of (un_number op)).sizing

abbrev pub bin_sizing : Bin → Sizing
bin_sizing op = (row_of (bin_number op)).sizing

abbrev pub size_seen : Tree → Option ℕ
size_seen a = cond (is_top a) None (Some (size a))

abbrev pub Sized : Tree → Type 0
Sized top = Unit {0}
Sized (entry s space offset) = (sized Sizing.Input s offset None None ≡ true) × (space < 2 ^ 16)
Sized (const s v) = sized Sizing.Constant s v None None ≡ true
Sized (bind s id) = sized Sizing.Input s id None None ≡ true
Sized (unary op s a) = (sized (un_sizing op) s 0 (size_seen a) None ≡ true) × Sized a
Sized (binary op s a b) = (sized (bin_sizing op) s 0 (size_seen a) (size_seen b) ≡ true) × Sized a × Sized b

-- THE CHECK, in 01's order: 1, 2, the nodes upward with 3 before 4 at each, 5, 6

-- what a check says: nothing, or why not
abbrev pub Verdict : Type 0
Verdict = Result (Unit {0}) Refusal

unfoldable pub judged : List ℕ → ℕ → Verdict
judged words i =
    cond (well_formed words i) (cond (well_sized words i) (Ok tt) (Err (Refusal.IllSized i))) (Err (Refusal.IllFormed i))

abbrev pub or_else : Verdict → Verdict → Verdict
or_else (Ok u) next = next
or_else (Err refusal) next = Err refusal

-- the first verdict on n nodes from i upward that is not a pass
unfoldable pub scanned : List ℕ → (n i : ℕ) → Verdict
scanned words zero i = (Ok tt)
scanned words (suc n) i = or_else (judged words i) (scanned words n (suc i))

abbrev pub limited : Tree → Verdict
limited t = cond (leb (nodes t) max_unfolded) (cond (leb (path t) max_path) (Ok tt) (Err Refusal.PathTooLong)) (Err Refusal.TooManyNodes)

unfoldable pub checked : List ℕ → (count root : ℕ) → Verdict
checked words count root =
    cond (leb count (capacity (length words)))
    (cond (ltb root count) (or_else (scanned words count 0) (limited (tree_at (nodes_of count words) root))) (Err Refusal.RootNotBelowCount))
    (Err Refusal.CountAboveCapacity)

-- 01's number and place of each verdict
abbrev pub refusal_number : Refusal → ℕ
refusal_number Refusal.CountAboveCapacity = 1
refusal_number Refusal.RootNotBelowCount = 2
refusal_number (Refusal.IllFormed i) = 3
refusal_number (Refusal.IllSized i) = 4
refusal_number Refusal.TooManyNodes = 5
refusal_number Refusal.PathTooLong = 6

abbrev pub refusal_place : Refusal → ℕ
refusal_place Refusal.CountAboveCapacity = 0
refusal_place Refusal.RootNotBelowCount = 0
refusal_place (Refusal.IllFormed i) = i
refusal_place (Refusal.IllSized i) = i
refusal_place Refusal.TooManyNodes = 0
refusal_place Refusal.PathTooLong = 0

abbrev pub verdict_number : Verdict → ℕ
verdict_number (Ok u) = 0
verdict_number (Err refusal) = refusal_number refusal

abbrev pub verdict_place : Verdict → ℕ
verdict_place (Ok u) = 0
verdict_place (Err refusal) = refusal_place refusal
