-- The run of the rewriting over an arena with unlimited room: the nodes that it appends, and the index that it ends at.
-- Assumes nothing: these are definitions.
use Rattle.std.specs.Prelude.{Bool, true, false, ◌&&◌, ◌||◌, List, [], ◌∷◌, ◌++◌, ℕ, zero, suc, ◌+◌, ◌*◌, ◌%◌, ◌^◌, eqb, length}
use Rattle.format.specs.declared.Bin.{Bin}
use Rattle.format.specs.declared.Node.{Node}
use Rattle.format.specs.declared.Un.{Un}
use Rattle.rules.specs.Rules.{bin_act, un_act}
use Rattle.rules.specs.declared.Act.{Act}
use Rattle.rules.specs.declared.Near.{Near}
use Rattle.tree.specs.Arena.{at, tree_at}
use Rattle.tree.specs.Tree.{Tree, top, entry, const, bind, unary, binary, nodes, is_top}

-- an arena, and an index into it
pub record Out : Type 0 where
  pub arena : List Node
  pub index : ℕ

abbrev pub out : List Node → ℕ → Out
out arena index = record { arena = arena; index = index }

abbrev pub append : Node → List Node → Out
append node arena = out (arena ++ node ∷ []) (length arena)

-- `make_const` keeps the 64-bit number modulo 2 to the 8·size
abbrev pub make_const : (s v : ℕ) → Node
make_const s v = Node.Const s (v % 2 ^ (8 * s))

-- the left child of node i; a leaf has none, and no rule asks it
abbrev pub left_child : Node → ℕ → ℕ
left_child Node.Top i = i
left_child (Node.Entry size space offset) i = i
left_child (Node.Const size value) i = i
left_child (Node.Bind size id) i = i
left_child (Node.Unary op size left) i = left
left_child (Node.Binary op size left right) i = left

abbrev pub near : Near → List Node → (a b : ℕ) → ℕ
near Near.Left arena a b = a
near Near.Right arena a b = b
near Near.LeftLeft arena a b = left_child (at arena a) a
near Near.RightLeft arena a b = left_child (at arena b) b

-- An action carried out on a node of size s whose simplified children are a and b (both the one child of a unary node). Each
-- node made is appended. `again` simplifies what a rule has rebuilt; `kept` and `swapped` are the two ways to keep the node.
abbrev pub acted : (again : List Node → ℕ → Out) → Act → (kept swapped : Out) → (s : ℕ) → List Node → (a b : ℕ) → Out
acted again Act.Keep kept swapped s arena a b = kept
acted again Act.Swap kept swapped s arena a b = swapped
acted again (Act.Give w) kept swapped s arena a b = out arena (near w arena a b)
acted again (Act.Make v) kept swapped s arena a b = append (make_const s v) arena
acted again (Act.Redo op w v) kept swapped s arena a b =
    let c = append (make_const s v) arena in
    let n = append (Node.Binary op s (near w arena a b) c.index) c.arena in
    again n.arena n.index
acted again (Act.RedoUnary op w) kept swapped s arena a b =
    let n = append (Node.Unary op s (near w arena a b)) arena in
    again n.arena n.index

-- the same children give the same index, others the node anew
abbrev pub kept_as : (unchanged : Bool) → ℕ → Node → List Node → Out
kept_as true i node arena = out arena i
kept_as false i node arena = append node arena

-- node i, whose child j became a; `topped` if that is Top
abbrev pub unary_run : (List Node → ℕ → Out) → (topped : Bool) → (i : ℕ) → Un → (s j : ℕ) → List Node → (a : ℕ) → Out
unary_run again true i op s j arena a = append Node.Top arena
unary_run again false i op s j arena a =
    acted again (un_act op s (tree_at arena a)) (kept_as (eqb a j) i (Node.Unary op s a) arena) (append (Node.Unary op s a) arena) s arena a a

-- node i, whose children j and k became a and b; `topped` if one of them is Top
abbrev pub binary_run : (List Node → ℕ → Out) → (topped : Bool) → (i : ℕ) → Bin → (s j k : ℕ) → List Node → (a b : ℕ) → Out
binary_run again true i op s j k arena a b = append Node.Top arena
binary_run again false i op s j k arena a b =
    acted again (bin_act op s (tree_at arena a) (tree_at arena b)) (kept_as (eqb a j && eqb b k) i (Node.Binary op s a b) arena)
    (append (Node.Binary op s b a) arena) s arena a b

-- a visit: a leaf is itself; else the left child is simplified, then the right one, and then the node
abbrev pub visit : (List Node → ℕ → Out) → List Node → ℕ → Node → Out
visit again arena i Node.Top = out arena i
visit again arena i (Node.Entry size space offset) = out arena i
visit again arena i (Node.Const size value) = out arena i
visit again arena i (Node.Bind size id) = out arena i
visit again arena i (Node.Unary op s j) =
    let l = again arena j in
    unary_run again (is_top (tree_at l.arena l.index)) i op s j l.arena l.index
visit again arena i (Node.Binary op s j k) =
    let l = again arena j in
    let r = again l.arena k in
    binary_run again (is_top (tree_at r.arena l.index) || is_top (tree_at r.arena r.index)) i op s j k r.arena l.index r.index

abbrev pub run_for : (steps : ℕ) → List Node → ℕ → Out
run_for zero arena i = out arena i
run_for (suc steps) arena i = visit (run_for steps) arena i (at arena i)

-- what falls from a visit to the visits in it: twice the nodes of its tree, and one more for a Sub at the root
abbrev pub is_sub : Bin → ℕ
is_sub Bin.Add = 0
is_sub Bin.Sub = 1
is_sub Bin.Mul = 0
is_sub Bin.Xor = 0
is_sub Bin.Or = 0
is_sub Bin.IntLeftShift = 0
is_sub Bin.IntRightShift = 0
is_sub Bin.IntSignedRightShift = 0
is_sub Bin.IntCarry = 0
is_sub Bin.IntSCarry = 0
is_sub Bin.IntSBorrow = 0

abbrev pub sub_at_root : Tree → ℕ
sub_at_root top = 0
sub_at_root (entry s space offset) = 0
sub_at_root (const s v) = 0
sub_at_root (bind s id) = 0
sub_at_root (unary op s a) = 0
sub_at_root (binary op s a b) = is_sub op

abbrev pub weight : Tree → ℕ
weight t = 2 * nodes t + sub_at_root t

-- as many steps as the tree weighs are enough: more change nothing
abbrev pub simplified : List Node → ℕ → Out
simplified arena i = run_for (weight (tree_at arena i)) arena i
