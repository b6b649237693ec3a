-- What the writer may append: the nodes that an action makes are new to the arena. Assumes nothing.
use Rattle.std.specs.Bool.{then_some}
use Rattle.std.specs.Prelude.{Bool, true, false, Option, Some, None, refl, List, [], ◌∷◌, ◌++◌, ◌≡◌, ℕ, ◌^◌, ◌≤◌, ◌<◌, length}
use Rattle.std.proofs.Common.{arith}
use Rattle.acts.specs.Operated.{UnaryOver, BinaryOver}
use Rattle.arena.specs.Live.{Live, New, tree_of}
use Rattle.arena.specs.LiveLaws.{capacity_few, live_ordered, in_arena}
use Rattle.arena.specs.declared.Arena.{Arena}
use Rattle.format.specs.Limits.{max_nodes}
use Rattle.format.specs.declared.Bin.{Bin}
use Rattle.format.specs.declared.Node.{Node}
use Rattle.format.specs.declared.Un.{Un}
use Rattle.rules.specs.Rules.{bin_act, un_act}
use Rattle.rules.specs.Run.{Out, out, append, kept_as, make_const, near}
use Rattle.rules.specs.declared.Act.{Act}
use Rattle.theory.specs.Simulation.{near_stands}
use Rattle.theory.specs.Sizes.{size_bounds, bin_is_size, un_is_size}
use Rattle.theory.specs.TreeRun.{const_tree}
use Rattle.theory.specs.Values.{ActSized}
use Rattle.theory.proofs.Values.{bin_act_sized, un_act_sized}
use Rattle.theory.specs.Visits.{carried}
use Rattle.tree.specs.Arena.{build, nodes_of, tree_at, Ordered}
use Rattle.tree.specs.ArenaLaws.{length-nodes_of, length_appended, appended_extends, tree_stays, tree_appended}
use Rattle.tree.specs.Form.{is_size, Sized}
use Rattle.tree.specs.Tree.{unary, binary}

abbrev pub nodes_in : Arena → List Node
nodes_in arena = nodes_of arena.count arena.words.now

-- the node that is kept, or another one in its place
abbrev pub kept_in : (kept : Option ℕ) → Node → List Node → Out
kept_in (Some i) node arena = out arena i
kept_in None node arena = append node arena

pub kept_same : (same : Bool) (i : ℕ) (node : Node) (arena : List Node) → kept_in (then_some same i) node arena ≡ kept_as same i node arena
kept_same true i node arena = refl
kept_same false i node arena = refl

-- what an action makes of the arena, short of simplifying again
abbrev pub settled : Act → (kept : Option ℕ) → (over : ℕ → ℕ → Node) → ℕ → List Node → (a b : ℕ) → Out
settled act kept over s arena a b = carried act (kept_in kept (over a b) arena) (append (over b a) arena) s arena a b

-- each node that the action appends is new
abbrev pub Settles : List Node → Act → (own swapped : Node) → (s a b : ℕ) → Type 0
Settles arena Act.Keep own swapped s a b = New arena own
Settles arena Act.Swap own swapped s a b = New arena swapped
Settles arena (Act.Give w) own swapped s a b = Unit {0}
Settles arena (Act.Make v) own swapped s a b = New arena (make_const s v)
Settles arena (Act.Redo op w v) own swapped s a b =
    New arena (make_const s v) × New (arena ++ make_const s v ∷ []) (Node.Binary op s (near w arena a b) (length arena))
Settles arena (Act.RedoUnary op w) own swapped s a b = New arena (Node.Unary op s (near w arena a b))

module _ (arena : List Node) (w : Ordered arena) (few : length arena ≤ max_nodes) (s : ℕ) (narrow : s < 2 ^ 8) where
  new_const : (v : ℕ) → Sized (const_tree s v) → New arena (make_const s v)
  new_const v ok = record { below = tt; narrow = narrow; sized = ok }

  new_unary : (op : Un) (a : ℕ) → a < length arena → Sized (unary op s (tree_at arena a)) → New arena (Node.Unary op s a)
  new_unary op a h ok = record { below = h; narrow = (narrow, omega arith); sized = ok }

  new_binary : (op : Bin) (a b : ℕ) → a < length arena → b < length arena → Sized (binary op s (tree_at arena a) (tree_at arena b)) → New arena (Node.Binary op s a b)
  new_binary op a b ha hb ok = record { below = (ha, hb); narrow = (narrow, omega arith, omega arith); sized = ok }

  -- over a constant that was just appended
  new_over_const : (op : Bin) (a v : ℕ) → a < length arena → Sized (binary op s (tree_at arena a) (const_tree s v)) →
      New (arena ++ make_const s v ∷ []) (Node.Binary op s a (length arena))
  new_over_const op a v h ok =
      let longer = arena ++ make_const s v ∷ [] in
      let len = length_appended arena (make_const s v) in
      record {
        below = (omega arith, omega arith);
        narrow = (narrow, omega arith, omega arith);
        sized = rw (tree_stays w (appended_extends arena (make_const s v)) h, tree_appended arena (make_const s v) w tt) ok;
      }

  -- the nodes of an action whose trees are sized; kept and swapped as they stand for trees
  module _ (a b : ℕ) (ha : a < length arena) (hb : b < length arena) where
    settles : (act : Act) (own swapped : Node) → (Sized (build (tree_at arena) own) → New arena own) → (Sized (build (tree_at arena) swapped) → New arena swapped) →
        ActSized act (build (tree_at arena) own) (build (tree_at arena) swapped) s (tree_at arena a) (tree_at arena b) → Settles arena act own swapped s a b
    settles Act.Keep own swapped p q ok = p ok
    settles Act.Swap own swapped p q ok = q ok
    settles (Act.Give z) own swapped p q ok = tt
    settles (Act.Make v) own swapped p q ok = new_const v ok
    settles (Act.Redo op z v) own swapped p q ok =
        let n = near_stands arena w a b ha hb z in
        (new_const v ok.0, new_over_const op (near z arena a b) v n.0 (rw n.1 ok.1))
    settles (Act.RedoUnary op z) own swapped p q ok =
        let n = near_stands arena w a b ha hb z in
        new_unary op (near z arena a b) n.0 (rw n.1 ok)

module _ {words : List ℕ} {count : ℕ} (live : Live words count) where
  few_nodes : length (nodes_of count words) ≤ max_nodes
  few_nodes = omega (arith, length-nodes_of count words, capacity_few (length words) count live.room)

  narrow_size : (s : ℕ) → is_size s ≡ true → s < 2 ^ 8
  narrow_size s e = let z = size_bounds s e in omega (arith, z.1)

  pub settles_binary : {op : Bin} {s a b : ℕ} → BinaryOver words count op s a b → (act : Act) → act ≡ bin_act op s (tree_of count words a) (tree_of count words b) →
      Settles (nodes_of count words) act (Node.Binary op s a b) (Node.Binary op s b a) s a b
  settles_binary {op} {s} {a} {b} o act e =
      let arena = nodes_of count words in
      let narrow = narrow_size s (bin_is_size op s _ _ o.sized_over) in
      let ha = in_arena live a o.left_below in
      let hb = in_arena live b o.right_below in
      settles arena (live_ordered live) few_nodes s narrow a b ha hb act (Node.Binary op s a b) (Node.Binary op s b a)
      (new_binary arena (live_ordered live) few_nodes s narrow op a b ha hb) (new_binary arena (live_ordered live) few_nodes s narrow op b a hb ha)
      (rw e (bin_act_sized op s (tree_of count words a) (tree_of count words b) (live.sized a o.left_below) (live.sized b o.right_below) o.left_topless o.right_topless o.sized_over))

  pub settles_unary : {op : Un} {s a : ℕ} → UnaryOver words count op s a → (act : Act) → act ≡ un_act op s (tree_of count words a) →
      Settles (nodes_of count words) act (Node.Unary op s a) (Node.Unary op s a) s a a
  settles_unary {op} {s} {a} o act e =
      let arena = nodes_of count words in
      let narrow = narrow_size s (un_is_size op s _ _ o.sized_over) in
      let ha = in_arena live a o.below in
      settles arena (live_ordered live) few_nodes s narrow a a ha ha act (Node.Unary op s a) (Node.Unary op s a)
      (new_unary arena (live_ordered live) few_nodes s narrow op a ha) (new_unary arena (live_ordered live) few_nodes s narrow op a ha)
      (rw e (un_act_sized op s (tree_of count words a) (live.sized a o.below) o.topless o.sized_over))
