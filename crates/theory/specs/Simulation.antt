-- The run over an arena ends at the tree that the run on trees makes; it keeps the arena in order and only appends; on a normal tree
-- it appends nothing; and enough steps are enough there too. Assumes nothing.
-- The laws that rest on what an edit in must-fail/ changes are in proofs/Simulation.antt.
use Rattle.std.specs.Prelude.{Bool, true, false, ◌&&◌, ◌||◌, List, ◌≡◌, refl, ℕ, zero, suc, ◌<◌, eqb, length}
use Rattle.std.proofs.Common.{ap, sym, ◌∙◌, arith}
use Rattle.format.specs.declared.Bin.{Bin}
use Rattle.format.specs.declared.Node.{Node}
use Rattle.format.specs.declared.Un.{Un}
use Rattle.rules.specs.Rules.{bin_act, un_act}
use Rattle.rules.specs.Run.{Out, out, append, left_child, near, kept_as, visit, run_for}
use Rattle.rules.specs.declared.Act.{Act}
use Rattle.rules.specs.declared.Near.{Near}
use Rattle.format.specs.Truth.{and_left, and_right, eqb_same, eqb_equal}
use Rattle.theory.specs.Normal.{Normal}
use Rattle.theory.specs.TreeRun.{left_of, near_tree}
use Rattle.tree.specs.Arena.{at, build, tree_at, Below, Ordered}
use Rattle.tree.specs.ArenaLaws.{Extends, extends_refl, extends_trans, tree_eq, length_appended, appended_extends, appended_ordered, tree_appended}
use Rattle.tree.specs.Tree.{Tree, unary, binary, is_top}

-- ON A NORMAL TREE nothing is appended and the index is the same, for any number of steps

again_unary : (f : List Node → ℕ → Out) (arena : List Node) (i : ℕ) (op : Un) (s j : ℕ) → f arena j ≡ out arena j → is_top (tree_at arena j) ≡ false →
    un_act op s (tree_at arena j) ≡ Act.Keep → visit f arena i (Node.Unary op s j) ≡ out arena i
again_unary f arena i op s j e p q = rw (e, p, q, eqb_same j)

again_binary : (f : List Node → ℕ → Out) (arena : List Node) (i : ℕ) (op : Bin) (s j k : ℕ) → f arena j ≡ out arena j → f arena k ≡ out arena k →
    (is_top (tree_at arena j) || is_top (tree_at arena k)) ≡ false → bin_act op s (tree_at arena j) (tree_at arena k) ≡ Act.Keep →
    visit f arena i (Node.Binary op s j k) ≡ out arena i
again_binary f arena i op s j k e e' p q = rw (e, e', p, q, eqb_same j, eqb_same k)

again_visit : (f : List Node → ℕ → Out) (arena : List Node) (i : ℕ) (node : Node) → Below i node → Normal (build (tree_at arena) node) →
    ((j : ℕ) → j < i → Normal (tree_at arena j) → f arena j ≡ out arena j) → visit f arena i node ≡ out arena i
again_visit f arena i Node.Top b h e = refl
again_visit f arena i (Node.Entry s sp o) b h e = refl
again_visit f arena i (Node.Const s v) b h e = refl
again_visit f arena i (Node.Bind s d) b h e = refl
again_visit f arena i (Node.Unary op s j) b h e = again_unary f arena i op s j (e j b h.0) h.1 h.2
again_visit f arena i (Node.Binary op s j k) b h e = again_binary f arena i op s j k (e j b.0 h.0) (e k b.1 h.1) h.2 h.3

pub run_on_normal : (arena : List Node) → Ordered arena → (n i : ℕ) → i < length arena → Normal (tree_at arena i) → run_for n arena i ≡ out arena i
run_on_normal arena w zero i b h = refl
run_on_normal arena w (suc n) i b h =
    again_visit (run_for n) arena i (at arena i) (w i b) (rw (tree_eq arena w i b) at h) (λ j q g. run_on_normal arena w n j (omega arith) g)

-- SIMULATION

-- o is an arena that extends this one, and its index stands for t
pub record Stands (arena : List Node) (t : Tree) (o : Out) : Type 0 where
  pub ordered : Ordered o.arena
  pub extends : Extends arena o.arena
  pub bound : o.index < length o.arena
  pub is : tree_at o.arena o.index ≡ t

pub appended_stands : (arena : List Node) (node : Node) → Ordered arena → Below (length arena) node → Stands arena (build (tree_at arena) node) (append node arena)
appended_stands arena node w b = record {
  ordered = appended_ordered arena node w b;
  extends = appended_extends arena node;
  bound = omega (arith, length_appended arena node);
  is = tree_appended arena node w b;
}

left_stands : (arena : List Node) (i : ℕ) → i < length arena → (node : Node) → Below i node → tree_at arena i ≡ build (tree_at arena) node →
    (left_child node i < length arena) × (tree_at arena (left_child node i) ≡ left_of (tree_at arena i))
left_stands arena i b Node.Top o e = (b, cc)
left_stands arena i b (Node.Entry s sp p) o e = (b, cc)
left_stands arena i b (Node.Const s v) o e = (b, cc)
left_stands arena i b (Node.Bind s d) o e = (b, cc)
left_stands arena i b (Node.Unary op s j) o e = (omega arith, sym (ap left_of e))
left_stands arena i b (Node.Binary op s j k) o e = (omega (arith, o.0), sym (ap left_of e))

pub near_stands : (arena : List Node) → Ordered arena → (a b : ℕ) → a < length arena → b < length arena → (w : Near) →
    (near w arena a b < length arena) × (tree_at arena (near w arena a b) ≡ near_tree w (tree_at arena a) (tree_at arena b))
near_stands arena w a b ha hb Near.Left = (ha, refl)
near_stands arena w a b ha hb Near.Right = (hb, refl)
near_stands arena w a b ha hb Near.LeftLeft = left_stands arena a ha (at arena a) (w a ha) (tree_eq arena w a ha)
near_stands arena w a b ha hb Near.RightLeft = left_stands arena b hb (at arena b) (w b hb) (tree_eq arena w b hb)

pub onward : {arena longer : List Node} {t t' : Tree} {o : Out} → Extends arena longer → t ≡ t' → Stands longer t o → Stands arena t' o
onward x e p = record { ordered = p.ordered; extends = extends_trans x p.extends; bound = p.bound; is = p.is ∙ e }

-- f does on arenas what g does on trees
abbrev pub Simulates : (List Node → ℕ → Out) → (Tree → Tree) → Type 0
Simulates f g = (arena : List Node) → Ordered arena → (i : ℕ) → i < length arena → Stands arena (g (tree_at arena i)) (f arena i)

-- node i itself
pub itself_stands : {arena : List Node} → Ordered arena → (i : ℕ) → i < length arena → {node : Node} → at arena i ≡ node → {t : Tree} → build (tree_at arena) node ≡ t →
    Stands arena t (out arena i)
itself_stands {arena} w i b {node} e {t} q =
    record { ordered = w; extends = extends_refl arena; bound = b; is = tree_eq arena w i b ∙ ap (build (tree_at arena)) e ∙ q }

pub kept_unary : (arena : List Node) → Ordered arena → (i : ℕ) → i < length arena → (op : Un) (s j a : ℕ) → a < length arena → at arena i ≡ Node.Unary op s j →
    (c : Bool) → eqb a j ≡ c → Stands arena (unary op s (tree_at arena a)) (kept_as c i (Node.Unary op s a) arena)
kept_unary arena w i b op s j a h e true q = itself_stands w i b e (rw (eqb_equal a j q))
kept_unary arena w i b op s j a h e false q = appended_stands arena (Node.Unary op s a) w h

pub kept_binary : (arena : List Node) → Ordered arena → (i : ℕ) → i < length arena → (op : Bin) (s j k a b : ℕ) → a < length arena → b < length arena →
    at arena i ≡ Node.Binary op s j k → (c : Bool) → (eqb a j && eqb b k) ≡ c →
    Stands arena (binary op s (tree_at arena a) (tree_at arena b)) (kept_as c i (Node.Binary op s a b) arena)
kept_binary arena w i hi op s j k a b ha hb e true q =
    itself_stands w i hi e (rw (eqb_equal a j (and_left (eqb a j) (eqb b k) q), eqb_equal b k (and_right (eqb a j) (eqb b k) q)))
kept_binary arena w i hi op s j k a b ha hb e false q = appended_stands arena (Node.Binary op s a b) w (ha, hb)
