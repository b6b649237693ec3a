-- Laws of arenas and of the trees in them: what is appended changes no tree below. Assumes nothing.
use Rattle.std.specs.Prelude.{List, [], ◌∷◌, ◌++◌, ◌≡◌, refl, ℕ, zero, suc, ◌≤◌, ◌<◌, length}
use Rattle.std.proofs.Common.{ap, ap₂, ◌∙◌, subst, le_refl, arith, length-append}
use Rattle.std.proofs.Math.Decide.{dec_lt}
use Rattle.std.proofs.Math.ListN.{get_or-append}
use Rattle.std.proofs.Math.Seq.{get_or-append_seam}
use Rattle.format.specs.declared.Node.{Node}
use Rattle.tree.specs.Arena.{node_at, nodes_of, at, build, unfolded, tree_at, Below, Ordered}
use Rattle.tree.specs.Tree.{Tree}

-- NODES OF WORDS

pub length-nodes_of : (n : ℕ) (words : List ℕ) → length (nodes_of n words) ≡ n
length-nodes_of zero words = refl
length-nodes_of (suc n) words = length-append (nodes_of n words) _ ∙ omega (arith, length-nodes_of n words)

pub at-nodes_of : (n : ℕ) (words : List ℕ) (i : ℕ) → i < n → at (nodes_of n words) i ≡ node_at words i
at-nodes_of zero words i h = absurd (omega arith)
at-nodes_of (suc n) words i h = go (λ p. at-nodes_of n words i p) (dec_lt i n)
  where
    go : (i < n → at (nodes_of n words) i ≡ node_at words i) → Dec (i < n) → at (nodes_of (suc n) words) i ≡ node_at words i
    go f (yes p) = get_or-append (nodes_of n words) (node_at words n ∷ []) Node.Top i (rw length-nodes_of p) ∙ f p
    go f (no p) =
        let e : i ≡ n = omega arith in
        let q : length (nodes_of n words) ≡ n = length-nodes_of n words in
        rw e (subst (λ (m : ℕ). at (nodes_of (suc n) words) m ≡ node_at words n) q (get_or-append_seam (nodes_of n words) (node_at words n) [] Node.Top))

-- the words of the first n nodes decide them
pub nodes_of_cong : (n : ℕ) (words words' : List ℕ) → ((i : ℕ) → i < n → node_at words' i ≡ node_at words i) → nodes_of n words' ≡ nodes_of n words
nodes_of_cong zero words words' h = refl
nodes_of_cong (suc n) words words' h =
    ap₂ (λ (a : List Node) (d : Node). a ++ d ∷ []) (nodes_of_cong n words words' (λ i p. h i (omega arith))) (h n (omega arith))

-- A LONGER ARENA

pub record Extends (arena longer : List Node) : Type 0 where
  pub grown : length arena ≤ length longer
  pub old : (i : ℕ) → i < length arena → at longer i ≡ at arena i

pub extends_refl : (arena : List Node) → Extends arena arena
extends_refl arena = record { grown = le_refl (length arena); old = λ i h. refl }

pub extends_trans : {a b c : List Node} → Extends a b → Extends b c → Extends a c
extends_trans {a} {b} {c} p q = record { grown = omega (arith, p.grown, q.grown); old = λ i h. q.old i (omega (arith, p.grown)) ∙ p.old i h }

pub build_cong : (f g : ℕ → Tree) (i : ℕ) (node : Node) → Below i node → ((j : ℕ) → j < i → f j ≡ g j) → build f node ≡ build g node
build_cong f g i Node.Top b e = refl
build_cong f g i (Node.Entry s sp o) b e = refl
build_cong f g i (Node.Const s v) b e = refl
build_cong f g i (Node.Bind s d) b e = refl
build_cong f g i (Node.Unary op s j) b e = rw (e j b)
build_cong f g i (Node.Binary op s j k) b e = cc (e j b.0, e k b.1)

-- one law for more steps and for a longer arena
unfolded_cong : (arena longer : List Node) → Ordered arena → Extends arena longer → (m n i : ℕ) → i < m → i < n → i < length arena →
    unfolded longer m i ≡ unfolded arena n i
unfolded_cong arena longer o x zero n i h h' b = absurd (omega arith)
unfolded_cong arena longer o x (suc m) zero i h h' b = absurd (omega arith)
unfolded_cong arena longer o x (suc m) (suc n) i h h' b =
    ap (build (unfolded longer m)) (x.old i b)
    ∙ build_cong (unfolded longer m) (unfolded arena n) i (at arena i) (o i b) (λ j q. unfolded_cong arena longer o x m n j (omega arith) (omega arith) (omega arith))

-- a tree below the count stays what it is
pub tree_stays : {arena longer : List Node} → Ordered arena → Extends arena longer → {i : ℕ} → i < length arena → tree_at longer i ≡ tree_at arena i
unfolding tree_at
tree_stays {arena} {longer} o x {i} b = unfolded_cong arena longer o x (suc i) (suc i) i (omega arith) (omega arith) b

-- a tree is its node over its children's trees
pub tree_eq : (arena : List Node) → Ordered arena → (i : ℕ) → i < length arena → tree_at arena i ≡ build (tree_at arena) (at arena i)
unfolding tree_at
tree_eq arena o i b =
    build_cong (unfolded arena i) (tree_at arena) i (at arena i) (o i b)
    (λ j q. unfolded_cong arena arena o (extends_refl arena) i (suc j) j q (omega arith) (omega arith))

-- APPENDING

pub length_appended : (arena : List Node) (node : Node) → length (arena ++ node ∷ []) ≡ suc (length arena)
length_appended arena node = length-append arena (node ∷ []) ∙ omega arith

pub appended_extends : (arena : List Node) (node : Node) → Extends arena (arena ++ node ∷ [])
appended_extends arena node = record { grown = omega (arith, length_appended arena node); old = λ i h. get_or-append arena (node ∷ []) Node.Top i h }

pub at_appended : (arena : List Node) (node : Node) → at (arena ++ node ∷ []) (length arena) ≡ node
at_appended arena node = get_or-append_seam arena node [] Node.Top

pub appended_ordered : (arena : List Node) (node : Node) → Ordered arena → Below (length arena) node → Ordered (arena ++ node ∷ [])
appended_ordered arena node w o i b = go (dec_lt i (length arena))
  where
    go : Dec (i < length arena) → Below i (at (arena ++ node ∷ []) i)
    go (yes p) = rw (get_or-append arena (node ∷ []) Node.Top i p) (w i p)
    go (no p) =
        let e : length arena ≡ i = omega (arith, length_appended arena node) in
        subst (λ (n : ℕ). Below n (at (arena ++ node ∷ []) n)) e (rw (at_appended arena node) o)

pub tree_appended : (arena : List Node) (node : Node) → Ordered arena → Below (length arena) node →
    tree_at (arena ++ node ∷ []) (length arena) ≡ build (tree_at arena) node
tree_appended arena node w o =
    let w' = appended_ordered arena node w o in
    let x = appended_extends arena node in
    let b : length arena < length (arena ++ node ∷ []) = omega (arith, length_appended arena node) in
    tree_eq (arena ++ node ∷ []) w' (length arena) b
    ∙ ap (build (tree_at (arena ++ node ∷ []))) (at_appended arena node)
    ∙ build_cong (tree_at (arena ++ node ∷ [])) (tree_at arena) (length arena) node o (λ j q. tree_stays w x q)
