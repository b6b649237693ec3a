-- The run keeps the size and the value of a tree from which no Top is reached, whatever the inputs are; so it keeps sizes in any
-- tree. Assumes nothing.
-- Throughout, `ok` says that a tree is well sized, and `free` that no Top is reached from it.
use Rattle.std.specs.Prelude.{true, false, ◌≡◌, refl, ℕ, zero, suc, ◌*◌, None}
use Rattle.std.proofs.Common.{true≢false, ◌∙◌, pow_pos}
use Rattle.format.specs.Header.{size_of}
use Rattle.format.specs.declared.Bin.{Bin}
use Rattle.format.specs.declared.Un.{Un}
use Rattle.rules.specs.Rules.{bin_act, un_act}
use Rattle.rules.specs.Run.{weight}
use Rattle.rules.specs.declared.Act.{Act}
use Rattle.theory.proofs.BinValues.{bin_act_keeps}
use Rattle.theory.specs.Keeps.{Keeps, Replaces, replaces_itself}
use Rattle.theory.specs.Sizes.{size_seen_lem, free_is_top, free_left, free_right}
use Rattle.theory.specs.TreeRun.{acted_tree, over_one, over_two, visit_tree, reduced_for, reduced}
use Rattle.theory.proofs.UnValues.{un_act_keeps}
use Rattle.tree.specs.Form.{sized, un_sizing, bin_sizing, size_seen, Sized}
use Rattle.tree.specs.Meaning.{Assignment, Fitting, value}
use Rattle.tree.specs.Tree.{Tree, top, entry, const, bind, unary, binary, size, has_top}
use Rattle.theory.specs.Values.{ActSized}

chained : {ρ : Assignment} {s v : ℕ} {t u : Tree} → Keeps ρ s v t → Replaces ρ t u → Keeps ρ s v u
chained p q = record { sized = q.sized; size_is = q.size_is ∙ p.size_is; topless = q.topless; value_is = q.value_is ∙ p.value_is }

-- A NODE OVER CHILDREN THAT ARE REPLACED

seen_same : (a a' : Tree) → has_top a ≡ false → has_top a' ≡ false → size a' ≡ size a → size_seen a' ≡ size_seen a
seen_same a a' free free' e = rw (size_seen_lem a (free_is_top a free), size_seen_lem a' (free_is_top a' free'), e)

unary_replaced : (ρ : Assignment) (op : Un) (s : ℕ) (a a' : Tree) → Sized (unary op s a) → has_top a ≡ false → Replaces ρ a a' →
    Replaces ρ (unary op s a) (unary op s a')
unary_replaced ρ op s a a' ok free r = record {
  sized = (rw (seen_same a a' free r.topless r.size_is) ok.0, r.sized);
  size_is = refl;
  topless = r.topless;
  value_is = rw (r.size_is, r.value_is);
}

binary_replaced : (ρ : Assignment) (op : Bin) (s : ℕ) (a b a' b' : Tree) → Sized (binary op s a b) → has_top (binary op s a b) ≡ false →
    Replaces ρ a a' → Replaces ρ b b' → Replaces ρ (binary op s a b) (binary op s a' b')
binary_replaced ρ op s a b a' b' ok free r q = record {
  sized = (
    rw (seen_same a a' (free_left a b free) r.topless r.size_is, seen_same b b' (free_right a b free) q.topless q.size_is) ok.0,
    r.sized,
    q.sized,
  );
  size_is = refl;
  topless = rw (r.topless, q.topless);
  value_is = rw (r.size_is, r.value_is, q.value_is);
}

-- A VISIT, if what it simplifies again is replaced

abbrev AllReplaced : Assignment → (Tree → Tree) → Type 0
AllReplaced ρ again = (t : Tree) → Sized t → has_top t ≡ false → Replaces ρ t (again t)

module _ (ρ : Assignment) (fitting : Fitting ρ) (again : Tree → Tree) (all : AllReplaced ρ again) where
  acted_keeps : (act : Act) (s v : ℕ) (kept swapped a b : Tree) → Keeps ρ s v (acted_tree (λ t. t) act kept swapped s a b) →
      Keeps ρ s v (acted_tree again act kept swapped s a b)
  acted_keeps Act.Keep s v kept swapped a b k = k
  acted_keeps Act.Swap s v kept swapped a b k = k
  acted_keeps (Act.Give w) s v kept swapped a b k = k
  acted_keeps (Act.Make n) s v kept swapped a b k = k
  acted_keeps (Act.Redo op w n) s v kept swapped a b k = chained k (all _ k.sized k.topless)
  acted_keeps (Act.RedoUnary op w) s v kept swapped a b k = chained k (all _ k.sized k.topless)

  one_keeps : (op : Un) (s : ℕ) (a : Tree) → Sized (unary op s a) → has_top a ≡ false → Replaces ρ (unary op s a) (over_one again op s a)
  one_keeps op s a ok free =
      rw (free_is_top a free) (acted_keeps (un_act op s a) s _ (unary op s a) (unary op s a) a a (un_act_keeps ρ fitting op s a ok free))

  two_keeps : (op : Bin) (s : ℕ) (a b : Tree) → Sized (binary op s a b) → has_top (binary op s a b) ≡ false →
      Replaces ρ (binary op s a b) (over_two again op s a b)
  two_keeps op s a b ok free =
      rw (free_is_top a (free_left a b free), free_is_top b (free_right a b free))
      (acted_keeps (bin_act op s a b) s _ (binary op s a b) (binary op s b a) a b (bin_act_keeps ρ fitting op s a b ok free))

  visit_keeps : AllReplaced ρ (visit_tree again)
  visit_keeps top ok free = absurd (true≢false free)
  visit_keeps (entry s space offset) ok free = replaces_itself ρ (entry s space offset) ok free
  visit_keeps (const s v) ok free = replaces_itself ρ (const s v) ok free
  visit_keeps (bind s id) ok free = replaces_itself ρ (bind s id) ok free
  visit_keeps (unary op s a) ok free =
      let r = unary_replaced ρ op s a (again a) ok free (all a ok.1 free) in
      chained r (one_keeps op s (again a) r.sized r.topless)
  visit_keeps (binary op s a b) ok free =
      let r = binary_replaced ρ op s a b (again a) (again b) ok free (all a ok.1 (free_left a b free)) (all b ok.2 (free_right a b free)) in
      chained r (two_keeps op s (again a) (again b) r.sized r.topless)

-- THE RUN

pub keeps : (ρ : Assignment) → Fitting ρ → (steps : ℕ) (t : Tree) → Sized t → has_top t ≡ false →
    Keeps ρ (size t) (value ρ t) (reduced_for steps t)
keeps ρ fitting zero t ok free = replaces_itself ρ t ok free
keeps ρ fitting (suc steps) t ok free = visit_keeps ρ fitting (reduced_for steps) (keeps ρ fitting steps) t ok free

pub reduced_value : (ρ : Assignment) → Fitting ρ → (t : Tree) → Sized t → has_top t ≡ false → value ρ (reduced t) ≡ value ρ t
reduced_value ρ fitting t ok free = (keeps ρ fitting (weight t) t ok free).value_is

-- sizes do not depend on the inputs, so any assignment shows them
abbrev zeros : Assignment
zeros word payload = 0

zeros_fit : Fitting zeros
zeros_fit word payload = pow_pos (8 * size_of word)

pub reduced_size : (t : Tree) → Sized t → has_top t ≡ false → size (reduced t) ≡ size t
reduced_size t ok free = (keeps zeros zeros_fit (weight t) t ok free).size_is

pub reduced_free : (t : Tree) → Sized t → has_top t ≡ false → has_top (reduced t) ≡ false
reduced_free t ok free = (keeps zeros zeros_fit (weight t) t ok free).topless

-- a node over simplified children
pub over_reduced_one : (op : Un) (s : ℕ) (a : Tree) → Sized (unary op s a) → has_top a ≡ false → Sized (unary op s (reduced a))
over_reduced_one op s a ok free =
    (unary_replaced zeros op s a (reduced a) ok free (keeps zeros zeros_fit (weight a) a ok.1 free)).sized

pub over_reduced_two : (op : Bin) (s : ℕ) (a b : Tree) → Sized (binary op s a b) → has_top (binary op s a b) ≡ false →
    Sized (binary op s (reduced a) (reduced b))
over_reduced_two op s a b ok free =
    (binary_replaced zeros op s a b (reduced a) (reduced b) ok free
    (keeps zeros zeros_fit (weight a) a ok.1 (free_left a b free)) (keeps zeros zeros_fit (weight b) b ok.2 (free_right a b free))).sized

-- WHAT A RULE MAKES is well sized, whatever it decides: every tree that is appended

made_sized : (act : Act) (kept swapped : Tree) (s : ℕ) (a b : Tree) →
    Sized (acted_tree (λ t. t) act kept swapped s a b) → ActSized act kept swapped s a b
made_sized Act.Keep kept swapped s a b ok = ok
made_sized Act.Swap kept swapped s a b ok = ok
made_sized (Act.Give w) kept swapped s a b ok = ok
made_sized (Act.Make v) kept swapped s a b ok = ok
made_sized (Act.Redo op w v) kept swapped s a b ok = (ok.2, ok)
made_sized (Act.RedoUnary op w) kept swapped s a b ok = ok

pub bin_act_sized : (op : Bin) (s : ℕ) (a b : Tree) → Sized a → Sized b → has_top a ≡ false → has_top b ≡ false →
    sized (bin_sizing op) s 0 (size_seen a) (size_seen b) ≡ true → ActSized (bin_act op s a b) (binary op s a b) (binary op s b a) s a b
bin_act_sized op s a b ok_a ok_b free_a free_b sizes =
    made_sized (bin_act op s a b) (binary op s a b) (binary op s b a) s a b
    (bin_act_keeps zeros zeros_fit op s a b (sizes, ok_a, ok_b) (rw (free_a, free_b))).sized

pub un_act_sized : (op : Un) (s : ℕ) (a : Tree) → Sized a → has_top a ≡ false →
    sized (un_sizing op) s 0 (size_seen a) None ≡ true → ActSized (un_act op s a) (unary op s a) (unary op s a) s a a
un_act_sized op s a ok free sizes =
    made_sized (un_act op s a) (unary op s a) (unary op s a) s a a (un_act_keeps zeros zeros_fit op s a (sizes, ok) free).sized
