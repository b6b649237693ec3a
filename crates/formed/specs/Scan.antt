-- What the scan's verdict tells: it passes exactly if every node is well made, and else it names the first that is not. Assumes nothing.
use Rattle.std.specs.Prelude.{Bool, true, false, cond, List, ◌≡◌, refl, ℕ, zero, suc, ◌+◌, ◌-◌, ◌≤◌, ◌<◌, Err, Ok}
use Rattle.std.proofs.Common.{ap, subst, ◌∙◌, eq-or-lt_of_le, add-one, zero-le, arith, ⊎_elim}
use Rattle.tree.specs.Form.{well_formed, well_sized, judged, or_else, scanned, Verdict}
use Rattle.tree.specs.declared.Refusal.{Refusal}

-- node i is well formed and well sized
pub record WellMade (words : List ℕ) (i : ℕ) : Type 0 where
  pub formed : well_formed words i ≡ true
  pub sized : well_sized words i ≡ true

-- node j is one of the n nodes from i upward, and those before it are well made
pub record First (words : List ℕ) (n i j : ℕ) : Type 0 where
  pub from : i ≤ j
  pub below : j < i + n
  pub before : (k : ℕ) → i ≤ k → k < j → WellMade words k

-- what a verdict on n nodes from i upward says
abbrev pub Says : List ℕ → (n i : ℕ) → Verdict → Type 0
Says words n i (Ok u) = (k : ℕ) → i ≤ k → k < i + n → WellMade words k
Says words n i (Err (Refusal.IllFormed j)) = First words n i j × (well_formed words j ≡ false)
Says words n i (Err (Refusal.IllSized j)) = First words n i j × (well_formed words j ≡ true) × (well_sized words j ≡ false)
Says words n i (Err Refusal.CountAboveCapacity) = ⊥
Says words n i (Err Refusal.RootNotBelowCount) = ⊥
Says words n i (Err Refusal.TooManyNodes) = ⊥
Says words n i (Err Refusal.PathTooLong) = ⊥

-- what is refused stays refused, whatever comes after
pub refused : (refusal : Refusal) (next : Verdict) → or_else (Err refusal) next ≡ Err refusal
refused refusal next = refl

module _ (words : List ℕ) where
  -- one node
  here : (i : ℕ) → First words 1 i i
  here i = record { from = omega arith; below = omega arith; before = λ k a b. absurd (omega arith) }

  judged_says : (i : ℕ) → Says words 1 i (judged words i)
  unfolding judged
  judged_says i = go (well_formed words i) (well_sized words i) refl refl
    where
      go : (f s : Bool) → well_formed words i ≡ f → well_sized words i ≡ s →
          Says words 1 i (cond f (cond s (Ok tt) (Err (Refusal.IllSized i))) (Err (Refusal.IllFormed i)))
      go true true p q = λ k a b. let e : i ≡ k = omega arith in subst (WellMade words) e (record { formed = p; sized = q })
      go true false p q = (here i, p, q)
      go false s p q = (here i, p)

  further : (n i j : ℕ) → First words 1 i j → First words (suc n) i j
  further n i j f = record { from = f.from; below = omega arith; before = f.before }

  later : (n i j : ℕ) → ((k : ℕ) → i ≤ k → k < i + 1 → WellMade words k) → First words n (suc i) j → First words (suc n) i j
  later n i j now f = record {
    from = omega arith;
    below = omega arith;
    before = λ k a b. ⊎_elim (λ e. now k a (omega arith)) (λ h. f.before k h b) (eq-or-lt_of_le a);
  }

  -- the verdict on the first node, and then on the n after it
  pass_then : (n i : ℕ) (w : Verdict) → ((k : ℕ) → i ≤ k → k < i + 1 → WellMade words k) → Says words n (suc i) w → Says words (suc n) i w
  pass_then n i (Ok u) now f = λ k a b. ⊎_elim (λ e. now k a (omega arith)) (λ h. f k h (omega arith)) (eq-or-lt_of_le a)
  pass_then n i (Err (Refusal.IllFormed j)) now f = (later n i j now f.0, f.1)
  pass_then n i (Err (Refusal.IllSized j)) now f = (later n i j now f.0, f.1, f.2)
  pass_then n i (Err Refusal.CountAboveCapacity) now f = f
  pass_then n i (Err Refusal.RootNotBelowCount) now f = f
  pass_then n i (Err Refusal.TooManyNodes) now f = f
  pass_then n i (Err Refusal.PathTooLong) now f = f

  or_else_says : (n i : ℕ) (v w : Verdict) → Says words 1 i v → Says words n (suc i) w → Says words (suc n) i (or_else v w)
  or_else_says n i (Ok u) w now f = pass_then n i w now f
  or_else_says n i (Err (Refusal.IllFormed j)) w now f = (further n i j now.0, now.1)
  or_else_says n i (Err (Refusal.IllSized j)) w now f = (further n i j now.0, now.1, now.2)
  or_else_says n i (Err Refusal.CountAboveCapacity) w now f = now
  or_else_says n i (Err Refusal.RootNotBelowCount) w now f = now
  or_else_says n i (Err Refusal.TooManyNodes) w now f = now
  or_else_says n i (Err Refusal.PathTooLong) w now f = now

  pub scan_says : (n i : ℕ) → Says words n i (scanned words n i)
  unfolding scanned
  scan_says zero i = λ k a b. absurd (omega arith)
  scan_says (suc n) i = or_else_says n i (judged words i) (scanned words n (suc i)) (judged_says i) (scan_says n (suc i))

  module _ (count : ℕ) where
    pub scan_passed : scanned words count 0 ≡ Ok tt → (i : ℕ) → i < count → WellMade words i
    scan_passed e i h = subst (Says words count 0) e (scan_says count 0) i zero-le (omega arith)

  -- the scan of the nodes from i to the count, a node at a time
  pub scan_ends : (count i : ℕ) → count ≤ i → scanned words (count - i) i ≡ Ok tt
  unfolding scanned
  scan_ends count i h =
      let e : count - i ≡ 0 = omega arith in
      rw e

  pub scan_goes_on : (count i : ℕ) → i < count →
      scanned words (count - i) i ≡ or_else (judged words i) (scanned words (count - (i + 1)) (i + 1))
  unfolding scanned
  scan_goes_on count i h =
      let e : count - i ≡ suc (count - (i + 1)) = omega arith in
      rw (e, add-one)

  -- where every node is well made, the scan passes
  judged_passes : (i : ℕ) → WellMade words i → judged words i ≡ Ok tt
  unfolding judged
  judged_passes i w = rw (w.formed, w.sized)

  passes_from : (n i : ℕ) → ((k : ℕ) → i ≤ k → k < i + n → WellMade words k) → scanned words n i ≡ Ok tt
  unfolding scanned
  passes_from zero i w = refl
  passes_from (suc n) i w = rw (judged_passes i (w i (omega arith) (omega arith))) (passes_from n (suc i) (λ k a b. w k (omega arith) (omega arith)))

  pub scan_passes : (count : ℕ) → ((i : ℕ) → i < count → WellMade words i) → scanned words count 0 ≡ Ok tt
  scan_passes count w = passes_from count 0 (λ k a b. w k (omega arith))

  -- and a node that is the first that is not well made is named
  finds : (n i j : ℕ) (v : Verdict) → First words n i j → judged words j ≡ v → ((next : Verdict) → or_else v next ≡ v) → scanned words n i ≡ v
  unfolding scanned
  finds zero i j v f e stops = absurd (omega (arith, f.from, f.below))
  finds (suc n) i j v f e stops =
      ⊎_elim (λ same. ap (λ (k : ℕ). or_else (judged words k) (scanned words n (suc i))) same ∙ rw e (stops (scanned words n (suc i))))
      (λ later. rw (judged_passes i (f.before i (omega arith) later))
      (finds n (suc i) j v (record { from = later; below = omega (arith, f.below); before = λ k a b. f.before k (omega arith) b }) e stops))
      (eq-or-lt_of_le f.from)

  pub scan_finds_ill_formed : (count i : ℕ) → First words count 0 i → well_formed words i ≡ false → scanned words count 0 ≡ Err (Refusal.IllFormed i)
  unfolding judged
  scan_finds_ill_formed count i first ill = finds count 0 i (Err (Refusal.IllFormed i)) first (rw ill) (λ next. refl)

  pub scan_finds_ill_sized : (count i : ℕ) → First words count 0 i → well_formed words i ≡ true → well_sized words i ≡ false → scanned words count 0 ≡ Err (Refusal.IllSized i)
  unfolding judged
  scan_finds_ill_sized count i first formed ill = finds count 0 i (Err (Refusal.IllSized i)) first (rw (formed, ill)) (λ next. refl)
