-- Simplify is the check, and then the run. Assumes nothing.
use Rattle.std.proofs.Common.{ℕ, Fits, w64, get_or, sym, ◌∙◌, rules}
use Rattle.formed.specs.LiveOfChecked.{live_of_checked}
use Rattle.simplifier.proofs.calls.simplify.Goals as goal

pub rewrite-requires-clause-live : goal.rewrite-requires-clause-live
rewrite-requires-clause-live c =
    let fit : (k : ℕ) → Fits w64 (get_or c.args.words.now k 0) = search rules in
    (live_of_checked c.args.words.now c.args.count (λ k. (fit k).fits) c.args.root (sym c.check.ensures ∙ c.in_ok-check.was)).live

pub rewrite-requires-clause-root_lt_count : goal.rewrite-requires-clause-root_lt_count
rewrite-requires-clause-root_lt_count c =
    let fit : (k : ℕ) → Fits w64 (get_or c.args.words.now k 0) = search rules in
    (live_of_checked c.args.words.now c.args.count (λ k. (fit k).fits) c.args.root (sym c.check.ensures ∙ c.in_ok-check.was)).root_below
