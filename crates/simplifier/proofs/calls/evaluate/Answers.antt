-- Evaluate is the check, and then the evaluation. Assumes nothing.
use Rattle.std.proofs.Common.{sym, ◌∙◌}
use Rattle.formed.specs.LiveOfChecked.{live_of_checked}
use Rattle.simplifier.proofs.calls.evaluate.Goals as goal

pub invariant_of-evaluate_checked : goal.invariant_of-evaluate_checked
invariant_of-evaluate_checked c =
    record { live = (live_of_checked c.args.words.now c.args.count (λ k. (c.type_inv.words k).fits) c.args.root (sym c.check.ensures ∙ c.in_ok-check.was)).live }

pub evaluate_checked-requires : goal.evaluate_checked-requires
evaluate_checked-requires c =
    (live_of_checked c.args.words.now c.args.count (λ k. (c.type_inv.words k).fits) c.args.root (sym c.check.ensures ∙ c.in_ok-check.was)).root_below
