-- The questions in their order; what has passed the scan is live, as the walks ask. Assumes nothing.
use Rattle.std.proofs.Common.{rules, sym, ◌∙◌, ◌≡◌, Err}
use Rattle.formed.specs.LiveOfChecked.{live_of_scan}
use Rattle.formed.specs.Order.{count_above, root_not_below, scan_decides}
use Rattle.form.proofs.check.Goals as goal

pub returns-then-capacity-count : goal.returns-then-capacity-count
returns-then-capacity-count c = sym (count_above _ _ _ (rw c.capacity.ensures at c.if-capacity-count.true))

pub returns-then-count-root : goal.returns-then-count-root
returns-then-count-root c =
    let room = rw c.capacity.ensures at c.if-capacity-count.false in
    sym (root_not_below _ _ _ room c.if-count-root.true)

pub returns-in_err-scan : goal.returns-in_err-scan
returns-in_err-scan c =
    let room = rw c.capacity.ensures at c.if-capacity-count.false in
    let same : c.from_residual.result ≡ Err c.in_err-scan.field-0.0 = search rules in
    same ∙ sym (scan_decides _ _ _ room c.if-count-root.false _ (sym c.in_err-scan.ensures))

pub invariant_of-limited : goal.invariant_of-limited
invariant_of-limited c =
    let room = rw c.capacity.ensures at c.if-capacity-count.false in
    record { live = live_of_scan _ _ (λ k. (c.type_inv.words k).fits) room (sym c.in_ok-scan.ensures) }

pub returns : goal.returns
returns c =
    let room = rw c.capacity.ensures at c.if-capacity-count.false in
    c.limited.ensures ∙ sym (scan_decides _ _ _ room c.if-count-root.false _ (sym c.in_ok-scan.ensures))
