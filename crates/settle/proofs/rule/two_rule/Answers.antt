-- A rule of two children: its decision, carried out. Assumes nothing.
use Rattle.std.proofs.Common.{refl}
use Rattle.std.proofs.lemmas.Result.{err_from_is_err_and}
use Rattle.settle.specs.Visits.{two_runs}
use Rattle.settle.proofs.rule.two_rule.Goals as goal

pub returns-in_err-root : goal.returns-in_err-root
returns-in_err-root c =
    let p = err_from_is_err_and c.from_residual.result c.from_residual.ensures.1 in
    rw (p.1, p.2)
    (two_runs c.requires c.bin_act-act.result _ _ _ (rw (c.nodes.ensures.words, c.nodes.ensures.count) at c.bin_act-act.ensures) refl c.then_some-kept.ensures c.in_err-root.ensures)
