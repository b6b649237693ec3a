-- A node that passes hands the verdict on to the nodes after it, and any other verdict is the scan's. Assumes nothing.
use Rattle.std.proofs.Common.{sym, ◌∙◌}
use Rattle.formed.specs.Scan.{scan_ends, scan_goes_on}
use Rattle.form.specs.Judged.{passes, refuses}
use Rattle.form.proofs.scan.Goals as goal

pub loop-i-preserved : goal.loop-i-preserved
loop-i-preserved c =
    let passed = passes _ c.if-is_err.ensures.value in
    record {
      passing = passed;
      rest_decides =
          c.loop-i.invariant.rest_decides
          ∙ scan_goes_on _ _ c.loop-i.i c.loop-i-test.true
          ∙ rw (← c.judge-verdict.ensures, passed);
    }

pub returns-after-loop-i : goal.returns-after-loop-i
returns-after-loop-i c = c.loop-i.invariant.passing ∙ sym (c.loop-i.invariant.rest_decides ∙ scan_ends _ _ _ c.loop-i-test.false)

pub returns-then-is_err : goal.returns-then-is_err
returns-then-is_err c =
    sym (c.loop-i.invariant.rest_decides
    ∙ scan_goes_on _ _ c.loop-i.i c.loop-i-test.true
    ∙ rw (← c.judge-verdict.ensures) (refuses _ _ c.if-is_err.ensures.value))
