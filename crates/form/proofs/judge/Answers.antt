-- Form first, then sizes, both by the row. Assumes nothing.
use Rattle.std.specs.Option.{is_some}
use Rattle.std.proofs.Common.{ap, sym, ◌∙◌, ltb-false}
use Rattle.form.specs.Judged.{unknown_judged, judged_by_row}
use Rattle.form.proofs.judge.Goals as goal

pub returns-then-row_sized : goal.returns-then-row_sized
returns-then-row_sized c =
    let line = rw (c.requires.kinds_value, c.kind_of.ensures, c.header_at-word.ensures) at c.in-Some.ensures.lookup.3 in
    let fit = rw (c.header_at-word.ensures, c.payload_at-payload.ensures) at c.if-row_fits.ensures in
    let sizes = rw (c.header_at-word.ensures, c.payload_at-payload.ensures) at c.if-row_sized.ensures in
    rw (judged_by_row c.args.words.now c.args.i _ line.0 line.1, ← fit, ← sizes)

pub returns-else-row_sized : goal.returns-else-row_sized
returns-else-row_sized c =
    let line = rw (c.requires.kinds_value, c.kind_of.ensures, c.header_at-word.ensures) at c.in-Some.ensures.lookup.3 in
    let fit = rw (c.header_at-word.ensures, c.payload_at-payload.ensures) at c.if-row_fits.ensures in
    let sizes = rw (c.header_at-word.ensures, c.payload_at-payload.ensures) at c.if-row_sized.ensures in
    rw (judged_by_row c.args.words.now c.args.i _ line.0 line.1, ← fit, ← sizes)

pub returns-in_default : goal.returns-in_default
returns-in_default c =
    let line = rw (c.requires.kinds_value, c.kind_of.ensures, c.header_at-word.ensures) at c.in-Some.ensures.lookup.3 in
    let unfit = rw (c.header_at-word.ensures, c.payload_at-payload.ensures) at c.if-row_fits.ensures in
    rw (judged_by_row c.args.words.now c.args.i _ line.0 line.1, ← unfit)

pub returns-in_default-2 : goal.returns-in_default-2
returns-in_default-2 c =
    let past = ltb-false _ _ (sym c.get.ensures.lookup.0 ∙ ap is_some c.in_default.is) in
    unknown_judged _ _ (rw (c.requires.kinds_value, c.kind_of.ensures, c.header_at-word.ensures) at past)
