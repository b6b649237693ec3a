-- What the run leaves, as the call's answer and words. Assumes nothing.
use Rattle.std.proofs.Common.{◌∙◌, ◌*◌, arith, length}
use Rattle.arena.specs.LiveLaws.{capacity_room}
use Rattle.rules.specs.Call.{ran_on}
use Rattle.settle.specs.Chains.{after_run}
use Rattle.simplifier.specs.Cleared.{zeros_put}
use Rattle.simplifier.specs.Left.{done_answer, done_words, none_words}
use Rattle.simplifier.proofs.calls.rewrite.Goals as goal

pub returns-in-Ok-clause-answer : goal.returns-in-Ok-clause-answer
returns-in-Ok-clause-answer c =
    let to = c.in-Ok.to in
    let ended = c.in-Ok.ensures in
    let more = (after_run c.requires.live c.args.root c.args.root to.root to.count c.requires.root_lt_count c.requires.root_lt_count ended).more in
    done_answer c.args.words.now c.run.new.words c.args.count (ran_on c.args.words.now c.args.count c.args.root) to.root to.count more ended

pub returns-in-Ok-clause-left : goal.returns-in-Ok-clause-left
returns-in-Ok-clause-left c =
    let to = c.in-Ok.to in
    let ended = c.in-Ok.ensures in
    let more = (after_run c.requires.live c.args.root c.args.root to.root to.count c.requires.root_lt_count c.requires.root_lt_count ended).more in
    done_words c.args.words.now c.run.new.words c.args.count (ran_on c.args.words.now c.args.count c.args.root) to.root to.count more ended

pub returns-clause-left : goal.returns-clause-left
returns-clause-left c =
    let mid = c.run.new.words in
    let ended = c.in_default.ensures in
    let room = capacity_room (length mid) c.capacity-end.result (omega (arith, c.capacity-end.ensures)) in
    let live = c.requires.live.room in
    rw (c.fill.ensures.after (λ y h. h))
    (zeros_put mid (2 * c.args.count) (2 * c.capacity-end.result) (omega (arith, ended.same_length, c.capacity-end.ensures, live)) room
    ∙ rw (c.capacity-end.ensures, ended.same_length)
    (none_words c.args.words.now mid c.args.count (ran_on c.args.words.now c.args.count c.args.root) ended))
