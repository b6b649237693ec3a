-- What is read has the answer of all that the input has, and that answer's line is written. Assumes nothing.
use Rattle.std.specs.Prelude.{List, ◌≡◌, ℕ, length, take, IfSome, OnOk, Option, None, Some, Result, Ok, Err}
use Rattle.std.proofs.Common.{◌∙◌, arith, subst}
use Rattle.std.proofs.lemmas.List.{length-take-le}
use Rattle.std.specs.Io.KnownBytes.{Appends}
use Rattle.file.specs.File.{program_reply}
use Rattle.file.specs.Line.{line_of}
use Rattle.file.specs.Read.{read_reply}
use Rattle.simplifier.specs.declared.exports.SimplifyReply.{SimplifyReply}
use Rattle.santofunye.proofs.answer_file.Goals as goal

-- the line of the answer to what was read is that of the answer to all
line_of_all : {U E : Type 0} (wrote : Result U E) (known : Option (List ℕ)) (read : List ℕ) (reply : SimplifyReply) (old new : Option (List ℕ)) →
    IfSome known (λ bytes. program_reply read ≡ program_reply bytes) → reply ≡ program_reply read → OnOk wrote (Appends old new (line_of reply)) →
    OnOk wrote (IfSome known (λ bytes. Appends old new (line_of (program_reply bytes))))
line_of_all (Err e) known read reply old new same is line = tt
line_of_all (Ok u) None read reply old new same is line = tt
line_of_all (Ok u) (Some bytes) read reply old new same is line = subst (λ (r : SimplifyReply). Appends old new (line_of r)) (is ∙ same) line

pub returns : goal.returns
returns g c =
    let read = take c.in_ok-n.n c.read_full.new.buffer in
    let told = c.in_ok-n.ensures in
    let size = length-take-le c.in_ok-n.n c.read_full.new.buffer told.within in
    let all = read_reply (g.R.Read.remaining c.args.from.now) (g.R.Read.remaining c.read_full.new.reader) read (length c.read_full.new.buffer) (omega arith)
    told.bytes (λ short. told.end (omega arith)) in
    line_of_all c.print.result (g.R.Read.remaining c.args.from.now) read c.program_answer.result _ _ all c.program_answer.ensures c.print.ensures
