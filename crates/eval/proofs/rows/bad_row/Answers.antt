-- The first bad row, chunk by chunk. Assumes nothing.
use Rattle.std.proofs.Common.{rules, arith}
use Rattle.std.specs.Iterator.Runs.{IsChunksRun}
use Rattle.tree.specs.Rows.{row_words}
use Rattle.eval.proofs.Searches.{bad_by}
use Rattle.eval.proofs.rows.bad_row.Goals as goal

pub returns : goal.returns
returns c =
    let run = c.position.ensures.runs in
    let chunks : IsChunksRun run.0 row_words c.args.rows.now =
    rw (run.1, c.chunks.ensures.size, c.chunks.ensures.rest) at
    (c.chunks.ensures.runs run.0 run.0.seen (rw (run.1, c.chunks.ensures.size) (omega arith))) in
    bad_by c.args.rows run.0 chunks _ _ (λ a r f k. search rules) (λ x r k. search rules) c.position.result run.2
