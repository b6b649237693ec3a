-- The row sought, chunk by chunk. Assumes nothing.
use Rattle.std.proofs.Common.{rules, arith}
use Rattle.std.specs.Iterator.Runs.{IsChunksExactRun}
use Rattle.tree.specs.Rows.{row_words}
use Rattle.eval.proofs.Searches.{found_by}
use Rattle.eval.proofs.rows.find.Goals as goal

pub returns : goal.returns
returns c =
    let run = c.find_map.ensures.runs in
    let chunks : IsChunksExactRun run.0 row_words c.args.rows.now =
    rw (run.1, c.chunks_exact.ensures.size, c.chunks_exact.ensures.rest) at
    (c.chunks_exact.ensures.runs run.0 run.0.seen (rw (run.1, c.chunks_exact.ensures.size) (omega arith))) in
    found_by c.args.rows run.0 chunks _ _ (λ a r f k. search rules) c.args.word c.args.payload (λ x r k. search rules)
    c.find_map.result run.2
