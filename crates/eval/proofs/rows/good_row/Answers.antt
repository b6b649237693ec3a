-- A whole row is good by its size and its value. Assumes nothing.
use Rattle.std.proofs.Common.{length, eq-eqb, arith}
use Rattle.tree.specs.Rows.{good_row}
use Rattle.eval.proofs.rows.good_row.Goals as goal

pub returns-in-len3 : goal.returns-in-len3
unfolding good_row
returns-in-len3 c =
    let whole = eq-eqb (length c.args.row.now) 3 (omega (arith, c.in-len3.len_at_least, c.in-len3.len_below)) in
    rw (c.is_size.ensures, c.fits.ensures, c.size_of-size.ensures, whole)
