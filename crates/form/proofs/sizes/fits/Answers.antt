-- Every word fits eight bytes. Assumes nothing.
use Rattle.std.proofs.Common.{◌*◌, ◌^◌, arith, lt-ltb, le-leb}
use Rattle.std.proofs.Math.Pow.{pow_mono}
use Rattle.form.proofs.sizes.fits.Goals as goal

pub returns-then-size-ge8 : goal.returns-then-size-ge8
returns-then-size-ge8 c =
    let wide = pow_mono {i = 64} {j = 8 * c.args.size} (omega arith) in
    rw (le-leb 8 c.args.size c.if-size-ge8.true, lt-ltb c.args.value (2 ^ (8 * c.args.size)) (omega arith))
