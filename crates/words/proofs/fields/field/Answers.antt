-- A shift, and a mask of ones, give the definition's field. Assumes nothing.
use Rattle.std.proofs.Common.{◌/◌, ◌^◌}
use Rattle.std.proofs.lemmas.Nat.{and_mask, one_shl}
use Rattle.words.proofs.fields.field.Goals as goal

pub returns : goal.returns
returns c = rw (one_shl c.args.bits 64 c.requires.1) (and_mask (c.args.word / 2 ^ c.args.at) c.args.bits)
