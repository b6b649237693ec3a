-- A read puts what the reader gives behind what was read before. Assumes nothing.
use Rattle.std.specs.Prelude.{◌≡◌, ℕ, ◌+◌, ◌-◌, ◌≤◌, List, ◌++◌, length, take}
use Rattle.std.specs.Io.KnownBytes.{Consumes}
use Rattle.std.proofs.Common.{rules, ap, sym, ◌∙◌, subst, le_refl, drop_at}
use Rattle.std.proofs.KnownBytes.{Consumes-trans}
use Rattle.std.proofs.lemmas.List.{length-take-le, take-append-le}
use Rattle.std.proofs.lemmas.Slice.{take-put_mid_below}
use borrow.Rule.Slice.PartMut.{put_mid, post_of}
use lib.Seq.{take-add}
use Rattle.file.proofs.input.read_full.Goals as goal

-- the first `from` items, and the n that were put there after them
put_after : (from room n : ℕ) (xs ys : List ℕ) → from ≤ length xs → n ≤ length ys → take from xs ++ take n ys ≡ take (from + n) (put_mid from room xs ys)
put_after from room n xs ys within fits =
    sym (ap (λ (l : List ℕ). l ++ take n ys) (take-put_mid_below from room xs ys from (le_refl from) within))
    ∙ sym (ap (λ (l : List ℕ). take from (put_mid from room xs ys) ++ take n l) (drop_at (take from xs) (ys ++ post_of from room xs) from (length-take-le from xs within))
    ∙ ap (λ (l : List ℕ). take from (put_mid from room xs ys) ++ l) (take-append-le n ys (post_of from room xs) fits))
    ∙ sym (take-add from n (put_mid from room xs ys))

pub loop-done-preserved : goal.loop-done-preserved
loop-done-preserved g c =
    let from = c.loop-done.done in
    let room = length c.loop-done.buffer - from in
    let within = c.loop-done.invariant.within in
    record {
      within = search rules;
      given = subst (Consumes _ _) (put_after from room c.in_ok-n.n c.loop-done.buffer c.read.new.buf within c.in_ok-n.ensures.bound.0)
          (Consumes-trans _ _ _ _ _ c.loop-done.invariant.given c.in_ok-n.ensures.bytes.0);
    }
