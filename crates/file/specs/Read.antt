-- A file of which more bytes are read than the longest good one has is answered as if all of it were read. Assumes nothing.
use Rattle.std.specs.Prelude.{List, ◌++◌, ◌≡◌, ℕ, ◌+◌, ◌*◌, ◌<◌, length, replicate, IfSome, Option, None, Some}
use Rattle.std.specs.Io.KnownBytes.{Consumes, IsAtEnd}
use Rattle.std.proofs.Common.{arith, ap, sym, ◌∙◌, length-append}
use Rattle.std.proofs.Math.Decide.{dec_lt}
use Rattle.std.proofs.lemmas.Bool.Decides.{nat_tests}
use Rattle.std.proofs.lemmas.List.{length-replicate, append-nil}
use Rattle.format.specs.Limits.{capacity}
use Rattle.file.specs.File.{program_words, head_bytes, node_bytes, head_of, file_reply, program_reply}
use Rattle.file.specs.FileLaws.{bad_answer}

-- how many bytes the longest good file has, for an arena of `len` words
abbrev pub longest : ℕ → ℕ
longest len = head_bytes + node_bytes * capacity len

-- a longer file is bad
pub long_file : (bytes : List ℕ) (len : ℕ) → longest len < length bytes → head_of bytes (capacity len) ≡ None
unfolding head_of
long_file bytes len h = grind (arith, nat_tests)

same_reply : (one other words : List ℕ) → longest (length words) < length one → longest (length words) < length other → file_reply one words ≡ file_reply other words
same_reply one other words h g =
    let first = bad_answer one words (long_file one (length words) h) in
    let second = bad_answer other words (long_file other (length words) g) in
    sym first.0 ∙ second.0

-- what is read of an input has the answer of all that the input has: it is all of it, or else `most` bytes or more
pub read_reply : (known left : Option (List ℕ)) (read : List ℕ) (most : ℕ) → longest program_words < most →
    Consumes known left read → (length read < most → IsAtEnd left) → IfSome known (λ bytes. program_reply read ≡ program_reply bytes)
read_reply None left read most long given end = tt
read_reply (Some bytes) None read most long given end = absurd given
read_reply (Some bytes) (Some later) read most long given end = go (dec_lt (length read) most)
  where
    go : Dec (length read < most) → program_reply read ≡ program_reply bytes
    go (yes p) = sym (ap program_reply (given ∙ ap (λ (l : List ℕ). read ++ l) (end p) ∙ append-nil read))
    go (no p) =
        let zeros = length-replicate {A = ℕ} program_words 0 in
        same_reply read bytes (replicate program_words 0) (omega (arith, long, zeros)) (omega (arith, long, zeros, ap length given, length-append read later))
