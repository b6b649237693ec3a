-- The verdict on a node by its kind, and by the kind's row of the table. Assumes nothing.
use Rattle.std.specs.Prelude.{true, false, cond, List, ◌≡◌, refl, ℕ, ◌≤◌, ◌<◌, length, get_or, Err, Ok}
use Rattle.std.specs.Result.{is_err}
use Rattle.std.proofs.Common.{lt-ltb, le-ltb, ◌∙◌, arith}
use Rattle.format.specs.Header.{kind_of}
use Rattle.format.specs.KindRules.{rows}
use Rattle.format.specs.Kinds.{kind_count, row_of, unknown_kind}
use Rattle.format.specs.Limits.{header_at, payload_at}
use Rattle.format.specs.declared.Row.{Row}
use Rattle.format.proofs.KindRules.{row_at}
use Rattle.tree.specs.Form.{row_fits, row_sized, well_formed, well_sized, judged, or_else, Verdict}
use Rattle.tree.specs.declared.Refusal.{Refusal}

-- a verdict that is no refusal is a pass, and one that is stays what it is, whatever comes after
pub passes : (v : Verdict) → false ≡ is_err v → v ≡ Ok tt
passes (Ok u) e = refl
passes (Err refusal) e = let z : ◌≡◌ {A = ℕ} 0 1 = cc in absurd (omega arith)

pub refuses : (v next : Verdict) → true ≡ is_err v → or_else v next ≡ v
refuses (Ok u) next e = let z : ◌≡◌ {A = ℕ} 0 1 = cc in absurd (omega arith)
refuses (Err refusal) next e = refl

module _ (words : List ℕ) (i : ℕ) where
  abbrev word : ℕ
  word = header_at words i

  pub unknown_judged : length rows ≤ kind_of word → Err (Refusal.IllFormed i) ≡ judged words i
  unfolding judged well_formed
  unknown_judged h = rw (le-ltb (kind_of word) kind_count h)

  pub judged_by_row : (row : Row) → kind_of word < length rows → ((d : Row) → row ≡ get_or rows (kind_of word) d) →
      judged words i
      ≡ cond (row_fits row word (payload_at words i) i)
      (cond (row_sized words row word (payload_at words i)) (Ok tt) (Err (Refusal.IllSized i)))
      (Err (Refusal.IllFormed i))
  unfolding judged well_formed well_sized
  judged_by_row row known row_is = rw (lt-ltb (kind_of word) kind_count known, row_is unknown_kind.row ∙ row_at (kind_of word))

  -- the same by the number of kinds and by the kind's row
  pub unknown_kind_judged : kind_count ≤ kind_of word → judged words i ≡ Err (Refusal.IllFormed i)
  unfolding judged well_formed
  unknown_kind_judged h = rw (le-ltb (kind_of word) kind_count h)

  pub judged_by_kind : (row : Row) → kind_of word < kind_count → row ≡ row_of (kind_of word) →
      judged words i
      ≡ cond (row_fits row word (payload_at words i) i)
      (cond (row_sized words row word (payload_at words i)) (Ok tt) (Err (Refusal.IllSized i)))
      (Err (Refusal.IllFormed i))
  unfolding judged well_formed well_sized
  judged_by_kind row known row_is = rw (lt-ltb (kind_of word) kind_count known, row_is)
