-- Examples P6 to P9 and P12 of the scope, computed by the definitions. Assumes nothing.
use Rattle.std.specs.Prelude.{◌≡◌, refl, List, [], ◌∷◌, map, ℕ}
use Rattle.manual.specs.Operations.{int_left, int_sright, int_sext, int_carry, int_scarry, int_sborrow, unfit}

-- what the definition gives, and what the example expects
unfoldable pub rows : List (ℕ × ℕ)
rows =
    -- P6
    (int_sright 8 0x80 8, 0xFF)
    ∷ (int_sright 8 0x40 8, 0)
    -- P7
    ∷ (int_carry 64 0xFFFF_FFFF_FFFF_FFFF 1, 1)
    ∷ (int_carry 8 0xFF 0, 0)
    -- P8
    ∷ (int_scarry 8 0x7F 1, 1)
    ∷ (int_sborrow 8 0x80 1, 1)
    -- P9
    ∷ (int_sext 8 32 0x80, 0xFFFF_FF80)
    -- P12
    ∷ (int_left 8 1 7, 0x80)
    ∷ (int_left 8 1 8, 0)
    ∷ []

pub as_expected : map (λ row. row.0) rows ≡ map (λ row. row.1) rows
unfolding rows int_carry int_scarry int_sborrow unfit
as_expected = refl
