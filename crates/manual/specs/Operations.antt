-- What Ghidra's P-Code Reference Manual says of each operation, as arithmetic at a width of w bits.
-- An operand of w bits is a number below 2 ^ w, and so is each result. Assumes nothing: these are definitions.
use Rattle.std.specs.Prelude.{Bool, cond, ℕ, suc, ◌+◌, ◌-◌, ◌*◌, ◌/◌, ◌%◌, ◌^◌, min, leb, ltb, ℤ, pos, negsuc, ◌+ℤ◌, ◌-ℤ◌}
use Rattle.std.specs.Int.Bits.{bit_or, bit_xor}
use Rattle.std.specs.Int.Signed.{mag}

-- INT_ADD: the sum, modulo the width
abbrev pub int_add : (w a b : ℕ) → ℕ
int_add w a b = (a + b) % 2 ^ w

-- INT_SUB: a minus b, modulo the width
abbrev pub int_sub : (w a b : ℕ) → ℕ
int_sub w a b = (a + (2 ^ w - b)) % 2 ^ w

-- INT_MULT: the product, modulo the width
abbrev pub int_mult : (w a b : ℕ) → ℕ
int_mult w a b = a * b % 2 ^ w

-- INT_2COMP: the negation, modulo the width
abbrev pub int_2comp : (w a : ℕ) → ℕ
int_2comp w a = int_sub w 0 a

-- INT_XOR and INT_OR: bit by bit
abbrev pub int_xor : (w a b : ℕ) → ℕ
int_xor w a b = bit_xor a b

abbrev pub int_or : (w a b : ℕ) → ℕ
int_or w a b = bit_or a b

-- INT_LEFT and INT_RIGHT: n is an unsigned count of bits and vacated bits are zero. A count past the width does what the width
-- does, which leaves zero
abbrev pub int_left : (w a n : ℕ) → ℕ
int_left w a n = a * 2 ^ min n w % 2 ^ w

abbrev pub int_right : (w a n : ℕ) → ℕ
int_right w a n = a / 2 ^ min n w

-- a read as a signed number of w bits: `negsuc k` is -1 - k
abbrev pub signed : (w a : ℕ) → ℤ
signed w a = cond (ltb a (2 ^ (w - 1))) (pos a) (negsuc (2 ^ w - suc a))

-- INT_SRIGHT: vacated bits copy the sign bit, so a count past the width leaves zero or all ones
abbrev pub int_sright : (w a n : ℕ) → ℕ
int_sright w a n = cond (ltb a (2 ^ (w - 1))) (a / 2 ^ min n w) (2 ^ w - suc ((2 ^ w - suc a) / 2 ^ min n w))

-- INT_SEXT: a of v bits as a number of w bits, v ≤ w, the sign bit filling the new ones
abbrev pub int_sext : (v w a : ℕ) → ℕ
int_sext v w a = cond (ltb a (2 ^ (v - 1))) a (2 ^ w - (2 ^ v - a))

-- INT_CARRY: 1 if the unsigned sum does not fit w bits, else 0
unfoldable pub int_carry : (w a b : ℕ) → ℕ
int_carry w a b = cond (ltb (a + b) (2 ^ w)) 0 1

-- 0 if z is a signed number of w bits, -2^(w-1) ≤ z < 2^(w-1), else 1: `mag` is k of `pos k` and of `negsuc k`
unfoldable pub unfit : (w : ℕ) → ℤ → ℕ
unfit w z = cond (ltb (mag z) (2 ^ (w - 1))) 0 1

-- INT_SCARRY and INT_SBORROW: 1 if the signed sum, or difference, does not fit w bits
unfoldable pub int_scarry : (w a b : ℕ) → ℕ
int_scarry w a b = unfit w (signed w a +ℤ signed w b)

unfoldable pub int_sborrow : (w a b : ℕ) → ℕ
int_sborrow w a b = unfit w (signed w a -ℤ signed w b)

-- A difference d of two constants, wrapped at 64 bits and read as an i64: whether it is negative, and how far from zero
abbrev pub negative64 : ℕ → Bool
negative64 d = leb (2 ^ 63) d

abbrev pub amount64 : ℕ → ℕ
amount64 d = cond (negative64 d) (int_2comp 64 d) d
