-- Sizes, and numbers of a size: what functions on them ask of their arguments. Assumes nothing: these are definitions.
use Rattle.std.specs.Prelude.{ℕ, ◌*◌, ◌^◌, ◌<◌, ◌≤◌}

-- a size in bytes that a u64 can hold
pub record Size (size : ℕ) : Type 0 where
  pub least : 1 ≤ size
  pub most : size ≤ 8

-- a number of `size` bytes, whatever the size
abbrev pub Fits : (size a : ℕ) → Type 0
Fits size a = a < 2 ^ (8 * size)

-- a number of `size` bytes
pub record Operand (size a : ℕ) : Type 0 where
  pub least : 1 ≤ size
  pub most : size ≤ 8
  pub fits : a < 2 ^ (8 * size)

-- two numbers of `size` bytes
pub record Operands (size a b : ℕ) : Type 0 where
  pub least : 1 ≤ size
  pub most : size ≤ 8
  pub left : a < 2 ^ (8 * size)
  pub right : b < 2 ^ (8 * size)

-- a number of `from` bytes, to be one of `to`
pub record Extension (from to a : ℕ) : Type 0 where
  pub least : 1 ≤ from
  pub wider : from ≤ to
  pub most : to ≤ 8
  pub fits : a < 2 ^ (8 * from)
