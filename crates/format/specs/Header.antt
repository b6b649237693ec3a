-- A node's first word, and its fields. Assumes nothing.
-- The laws that rest on what an edit in must-fail/ changes are in proofs/Header.antt.
use Rattle.std.specs.Prelude.{◌≡◌, ℕ, ◌+◌, ◌*◌, ◌/◌, ◌%◌, ◌^◌, ◌<◌}

-- `bits` bits of a word, from bit `at` up
abbrev pub field : (word at bits : ℕ) → ℕ
field word at bits = word / 2 ^ at % 2 ^ bits

-- most significant field first: kind 8 bits, size 8, left index 16, right index 16, space 16
abbrev pub kind_of : ℕ → ℕ
kind_of word = field word 56 8

abbrev pub size_of : ℕ → ℕ
size_of word = field word 48 8

abbrev pub left_of : ℕ → ℕ
left_of word = field word 32 16

abbrev pub right_of : ℕ → ℕ
right_of word = field word 16 16

abbrev pub space_of : ℕ → ℕ
space_of word = field word 0 16

abbrev pub header : (kind size left right space : ℕ) → ℕ
header kind size left right space = kind * 2 ^ 56 + size * 2 ^ 48 + left * 2 ^ 32 + right * 2 ^ 16 + space

-- each number fits its field
pub record InFields (kind size left right space : ℕ) : Type 0 where
  pub kind8 : kind < 2 ^ 8
  pub size8 : size < 2 ^ 8
  pub left16 : left < 2 ^ 16
  pub right16 : right < 2 ^ 16
  pub space16 : space < 2 ^ 16

-- the fields that a word has
pub record Fields (word kind size left right space : ℕ) : Type 0 where
  pub kind_is : kind_of word ≡ kind
  pub size_is : size_of word ≡ size
  pub left_is : left_of word ≡ left
  pub right_is : right_of word ≡ right
  pub space_is : space_of word ≡ space
