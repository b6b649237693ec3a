-- 01's example P1 whole, through the call: its words, what they become, and what they become without room. Assumes nothing.
-- The laws that rest on what an edit in must-fail/ changes are in proofs/Whole.antt.
use Rattle.std.specs.Prelude.{List, [], ◌∷◌, ℕ}

-- the words of (x - 5) + 3, with root 4 and count 5, and what lies after them
abbrev pub p1 : List ℕ → List ℕ
p1 rest =
    0x0101_0000_0000_0003 ∷ 0x10
    ∷ 0x0201_0000_0000_0000 ∷ 5
    ∷ 0x0501_0000_0001_0000 ∷ 0
    ∷ 0x0201_0000_0000_0000 ∷ 3
    ∷ 0x0401_0002_0003_0000 ∷ 0
    ∷ rest

-- ROOM FOR SEVEN NODES, whatever is in it, and a word more
abbrev pub seven : List ℕ
seven = p1 (0xA ∷ 0xB ∷ 0xC ∷ 0xD ∷ 0xE ∷ [])

-- ROOM FOR SIX: answer 7, and node 5's words are zero
abbrev pub six : List ℕ
six = p1 (0xA ∷ 0xB ∷ 0xE ∷ [])
