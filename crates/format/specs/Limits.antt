-- The numbers that an arena and a tree are limited by. Assumes nothing: these are definitions.
use Rattle.std.specs.Prelude.{List, ℕ, ◌+◌, ◌*◌, ◌/◌, min, get_or}

-- how many words a node takes
abbrev pub node_words : ℕ
node_words = 2

-- how many nodes an arena holds at most
abbrev pub max_nodes : ℕ
max_nodes = 4096

-- how many nodes a tree may have, counted once for every way they are reached
abbrev pub max_unfolded : ℕ
max_unfolded = 4096

-- how many nodes a path from the root may have
abbrev pub max_path : ℕ
max_path = 128

-- how many nodes a slice of `len` words holds
abbrev pub capacity : ℕ → ℕ
capacity len = min (len / node_words) max_nodes

-- the two words of node i
abbrev pub header_at : List ℕ → ℕ → ℕ
header_at words i = get_or words (node_words * i) 0

abbrev pub payload_at : List ℕ → ℕ → ℕ
payload_at words i = get_or words (node_words * i + 1) 0
