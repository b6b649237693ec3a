-- The value of a tree, operation by operation, as the manual has it. Assumes nothing: these are definitions.
use Rattle.std.specs.Prelude.{ℕ, ◌*◌, ◌^◌, ◌<◌}
use Rattle.format.specs.Header.{size_of}
use Rattle.format.specs.Nodes.{header_of}
use Rattle.format.specs.declared.Bin.{Bin}
use Rattle.format.specs.declared.Node.{Node}
use Rattle.format.specs.declared.Un.{Un}
use Rattle.manual.specs.Operations.{int_add, int_sub, int_mult, int_2comp, int_xor, int_or, int_left, int_right, int_sright, int_sext, int_carry, int_scarry, int_sborrow}
use Rattle.tree.specs.Tree.{Tree, top, entry, const, bind, unary, binary, size}

-- s is the node's size in bytes, c its left child's
abbrev pub un_value : Un → (s c x : ℕ) → ℕ
un_value Un.SignExtend s c x = int_sext (8 * c) (8 * s) x
un_value Un.Int2Comp s c x = int_2comp (8 * s) x

abbrev pub bin_value : Bin → (s c x y : ℕ) → ℕ
bin_value Bin.Add s c x y = int_add (8 * s) x y
bin_value Bin.Sub s c x y = int_sub (8 * s) x y
bin_value Bin.Mul s c x y = int_mult (8 * s) x y
bin_value Bin.Xor s c x y = int_xor (8 * s) x y
bin_value Bin.Or s c x y = int_or (8 * s) x y
bin_value Bin.IntLeftShift s c x y = int_left (8 * s) x y
bin_value Bin.IntRightShift s c x y = int_right (8 * s) x y
bin_value Bin.IntSignedRightShift s c x y = int_sright (8 * s) x y
bin_value Bin.IntCarry s c x y = int_carry (8 * c) x y
bin_value Bin.IntSCarry s c x y = int_scarry (8 * c) x y
bin_value Bin.IntSBorrow s c x y = int_sborrow (8 * c) x y

-- An assignment gives a value to the two words of an input. It fits if each value fits the size in the first word.
abbrev pub Assignment : Type 0
Assignment = (word payload : ℕ) → ℕ

abbrev pub Fitting : Assignment → Type 0
Fitting ρ = (word payload : ℕ) → ρ word payload < 2 ^ (8 * size_of word)

-- Top has no value: what is said of values is said of trees from which no Top is reached
abbrev pub value : Assignment → Tree → ℕ
value ρ top = 0
value ρ (entry s space offset) = ρ (header_of (Node.Entry s space offset)) offset
value ρ (const s v) = v
value ρ (bind s id) = ρ (header_of (Node.Bind s id)) id
value ρ (unary op s a) = un_value op s (size a) (value ρ a)
value ρ (binary op s a b) = bin_value op s (size a) (value ρ a) (value ρ b)
