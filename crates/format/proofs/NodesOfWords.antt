-- A node's words give the node back, and words that leave unused fields zero are given back by their node.
-- Assumes nothing.
use Rattle.std.specs.Prelude.{◌≡◌, refl, false, ℕ, ◌<◌, ◌≤◌}
use Rattle.std.proofs.Common.{ap, ◌∙◌, sym, arith, lit<}
use Rattle.format.specs.Header.{kind_of, size_of, left_of, right_of, space_of, header}
use Rattle.format.proofs.Header.{fields_of_header, header_of_fields}
use Rattle.format.specs.Kinds.{shape_of, kind_count, un_number, bin_number}
use Rattle.format.specs.KindRules.{number_of, arity_of, uses_space, uses_payload}
use Rattle.format.proofs.KindRules.{row_ruled, shape_of_unknown, shape_by_number, un_number_known, bin_number_known}
use Rattle.format.specs.Nodes.{shaped, node_of, header_of, payload_of, Narrow}
use Rattle.format.specs.declared.Node.{Node}
use Rattle.format.specs.declared.Shape.{Shape}
use Rattle.format.specs.NodesOfWords.{Unused, field_narrow}

-- a word of a shape's number reads as a node of that shape
pub node_of_shape : (shape : Shape) (word payload : ℕ) → kind_of word ≡ number_of shape →
    node_of word payload ≡ shaped shape word payload
unfolding node_of
node_of_shape shape word payload e =
    ap (λ (s : Shape). shaped s word payload) (shape_by_number shape e)

-- a number that is no kind's reads as Top
pub node_of_unknown : (word payload : ℕ) → kind_count ≤ kind_of word → node_of word payload ≡ Node.Top
unfolding node_of
node_of_unknown word payload h = rw (shape_of_unknown (kind_of word) h)

-- the node of its words is the node
pub node_of_header : (node : Node) → Narrow node → node_of (header_of node) (payload_of node) ≡ node
node_of_header Node.Top h = node_of_shape Shape.Top 0 0 refl
node_of_header (Node.Entry size space offset) h =
    let f = fields_of_header 1 size 0 0 space (omega arith) in
    node_of_shape Shape.Entry (header 1 size 0 0 space) offset f.kind_is ∙ cc
node_of_header (Node.Const size value) h =
    let f = fields_of_header 2 size 0 0 0 (omega arith) in
    node_of_shape Shape.Const (header 2 size 0 0 0) value f.kind_is ∙ cc
node_of_header (Node.Bind size id) h =
    let f = fields_of_header 3 size 0 0 0 (omega arith) in
    node_of_shape Shape.Bind (header 3 size 0 0 0) id f.kind_is ∙ cc
node_of_header (Node.Unary op size left) h =
    let known = un_number_known op in
    let f = fields_of_header (un_number op) size left 0 0 (omega arith) in
    node_of_shape (Shape.Unary op) (header (un_number op) size left 0 0) 0 f.kind_is ∙ cc
node_of_header (Node.Binary op size left right) h =
    let known = bin_number_known op in
    let f = fields_of_header (bin_number op) size left right 0 (omega arith) in
    node_of_shape (Shape.Binary op) (header (bin_number op) size left right 0) 0 f.kind_is ∙ cc

narrow_of_shape : (shape : Shape) (word payload : ℕ) → Narrow (shaped shape word payload)
narrow_of_shape Shape.Top word payload = tt
narrow_of_shape Shape.Entry word payload = (field_narrow word 48 8, field_narrow word 0 16)
narrow_of_shape Shape.Const word payload = field_narrow word 48 8
narrow_of_shape Shape.Bind word payload = field_narrow word 48 8
narrow_of_shape (Shape.Unary op) word payload = (field_narrow word 48 8, field_narrow word 32 16)
narrow_of_shape (Shape.Binary op) word payload =
    (field_narrow word 48 8, field_narrow word 32 16, field_narrow word 16 16)

-- whatever two words hold, their node's fields fit a header
pub narrow_of_words : (word payload : ℕ) → Narrow (node_of word payload)
unfolding node_of
narrow_of_words word payload = narrow_of_shape (shape_of (kind_of word)) word payload

-- the same by the shape
record Spare (shape : Shape) (word payload : ℕ) : Type 0 where
  number : kind_of word ≡ number_of shape
  left : arity_of shape < 1 → left_of word ≡ 0
  right : arity_of shape < 2 → right_of word ≡ 0
  space : uses_space shape ≡ false → space_of word ≡ 0
  payload_zero : uses_payload shape ≡ false → payload ≡ 0
  size : shape ≡ Shape.Top → size_of word ≡ 0

module _ (word payload : ℕ) where
  abbrev whole : ℕ
  whole = header (kind_of word) (size_of word) (left_of word) (right_of word) (space_of word)

  header_of_shape : (shape : Shape) → Spare shape word payload → header_of (shaped shape word payload) ≡ whole
  header_of_shape Shape.Top u = rw (u.number, u.left (lit< tt), u.right (lit< tt), u.space refl, u.size refl)
  header_of_shape Shape.Entry u = rw (u.number, u.left (lit< tt), u.right (lit< tt))
  header_of_shape Shape.Const u = rw (u.number, u.left (lit< tt), u.right (lit< tt), u.space refl)
  header_of_shape Shape.Bind u = rw (u.number, u.left (lit< tt), u.right (lit< tt), u.space refl)
  header_of_shape (Shape.Unary op) u = rw (u.number, u.right (lit< tt), u.space refl)
  header_of_shape (Shape.Binary op) u = rw (u.number, u.space refl)

  payload_of_shape : (shape : Shape) → Spare shape word payload → payload_of (shaped shape word payload) ≡ payload
  payload_of_shape Shape.Entry u = refl
  payload_of_shape Shape.Const u = refl
  payload_of_shape Shape.Bind u = refl
  payload_of_shape _ u = sym (u.payload_zero refl)

  spare : Unused word payload → Spare (shape_of (kind_of word)) word payload
  spare u =
      let r = row_ruled (kind_of word) u.known in
      record {
        number = sym r.number_is;
        left = λ h. u.left_zero (rw r.arity_is h);
        right = λ h. u.right_zero (rw r.arity_is h);
        space = λ h. u.space_zero (r.space_is ∙ h);
        payload_zero = λ h. u.payload_zero (r.payload_is ∙ h);
        size = u.top_size_zero;
      }

  -- the words of their node are the words
  pub header_of_node : Unused word payload → header_of (node_of word payload) ≡ word
  unfolding node_of
  header_of_node u = header_of_shape (shape_of (kind_of word)) (spare u) ∙ header_of_fields word u.word64

  pub payload_of_node : Unused word payload → payload_of (node_of word payload) ≡ payload
  unfolding node_of
  payload_of_node u = payload_of_shape (shape_of (kind_of word)) (spare u)
