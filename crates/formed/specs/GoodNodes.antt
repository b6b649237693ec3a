-- A well-made node's words are given back by their node, and such words are well formed. Assumes nothing.
use Rattle.std.specs.Prelude.{Bool, true, ◌&&◌, List, ◌≡◌, refl, ℕ, ◌*◌, ◌^◌, ◌<◌, leb, ltb, get_or}
use Rattle.std.proofs.Common.{ap, sym, ◌∙◌, eqb-true, ltb-true, lt-ltb}
use Rattle.std.proofs.lemmas.Bool.{lt-leb}
use Rattle.arena.specs.Live.{Good}
use Rattle.format.specs.Header.{kind_of, size_of, left_of, right_of, space_of}
use Rattle.format.specs.KindRules.{number_of, arity_of, uses_space, uses_payload}
use Rattle.format.proofs.KindRules.{row_ruled}
use Rattle.format.specs.Kinds.{kind_count, row_of}
use Rattle.format.specs.Limits.{node_words, header_at, payload_at}
use Rattle.format.specs.Nodes.{header_of, payload_of, Narrow}
use Rattle.format.specs.NodesOfWords.{Unused}
use Rattle.format.proofs.NodesOfWords.{header_of_node, payload_of_node, narrow_of_words}
use Rattle.format.specs.declared.Node.{Node}
use Rattle.format.specs.declared.Row.{Row}
use Rattle.formed.specs.Fits.{Fits, kind_known, row_fits_lem, unused_child_zero, unused_zero}
use Rattle.formed.specs.NodeFields.{node_shape, node_left, node_right, node_space, shape_known, fields_of_node, line_of_shape}
use Rattle.formed.specs.Scan.{WellMade}
use Rattle.tree.specs.Arena.{node_at, Below}
use Rattle.tree.specs.Form.{zero_unless_used, below_if_used, row_fits, row_sized, well_formed, well_sized}

-- a node's own fields are as its shape has them
module _ (i : ℕ) where
  fits_shape : (node : Node) → Below i node →
      (below_if_used (leb 1 (arity_of (node_shape node))) (node_left node) i
      && (below_if_used (leb 2 (arity_of (node_shape node))) (node_right node) i
      && (zero_unless_used (uses_space (node_shape node)) (node_space node)
      && zero_unless_used (uses_payload (node_shape node)) (payload_of node)))) ≡ true
  fits_shape Node.Top b = refl
  fits_shape (Node.Entry size space offset) b = refl
  fits_shape (Node.Const size value) b = refl
  fits_shape (Node.Bind size id) b = refl
  fits_shape (Node.Unary op size left) b = rw (lt-ltb left i b)
  fits_shape (Node.Binary op size left right) b = rw (lt-ltb left i b.0, lt-ltb right i b.1)

  below_shape : (node : Node) →
      below_if_used (leb 1 (arity_of (node_shape node))) (node_left node) i ≡ true →
      below_if_used (leb 2 (arity_of (node_shape node))) (node_right node) i ≡ true → Below i node
  below_shape Node.Top l r = tt
  below_shape (Node.Entry size space offset) l r = tt
  below_shape (Node.Const size value) l r = tt
  below_shape (Node.Bind size id) l r = tt
  below_shape (Node.Unary op size left) l r = ltb-true left i l
  below_shape (Node.Binary op size left right) l r = (ltb-true left i l, ltb-true right i r)

-- words that are a node's
module _ (word payload i : ℕ) (node : Node) (narrow : Narrow node) (header_is : header_of node ≡ word) where
  formed_by_node : payload_of node ≡ payload → Below i node →
      (ltb (kind_of word) kind_count && row_fits (row_of (kind_of word)) word payload i) ≡ true
  formed_by_node payload_is b =
      let f = fields_of_node node narrow in
      let line = line_of_shape (node_shape node) in
      let known = lt-ltb (number_of (node_shape node)) kind_count (shape_known (node_shape node)) in
      rw (← header_is, ← payload_is, f.kind_is, known, line.arity_is, line.space_is, line.payload_is, f.left_is, f.right_is, f.space_is)
      (fits_shape i node b)

  below_by_node : Fits (row_of (kind_of word)) word payload i → Below i node
  below_by_node fits =
      let f = fields_of_node node narrow in
      let line = line_of_shape (node_shape node) in
      below_shape i node
      (rw (← header_is, f.kind_is, line.arity_is, f.left_is) at fits.left_fits)
      (rw (← header_is, f.kind_is, line.arity_is, f.right_is) at fits.right_fits)

pub well_formed_of_good : {words : List ℕ} {i : ℕ} → Good words i → well_formed words i ≡ true
unfolding well_formed
well_formed_of_good {words} {i} good =
    formed_by_node (header_at words i) (payload_at words i) i (node_at words i) (narrow_of_words (header_at words i) (payload_at words i))
    good.header_is good.payload_is good.below

-- Top, which is kind 0, has size 0
top_size_zero : (words : List ℕ) (i : ℕ) → well_sized words i ≡ true → kind_of (header_at words i) ≡ 0 → size_of (header_at words i) ≡ 0
unfolding well_sized row_of
top_size_zero words i size e =
    let h = header_at words i in
    let of_kind : ℕ → Bool = λ kind. row_sized words (row_of kind) h (payload_at words i) in
    eqb-true (size_of h) 0 (sym (ap of_kind e) ∙ size)

module _ (words : List ℕ) (narrow : (k : ℕ) → get_or words k 0 < 2 ^ 64) (i : ℕ) (made : WellMade words i) where
  abbrev word : ℕ
  word = header_at words i

  abbrev row : Row
  row = row_of (kind_of word)

  unused : Unused word (payload_at words i)
  unused =
      let fits = row_fits_lem words i made.formed in
      let known = kind_known words i made.formed in
      record {
        word64 = narrow (node_words * i);
        known = known;
        left_zero = λ h. unused_child_zero (leb 1 row.arity) (left_of word) i fits.left_fits (lt-leb 1 row.arity h);
        right_zero = λ h. unused_child_zero (leb 2 row.arity) (right_of word) i fits.right_fits (lt-leb 2 row.arity h);
        space_zero = unused_zero row.space (space_of word) fits.space_fits;
        payload_zero = unused_zero row.payload (payload_at words i) fits.payload_fits;
        top_size_zero = λ e. top_size_zero words i made.sized (sym (row_ruled (kind_of word) known).number_is ∙ ap number_of e);
      }

  pub good_of_well_made : Good words i
  good_of_well_made =
      let payload = payload_at words i in
      let header_is = header_of_node word payload unused in
      let fits = row_fits_lem words i made.formed in
      record {
        header_is = header_is;
        payload_is = payload_of_node word payload unused;
        below = below_by_node word payload i (node_at words i) (narrow_of_words word payload) header_is fits;
      }
