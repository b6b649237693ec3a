-- A node's answer from its children's, which lie below. Assumes nothing.
use Rattle.std.proofs.Common.{rules, inl, inr, ◌≡◌, Err, sym, ◌∙◌, arith}
use Rattle.eval.specs.AnswerLaws.{answer_of_node, answer_one, answer_two, only_child, left_child, right_child, operand_fits, operands_fit}
use Rattle.eval.proofs.walk.Evaluation.+value_at.Goals as goal

pub value_at-requires : goal.value_at-requires
value_at-requires t c =
    let child =
    only_child c.args.self.now.nodes.live c.requires.i_lt_count c.args.self.now.rows.now c.args.self.now.good c.requires.topless _ _ _
    (sym c.in-Unary.ensures) in
    (omega (arith, child.0), child.1)

pub returns-in_err-x-in-Unary : goal.returns-in_err-x-in-Unary
returns-in_err-x-in-Unary t c =
    let same : c.from_residual.result ≡ Err c.in_err-x-in-Unary.field-0.0 = search rules in
    same
    ∙ sym (answer_one c.args.self.now.nodes.live c.requires.i_lt_count c.args.self.now.rows.now _ _ _ (sym c.in-Unary.ensures)
    ∙ rw (← c.in_err-x-in-Unary.ensures))

pub un_value-requires : goal.un_value-requires
un_value-requires t c =
    rw (c.size.ensures, c.node-in-Unary.ensures)
    (operand_fits c.args.self.now.nodes.live c.requires.i_lt_count c.args.self.now.rows.now c.args.self.now.good c.requires.topless _ _ _
    (sym c.in-Unary.ensures) _ c.in_ok-x-in-Unary.ensures)

pub returns-in_ok-x-in-Unary : goal.returns-in_ok-x-in-Unary
returns-in_ok-x-in-Unary t c =
    rw (
      answer_one c.args.self.now.nodes.live c.requires.i_lt_count c.args.self.now.rows.now _ _ _ (sym c.in-Unary.ensures),
      ← c.in_ok-x-in-Unary.ensures,
      c.un_value.ensures,
      c.size.ensures,
      c.node-in-Unary.ensures,
    )

pub value_at-requires-in-Binary : goal.value_at-requires-in-Binary
value_at-requires-in-Binary t c =
    let child =
    left_child c.args.self.now.nodes.live c.requires.i_lt_count c.args.self.now.rows.now c.args.self.now.good c.requires.topless _ _ _ _
    (sym c.in-Binary.ensures) in
    (omega (arith, child.0), child.1)

pub returns-in_err-first-in-Binary : goal.returns-in_err-first-in-Binary
returns-in_err-first-in-Binary t c =
    let same : c.from_residual-in_err-first-in-Binary.result ≡ Err c.in_err-first-in-Binary.field-0.0 = search rules in
    same
    ∙ sym (answer_two c.args.self.now.nodes.live c.requires.i_lt_count c.args.self.now.rows.now _ _ _ _ (sym c.in-Binary.ensures)
    ∙ rw (← c.in_err-first-in-Binary.ensures))

pub value_at-requires-in-Binary-2 : goal.value_at-requires-in-Binary-2
value_at-requires-in-Binary-2 t c =
    let child =
    right_child c.args.self.now.nodes.live c.requires.i_lt_count c.args.self.now.rows.now c.args.self.now.good c.requires.topless _ _ _ _
    (sym c.in-Binary.ensures) in
    (omega (arith, child.0), child.1)

pub returns-in_err-second-in-Binary : goal.returns-in_err-second-in-Binary
returns-in_err-second-in-Binary t c =
    let same : c.from_residual-in_err-second-in-Binary.result ≡ Err c.in_err-second-in-Binary.field-0.0 = search rules in
    same
    ∙ sym (answer_two c.args.self.now.nodes.live c.requires.i_lt_count c.args.self.now.rows.now _ _ _ _ (sym c.in-Binary.ensures)
    ∙ rw (← c.in_ok-first-in-Binary.ensures, ← c.in_err-second-in-Binary.ensures))

pub bin_value-requires : goal.bin_value-requires
bin_value-requires t c =
    rw (c.size-in-Binary.ensures, c.node-in-Binary.ensures)
    (operands_fit c.args.self.now.nodes.live c.requires.i_lt_count c.args.self.now.rows.now c.args.self.now.good c.requires.topless _ _ _ _
    (sym c.in-Binary.ensures) _ _ c.in_ok-first-in-Binary.ensures c.in_ok-second-in-Binary.ensures)

pub returns-in_ok-second-in-Binary : goal.returns-in_ok-second-in-Binary
returns-in_ok-second-in-Binary t c =
    rw (
      answer_two c.args.self.now.nodes.live c.requires.i_lt_count c.args.self.now.rows.now _ _ _ _ (sym c.in-Binary.ensures),
      ← c.in_ok-first-in-Binary.ensures,
      ← c.in_ok-second-in-Binary.ensures,
      c.bin_value.ensures,
      c.size-in-Binary.ensures,
      c.node-in-Binary.ensures,
    )

pub returns-in-Top : goal.returns-in-Top
returns-in-Top t c = sym (answer_of_node c.args.self.now.nodes.live c.requires.i_lt_count c.args.self.now.rows.now _ (sym c.in-Top.ensures))

pub returns-in-Entry : goal.returns-in-Entry
returns-in-Entry t c =
    let answer = answer_of_node c.args.self.now.nodes.live c.requires.i_lt_count c.args.self.now.rows.now in
    elim c.in-Entry.is [
      | inl e ↦ c.input_at.ensures ∙ sym (answer _ (sym c.node.ensures ∙ e.3))
      | inr e ↦ c.input_at.ensures ∙ sym (answer _ (sym c.node.ensures ∙ e.2))
    ]

pub returns-in-Const : goal.returns-in-Const
returns-in-Const t c =
    sym (answer_of_node c.args.self.now.nodes.live c.requires.i_lt_count c.args.self.now.rows.now _ (sym c.in-Const.ensures))
