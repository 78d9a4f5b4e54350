use Rattle.std.proofs.Common.{inl, sym, ◌∙◌}
use Rattle.script.proofs.NumbersSaid.{no_number, number_said}
use Rattle.script.proofs.orders.words.named_node.Goals as goal

pub returns-then-not-is_decimal-clause-refused : goal.returns-then-not-is_decimal-clause-refused
returns-then-not-is_decimal-clause-refused c = inl (c.no_order.ensures, no_number c.args.word.now (sym c.is_decimal.ensures ∙ c.if-not-is_decimal.true))

pub returns-clause-number : goal.returns-clause-number
returns-clause-number c =
    number_said c.args.word.now c.parse.result c.unwrap_or.result (sym c.is_decimal.ensures ∙ c.if-not-is_decimal.false) c.parse.ensures.value.0 c.unwrap_or.ensures
