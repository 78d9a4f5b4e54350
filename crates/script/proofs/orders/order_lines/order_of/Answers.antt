use Rattle.std.proofs.Common.{ap, codes, inr, refl, ◌∙◌}
use Rattle.script.specs.Fields.{texts}
use Rattle.script.proofs.OrdersRefused.{expel_refused, expels, stripped, words_order, words_refused}
use Rattle.script.proofs.orders.order_lines.order_of.Goals as goal

pub returns-in-Some-clause-order : goal.returns-in-Some-clause-order
returns-in-Some-clause-order c =
    expels c.expel_of.result c.args.line.now c.in-Some.client.now (stripped (codes "expel ") c.args.line.now c.in-Some.client.now c.in-Some.ensures.cases)
    c.expel_of.ensures.order c.expel_of.ensures.sound

pub returns-in-Some-clause-refused : goal.returns-in-Some-clause-refused
returns-in-Some-clause-refused c =
    expel_refused c.expel_of.result c.args.line.now c.in-Some.client.now (stripped (codes "expel ") c.args.line.now c.in-Some.client.now c.in-Some.ensures.cases)
    c.expel_of.ensures.refused

pub returns-in_default-fields_of-clause-refused : goal.returns-in_default-fields_of-clause-refused
returns-in_default-fields_of-clause-refused c = inr (c.in_default.ensures.cases, inr refl)

pub returns-clause-order : goal.returns-clause-order
returns-clause-order c =
    words_order c.order_of_words.result c.args.line.now (texts c.as_slice.result.now) c.in_default.ensures.cases
    (ap texts c.as_slice.ensures.value ∙ c.in-Ok.ensures) c.order_of_words.ensures.order

pub returns-clause-refused : goal.returns-clause-refused
returns-clause-refused c =
    words_refused c.order_of_words.result c.args.line.now (texts c.as_slice.result.now) c.in_default.ensures.cases
    (ap texts c.as_slice.ensures.value ∙ c.in-Ok.ensures) c.order_of_words.ensures.refused
