use Rattle.std.proofs.Common.{ap, sym, ◌∙◌}
use Rattle.script.specs.Fields.{texts}
use Rattle.script.specs.Orders.{LacksNumber}
use Rattle.script.proofs.NumbersSaid.{lacks_number, one_more, passed, pushed}
use Rattle.script.proofs.orders.words.members_of.Goals as goal

pub returns-in_err-number-clause-refused : goal.returns-in_err-number-clause-refused
returns-in_err-number-clause-refused c =
    passed c.from_residual.result c.in_err-number.field-0.0 (LacksNumber c.args.word.now) c.from_residual.ensures.1
    (lacks_number c.as_slice-parts.result.now c.args.word.now c.loop-part.part-index _ c.in_err-number.field-0.0 c.loop-part-test.true
    (ap texts c.as_slice-parts.ensures.value ∙ c.in-Ok.ensures) c.in_err-number.ensures.refused)

pub loop-part-preserved : goal.loop-part-preserved
loop-part-preserved c =
    one_more c.as_slice-parts.result.now c.loop-part.part-index _ _ _ _ c.loop-part-test.true c.loop-part.invariant
    c.in_ok-number.ensures.number (pushed c.push.result _ _ _ c.push.ensures.items (sym c.is_err.ensures.value ∙ c.if-is_err.false))
