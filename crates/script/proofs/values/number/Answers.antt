use Rattle.script.proofs.FieldsRead.{no_number_read, no_signed_number, number_read}
use Rattle.script.proofs.values.number.Goals as goal

pub returns-then-has_sign-clause-form : goal.returns-then-has_sign-clause-form
returns-then-has_sign-clause-form c same =
    no_signed_number c.args.text.now _ c.has_sign.ensures c.if-has_sign.true

pub returns-in-Ok-clause-value : goal.returns-in-Ok-clause-value
returns-in-Ok-clause-value c =
    number_read c.args.text.now _ c.in-Ok.number c.has_sign.ensures c.if-has_sign.false c.in-Ok.ensures.value.0

pub returns-in-Err-clause-form : goal.returns-in-Err-clause-form
returns-in-Err-clause-form c same =
    no_number_read c.args.text.now _ c.has_sign.ensures c.if-has_sign.false c.in-Err.ensures.value.0
