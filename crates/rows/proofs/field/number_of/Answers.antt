use Rattle.std.proofs.Common.{◌≡◌, ◌==◌, Some, get_or, ap, sym, subst, ◌∙◌}
use Rattle.rows.specs.Fields.{Text, number_of}
use Rattle.rows.proofs.NumberRead.{number_read}
use Rattle.rows.proofs.field.number_of.Goals as goal

pub returns-in-Ok-parse : goal.returns-in-Ok-parse
returns-in-Ok-parse c =
    let same : c.in-Ok.text.now ≡ c.args.digits.now = c.in-Ok.ensures.cases.0 in
    let P : Text → Type 0 = λ text. number_of text ≡ Some c.in-Ok-parse.number in
    subst P same (number_read c.in-Ok.text.now c.has_sign.result c.in-Ok-parse.number
    (c.has_sign.ensures ∙ ap (λ text. get_or text 0 0 == 43) (sym same)) c.if-has_sign.false c.in-Ok-parse.ensures.value.0)
