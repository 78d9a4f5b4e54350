use Rattle.std.proofs.Common.{◌∙◌, ap}
use Rattle.script.specs.Fields.{texts}
use Rattle.script.proofs.OneOpening.{opening_missing, opening_said}
use Rattle.script.proofs.script_reader.opening_line.Goals as goal

pub returns-clause-value : goal.returns-clause-value
returns-clause-value c =
    opening_said c.args.line.now c.in-Ok.line.now (texts c.as_slice.result.now) c.opening_of.result c.in-Ok.ensures.cases.0
    c.in-Ok.ensures.cases.1 (ap texts c.as_slice.ensures.value ∙ c.in_ok-fields.ensures) c.opening_of.ensures.value

pub returns-clause-form : goal.returns-clause-form
returns-clause-form c form =
    opening_missing c.args.line.now c.in-Ok.line.now (texts c.as_slice.result.now) c.in-Ok.ensures.cases.0
    (ap texts c.as_slice.ensures.value ∙ c.in_ok-fields.ensures) (c.opening_of.ensures.form form)
