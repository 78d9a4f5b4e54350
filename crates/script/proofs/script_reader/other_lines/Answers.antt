use Rattle.std.proofs.Common.{refl, ap, Err}
use Rattle.script.proofs.ManyLines.{first_bad, lines_more, one_number}
use Rattle.script.proofs.script_reader.other_lines.Goals as goal

pub returns-in-Err-Form-clause-refused : goal.returns-in-Err-Form-clause-refused
returns-in-Err-Form-clause-refused c bad same =
    (c.loop-index.index, one_number _ _ _ refl same, first_bad c.args.lines.now c.loop-index.index _ _ c.loop-index-test.true c.loop-index.invariant (c.in-Err-Form.ensures.form (ap Err c.in-Err-Form.field-0-is)))

pub loop-index-preserved : goal.loop-index-preserved
loop-index-preserved c =
    lines_more c.args.lines.now c.loop-index.index _ _ _ _ c.loop-index-test.true c.loop-index.invariant
    c.in-Ok.ensures.value c.in_ok-push-in-Ok.ensures.items
