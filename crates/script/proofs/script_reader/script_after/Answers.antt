use Rattle.script.specs.Fields.{texts}
use Rattle.script.proofs.ManyLines.{bad_after}
use Rattle.script.proofs.script_reader.script_after.Goals as goal

pub returns-in-Err-clause-refused : goal.returns-in-Err-clause-refused
returns-in-Err-clause-refused c =
    bad_after c.args.first.now (texts c.args.others.now) c.in-Err.error c.in-Ok.opening c.in-Ok.ensures.value c.in-Err.ensures.refused
