use Rattle.std.proofs.Common.{◌∷◌, []}
use Rattle.program_rows.specs.ScriptSteps.{bad_line, tick_line, world_line}
use Rattle.program_rows.proofs.ScriptFaults.{three_faults}
use Rattle.program_rows.proofs.script_steps.amid_answer.Goals as goal

pub returns : goal.returns
returns c =
    three_faults (world_line ∷ c.args.line.now ∷ bad_line ∷ [] ∷ [])
    (world_line ∷ tick_line ∷ c.args.line.now ∷ bad_line ∷ [] ∷ [])
    (world_line ∷ tick_line ∷ tick_line ∷ c.args.line.now ∷ bad_line ∷ [] ∷ [])
    c.in_ok-put_fault.field-0 c.in_ok-put_fault-2.field-0 c.in_ok-put_fault-3.field-0 c.new-out.result c.put_fault.new.out
    c.put_fault-2.new.out c.put_fault-3.new.out c.new-out.ensures c.in_ok-put_fault.ensures.0 c.in_ok-put_fault.ensures.1
    c.in_ok-put_fault-2.ensures.0 c.in_ok-put_fault-2.ensures.1 c.in_ok-put_fault-3.ensures.0
    c.in_ok-put_fault-3.ensures.1
