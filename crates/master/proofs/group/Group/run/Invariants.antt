use Rattle.std.proofs.Common.{take}
use Rattle.master.proofs.Runs.{Ran}
use Rattle.master.proofs.group.Group.run.Given as goal

abbrev pub invariant-loop-event : goal.invariant-loop-event
invariant-loop-event g l =
    Ran g.M.Machine.rules
    l.initial.self (take l.event-index l.events) l.self
