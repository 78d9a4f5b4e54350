use Rattle.std.proofs.Common.{arith}
use Rattle.master.proofs.Runs.{ran_none, ran_next, agrees_after}
use Rattle.master.proofs.group.Group.run.Goals as goal

pub loop-event-init : goal.loop-event-init
loop-event-init g c =
    let rules = g.M.Machine.rules in
    ran_none rules c.args.self.now

pub loop-event-preserved : goal.loop-event-preserved
loop-event-preserved g c =
    let rules = g.M.Machine.rules in
    ran_next rules c.args.self.now c.loop-event.self c.step.new.self c.args.events.now c.loop-event.event-index c.event-item.result
    (omega arith) c.event-item.is c.loop-event.invariant c.step.ensures.step

pub returns-clause-agreement : goal.returns-clause-agreement
returns-clause-agreement g c =
    let rules = g.M.Machine.rules in
    λ config moments came. agrees_after rules config c.args.self.now c.loop-event.self moments _ came c.loop-event.invariant.ran
