use Rattle.master.proofs.Quiet.{quiet_as}
use Rattle.master.proofs.Runs.{agrees_next}
use Rattle.master.proofs.group.Group.step.Goals as goal

pub returns-in-Propose-clause-agreement : goal.returns-in-Propose-clause-agreement
returns-in-Propose-clause-agreement g c =
    let rules = g.M.Machine.rules in
    λ config moments came. agrees_next rules config c.args.self.now c.propose.new.self moments _ came c.propose.ensures.step

pub returns-in-Assign-clause-agreement : goal.returns-in-Assign-clause-agreement
returns-in-Assign-clause-agreement g c =
    let rules = g.M.Machine.rules in
    λ config moments came. agrees_next rules config c.args.self.now c.assign.new.self moments _ came c.assign.ensures.step

pub returns-in-Deliver-clause-agreement : goal.returns-in-Deliver-clause-agreement
returns-in-Deliver-clause-agreement g c =
    let rules = g.M.Machine.rules in
    λ config moments came. agrees_next rules config c.args.self.now c.deliver.new.self moments _ came c.deliver.ensures.step

pub returns-in-Tick-clause-agreement : goal.returns-in-Tick-clause-agreement
returns-in-Tick-clause-agreement g c =
    let rules = g.M.Machine.rules in
    λ config moments came. agrees_next rules config c.args.self.now c.tick.new.self moments _ came c.tick.ensures.step

pub returns-in-Cut-clause-agreement : goal.returns-in-Cut-clause-agreement
returns-in-Cut-clause-agreement g c =
    let rules = g.M.Machine.rules in
    λ config moments came. agrees_next rules config c.args.self.now c.cut.new.self moments _ came c.cut.ensures.step

pub returns-in-Crash-clause-agreement : goal.returns-in-Crash-clause-agreement
returns-in-Crash-clause-agreement g c =
    let rules = g.M.Machine.rules in
    λ config moments came. agrees_next rules config c.args.self.now c.crash.new.self moments _ came c.crash.ensures.step

pub returns-in-Propose-clause-quiet : goal.returns-in-Propose-clause-quiet
returns-in-Propose-clause-quiet g c =
    let rules = g.M.Machine.rules in
    quiet_as rules c.args.self.now c.propose.new.self _ c.args.event.now c.in-Propose.is c.propose.ensures.quiet

pub returns-in-Deliver-clause-quiet : goal.returns-in-Deliver-clause-quiet
returns-in-Deliver-clause-quiet g c =
    let rules = g.M.Machine.rules in
    quiet_as rules c.args.self.now c.deliver.new.self _ c.args.event.now c.in-Deliver.is c.deliver.ensures.quiet

pub returns-in-Tick-clause-quiet : goal.returns-in-Tick-clause-quiet
returns-in-Tick-clause-quiet g c =
    let rules = g.M.Machine.rules in
    quiet_as rules c.args.self.now c.tick.new.self _ c.args.event.now c.in-Tick.is c.tick.ensures.quiet

pub returns-in-Cut-clause-quiet : goal.returns-in-Cut-clause-quiet
returns-in-Cut-clause-quiet g c =
    let rules = g.M.Machine.rules in
    quiet_as rules c.args.self.now c.cut.new.self _ c.args.event.now c.in-Cut.is c.cut.ensures.quiet

pub returns-in-Crash-clause-quiet : goal.returns-in-Crash-clause-quiet
returns-in-Crash-clause-quiet g c =
    let rules = g.M.Machine.rules in
    quiet_as rules c.args.self.now c.crash.new.self _ c.args.event.now c.in-Crash.is c.crash.ensures.quiet
