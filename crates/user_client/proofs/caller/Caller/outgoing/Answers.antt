use Rattle.std.proofs.Common.{[]}
use Rattle.user_client.specs.Traces.{Step}
use Rattle.user_client.proofs.CallsAreSteps.{no_step, step_to}
use Rattle.user_client.proofs.caller.Caller.outgoing.Goals as goal

pub returns-in_err-outgoing-clause-trace : goal.returns-in_err-outgoing-clause-trace
returns-in_err-outgoing-clause-trace c =
    no_step c.self.inside.core c.self.inside.was_accepted c.self.inside.answers c.outgoing.new.self c.self.view_is c.in_err-outgoing.ensures.same

pub returns-clause-trace : goal.returns-clause-trace
returns-clause-trace c =
    step_to c.self.inside.core c.self.inside.was_accepted c.self.inside.answers c.outgoing.new.self (record c.self.inside.core { out = [] })
    c.self.view_is c.in_ok-outgoing.ensures.ok Step.writes
