use Rattle.user_client.specs.Traces.{Step}
use Rattle.user_client.proofs.CallsAreSteps.{parts, step_of}
use Rattle.user_client.proofs.caller.Caller.subscribe.Goals as goal

pub returns-clause-trace : goal.returns-clause-trace
returns-clause-trace c =
    step_of c.self.inside.core c.self.inside.was_accepted c.self.inside.answers
    (parts c.subscribe.new.self c.self.inside.was_accepted c.self.inside.answers)
    c.self.view_is (Step.subscribes _ c.args.qos c.subscribe.new.self c.in_ok-subscribe.ensures)
