use Rattle.user_client.proofs.CallsAreSteps.{begun}
use Rattle.user_client.proofs.caller.Caller.open.Goals as goal

pub returns-clause-trace : goal.returns-clause-trace
returns-clause-trace c =
    begun c.self.inside.core c.self.inside.was_accepted c.self.inside.answers c.new.result c.open.new.self c.self.view_is
    c.new.ensures c.in_ok-open.ensures
