use Rattle.std.proofs.Common.{ap, ◌∙◌}
use Rattle.client_base.specs.State.{kept_count}
use Rattle.user_client.specs.Traces.{CallerView}
use Rattle.user_client.proofs.CallsAreSteps.{left, left_keeps}
use Rattle.user_client.proofs.caller.Caller.disconnect.Goals as goal

pub returns-clause-trace : goal.returns-clause-trace
returns-clause-trace c =
    left c.self.inside.core c.self.inside.was_accepted c.self.inside.answers c.disconnect.new.self c.disconnect.result c.self.view_is
    c.disconnect.ensures

pub returns-clause-kept : goal.returns-clause-kept
returns-clause-kept c =
    left_keeps c.self.inside.core c.disconnect.new.self c.disconnect.result c.disconnect.ensures
    ∙ ap (λ (s : CallerView). kept_count s.core.state) c.self.view_is
