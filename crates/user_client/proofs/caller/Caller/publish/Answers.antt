use Rattle.std.proofs.Common.{◌≡◌}
use Rattle.client.specs.Core.{publication_with}
use Rattle.client_base.specs.Steps.{Call, keeper_step}
use Rattle.user_client.specs.declared.user_client_error.UserClientError.{UserClientError}
use Rattle.user_client.specs.Refusals.{IsRefusedFor, error_of_call}
use Rattle.user_client.specs.Traces.{Step}
use Rattle.user_client.proofs.CallsAreSteps.{asked, parts, step_of}
use Rattle.user_client.proofs.RefusedCalls.{in_any_case, refused_seen, told, unchanged_seen}
use Rattle.user_client.proofs.caller.Caller.publish.Goals as goal

pub returns-clause-trace : goal.returns-clause-trace
returns-clause-trace c =
    step_of c.self.inside.core c.self.inside.was_accepted c.self.inside.answers
    (parts c.publish.new.self c.self.inside.was_accepted c.self.inside.answers)
    c.self.view_is (Step.publishes c.args.retain c.args.qos c.args.topic c.args.payload c.publish.new.self c.in_ok-publish.ensures)

pub returns-clause-asked : goal.returns-clause-asked
returns-clause-asked c =
    asked (publication_with c.args.retain c.args.qos c.args.topic c.args.payload) c.self.inside.core c.self.inside.was_accepted c.self.inside.answers
    c.publish.new.self c.self.view_is c.in_ok-publish.ensures

pub returns-in_err-publish-clause-refused : goal.returns-in_err-publish-clause-refused
returns-in_err-publish-clause-refused c =
    let call = Call.Publishes (publication_with c.args.retain c.args.qos c.args.topic c.args.payload) in
    told c.from_residual.result (λ (it : UserClientError). it ≡ error_of_call c.in_err-publish.field-0.0)
    (IsRefusedFor (keeper_step call c.args.self.now.core.state).refusal) c.from_residual.ensures.1
    (λ (it : UserClientError) is. refused_seen call c.self.inside.core c.self.inside.was_accepted c.self.inside.answers c.publish.new.self
    c.in_err-publish.field-0.0 it c.self.view_is is c.in_err-publish.ensures)

pub returns-in_err-publish-clause-same : goal.returns-in_err-publish-clause-same
returns-in_err-publish-clause-same c =
    in_any_case c.from_residual.result
    (unchanged_seen (Call.Publishes (publication_with c.args.retain c.args.qos c.args.topic c.args.payload)) c.self.inside.core
    c.self.inside.was_accepted c.self.inside.answers c.publish.new.self c.in_err-publish.field-0.0 c.self.view_is c.in_err-publish.ensures)
