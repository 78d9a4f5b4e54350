use Rattle.std.proofs.Common.{subst}
use Rattle.client.specs.Core.{publication_with}
use Rattle.client_base.specs.Steps.{Call}
use Rattle.session_base.specs.declared.publication.Publication.{Publication}
use Rattle.world_pipes.specs.clients.ClientCalls.{IsCall}
use Rattle.world_pipes.proofs.of_clients.CallsGiven.{is_call, same_publication}
use Rattle.world_pipes.proofs.clients.client_calls.publish_copy.Goals as goal

pub returns-clause-calls : goal.returns-clause-calls
returns-clause-calls c =
    let copied : Publication = c.in_ok-copied.copied in
    let e = c.in_ok-copied.ensures.cases in
    subst (λ (p : Publication). IsCall (Call.Publishes p) c.args.piped.now c.publish.result c.publish.new.self) (same_publication copied c.args.publication.now e.0 e.1.0 e.1.1.0 e.1.1.1)
    (is_call (Call.Publishes (publication_with copied.retain copied.qos copied.topic copied.payload)) c.args.piped.now c.publish.result c.publish.new.self c.publish.ensures.calls)
