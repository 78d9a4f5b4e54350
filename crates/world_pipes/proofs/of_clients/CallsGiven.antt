-- CallsGiven.antt: what calls of a client do to it.
use Rattle.std.proofs.Common.{◌≡◌, ℕ, List, refl, sym, ap, ◌∙◌, subst, Bool, Result, Ok, Err}
use Rattle.session_base.specs.declared.publication.Publication.{Publication}
use Rattle.world_pipes.specs.ModelSteps.{FollowsAll, FollowsLosing, after_losing}
use Rattle.world_pipes.specs.Steps.{ClientTrace}
use Rattle.world_pipes.specs.Piped.{Piped, Calls}
use Rattle.client_base.specs.declared.error.ClientError.{ClientError}
use Rattle.client_base.specs.declared.error.ClientError.TheVariants as errors
use Rattle.world_pipes.specs.declared.sending.Sending.{Sending}
use Rattle.world_pipes.specs.StandsFor.{ClientStandsFor}
use Rattle.client.specs.Core.{publication_with}
use Rattle.client_base.specs.Steps.{Call, keeper_step}
use Rattle.packet_base.specs.declared.qos.QoS.{QoS}
use Rattle.world_pipes.specs.clients.ClientCalls.{IsCall}

-- a client that loses its connection
pub losing_goes : (old new : Piped) → FollowsLosing old new → FollowsAll old new
losing_goes old new follows m s = let f = follows m s in record { next = after_losing m; goes = f.1; publishes = f.2; stands = f.0 }

-- one that receives nothing stays as it is
pub stays_all : (old new : Piped) → new ≡ old → FollowsAll old new
stays_all old new same m s = record { next = m; goes = ClientTrace.stays; publishes = refl; stands = subst (λ p. ClientStandsFor p m) (sym same) s }

pub is_call : (call : Call) (old : Piped) (done : Result Sending ClientError) (new : Piped) → Calls (keeper_step call old.core.state) old done new → IsCall call old done new
is_call call old (Ok sending) new calls = calls
is_call call old (Err errors.Memory) new calls = tt
is_call call old (Err errors.NotActive) new calls = calls
is_call call old (Err errors.WindowFull) new calls = calls
is_call call old (Err errors.TooLarge) new calls = calls
is_call call old (Err errors.SessionLost) new calls = calls
is_call call old (Err errors.Protocol) new calls = calls
is_call call old (Err (errors.Malformed kind)) new calls = calls

pub same_publication : (a b : Publication) → a.retain ≡ b.retain → a.qos ≡ b.qos → a.topic ≡ b.topic → a.payload ≡ b.payload → publication_with a.retain a.qos a.topic a.payload ≡ b
same_publication a b retain qos topic payload =
    ap (λ (x : Bool). publication_with x a.qos a.topic a.payload) retain ∙ ap (λ (x : QoS). publication_with b.retain x a.topic a.payload) qos
    ∙ ap (λ (x : List ℕ). publication_with b.retain b.qos x a.payload) topic ∙ ap (λ (x : List ℕ). publication_with b.retain b.qos b.topic x) payload
