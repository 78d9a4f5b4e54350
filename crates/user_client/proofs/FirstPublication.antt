-- FirstPublication.antt: what a new client keeps once it took its first publication.
use Rattle.std.proofs.Common.{◌≡◌, ℕ, Bool, true, List, Option, Some, None, is_some, refl, ap, ap₂, subst}
use Rattle.std.proofs.lemmas.Bool.{both_ways}
use Rattle.packet_base.specs.declared.qos.QoS.{QoS}
use Rattle.packet_base.specs.declared.qos.QoS.TheVariants as qos_levels
use Rattle.packet.specs.declared.publish.Publish.{Publish}
use Rattle.session_base.specs.declared.publication.Publication.{Publication}
use Rattle.session_base.specs.Publication.{is_answered}
use Rattle.client_base.specs.declared.error.ClientError.{ClientError}
use Rattle.client_base.specs.State.{ClientState, new_client_state}
use Rattle.client_base.specs.Publications.{published, publish_refusal}
use Rattle.client_base.specs.Steps.{unless_refused}
use Rattle.client.specs.Core.{publication_with}
use Rattle.user_client.specs.Traces.{CallerView, IsAsked, new_called}
use Rattle.user_client.specs.Publisher.{HasPublication, client_keeping, unkept}
use Rattle.user_client.proofs.Acknowledged.{made_of}

-- a publication that is not refused is the one that is kept
kept_unless : (id : List ℕ) (p : Publication) (refusal : Option ClientError) (new : ClientState)
    → (unless_refused refusal (published p (new_client_state id 0)) (new_client_state id 0)).refusal ≡ None
    → new ≡ (unless_refused refusal (published p (new_client_state id 0)) (new_client_state id 0)).state → new ≡ client_keeping id p
kept_unless id p (Some cause) new taken same = absurd (both_ways true (ap is_some taken) refl)
kept_unless id p None new taken same = same

kept_first : (id : List ℕ) (p : Publication) (new : CallerView) → IsAsked p (new_called id) new → new.core.state ≡ client_keeping id p
kept_first id p new (does, was) = kept_unless id p (publish_refusal p (new_client_state id 0)) new.core.state does.0 does.1.0

-- a publisher whose client, a new one, was asked for it
pub has_kept : (id : List ℕ) (retain : Bool) (qos : QoS) (topic payload : List ℕ) (caller new : CallerView) → is_answered qos ≡ true
    → caller ≡ new_called id → IsAsked (publication_with retain qos topic payload) caller new
    → HasPublication qos id (publication_with retain qos topic payload) (made_of new None)
has_kept id retain qos_levels.AtMostOnce topic payload caller new answered is asked = absurd cc
has_kept id retain qos_levels.AtLeastOnce topic payload caller new answered is asked =
    let p = publication_with retain qos_levels.AtLeastOnce topic payload in
    (kept_first id p new (subst (λ (c : CallerView). IsAsked p c new) is asked), refl)
has_kept id retain qos_levels.ExactlyOnce topic payload caller new answered is asked =
    let p = publication_with retain qos_levels.ExactlyOnce topic payload in
    (kept_first id p new (subst (λ (c : CallerView). IsAsked p c new) is asked), refl)

-- a publisher that has it itself
pub has_unkept : (id : List ℕ) (retain : Bool) (qos : QoS) (topic payload : List ℕ) (caller : CallerView) (publish : Publish)
    → qos ≡ qos_levels.AtMostOnce → caller ≡ new_called id → publish ≡ unkept (publication_with retain qos topic payload)
    → HasPublication qos id (publication_with retain qos topic payload) (made_of caller (Some publish))
has_unkept id retain qos_levels.AtMostOnce topic payload caller publish is new same =
    ap₂ (λ (c : CallerView) (p : Publish). made_of c (Some p)) new same
has_unkept id retain qos_levels.AtLeastOnce topic payload caller publish is new same = absurd cc
has_unkept id retain qos_levels.ExactlyOnce topic payload caller publish is new same = absurd cc
