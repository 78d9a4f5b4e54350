-- ModelsCalls.antt: to each call that is not refused the model's client has one of its own, which writes the same.
use Rattle.std.proofs.Common.{◌≡◌, ℕ, Bool, true, false, if◌then◌else◌, List, [], ◌∷◌, None, refl, ap, sym, ◌∙◌}
use Rattle.std.proofs.lemmas.List.{append-nil}
use Rattle.std.proofs.lemmas.Option.{none-some}
use Rattle.packet.specs.declared.packet.Packet.TheVariants as packets
use Rattle.packet_base.specs.declared.qos.QoS.{QoS}
use Rattle.session_base.specs.declared.publication.Publication.{Publication}
use Rattle.session_base.specs.Identifiers.{least_free}
use Rattle.session_base.proofs.IdentifiersOfFills.{least_free_is}
use Rattle.broker_spec.specs.Commands.{usual_limits}
use Rattle.client_base.specs.declared.request.Request.TheVariants as requests
use Rattle.client_base.specs.declared.stage.Stage.{Stage}
use Rattle.client_base.specs.declared.stage.Stage.TheVariants as stages
use Rattle.client_base.specs.State.{ClientState, is_online, is_open}
use Rattle.client_base.specs.Answered.{ClientOutcome}
use Rattle.client_base.specs.Called as called
use Rattle.client_base.specs.Connected as connected
use Rattle.client_base.specs.Publications.{has_free_id, publish_refusal, published}
use Rattle.client_base.specs.Handled as handling
use Rattle.client_base.specs.History as history
use Rattle.client_base.specs.Keeper as keepers
use Rattle.client_base.specs.Keeper.{Keeper, Written, ids_in_use}
use Rattle.client_base.specs.Steps.{Call, disconnected, keeper_step, request_refusal, subscribed, unsubscribed}
use Rattle.client_base.specs.Written.{plain, writes_first}
use Rattle.client_base.proofs.Follows.{calls_follow}
use Rattle.headline.specs.packet_world.Steps.{is_call}
use Rattle.exactly_once.specs.Sides.{ClientConnection}
use Rattle.exactly_once.specs.Story.{StoryStep}
use Rattle.headline.specs.byte_world.World.{ClientPipes, packets_of}
use Rattle.headline.specs.byte_world.ClientSteps.{story_alone}
use Rattle.headline.specs.byte_world.Published.{published_by_call}
use Rattle.world_pipes.proofs.NotRefused.{asked_so, is_published, not_refused}

-- a call of the model's client, and what it writes on its newest connection
pub record IsCalled (outcome : ClientOutcome) (m : ClientPipes) : Type 0 where
  pub keeper : Keeper
  pub connections : List ClientConnection
  pub call : StoryStep usual_limits (story_alone m) (record { past = []; connections = connections; keeper = keeper })
  pub is_one : is_call call ≡ true
  pub stands : history.KeeperStandsFor keeper outcome.state
  pub more : List Written
  pub on_first : connections ≡ writes_first more m.connections
  pub writes : packets_of more ≡ outcome.writes

-- a side on which nothing was written
abbrev alone : Keeper → keepers.Side ℕ
alone keeper = record { keeper = keeper; connection = record { name = 0; written = []; taken = 0; handled = 0; confirmed = false; accepted = [] } }

-- ---- publishing

pub publishes_too : (p : Publication) (m : ClientPipes) (state : ClientState) → history.KeeperStandsFor m.keeper state → state.keep_alive ≡ 0 →
    (keeper_step (Call.Publishes p) state).refusal ≡ None → IsCalled (keeper_step (Call.Publishes p) state) m
publishes_too p m state s zero taken =
    let f = calls_follow least_free_is (Call.Publishes p) 0 (alone m.keeper) state zero s taken in
    let is = is_published p state (not_refused (publish_refusal p state) (published p state) state taken) in
    record {
      keeper = called.adds_own p m.keeper;
      connections = writes_first (called.written_for p m.keeper) m.connections;
      call = StoryStep.publishes_one p (λ e. sym s.is_online ∙ is.goes_out e);
      is_one = refl;
      stands = f.0;
      more = called.written_for p m.keeper;
      on_first = refl;
      writes = ap packets_of f.1.1 ∙ f.1.2;
    }

pub publishes_it : (p : Publication) (m : ClientPipes) (state : ClientState) (s : history.KeeperStandsFor m.keeper state) (zero : state.keep_alive ≡ 0)
    (taken : (keeper_step (Call.Publishes p) state).refusal ≡ None) → published_by_call (publishes_too p m state s zero taken).call ≡ p ∷ []
unfolding publishes_too
publishes_it p m state s zero taken = refl

-- ---- asking

pub subscribes_too : (filter : List ℕ) (qos : QoS) (m : ClientPipes) (state : ClientState) → history.KeeperStandsFor m.keeper state → state.keep_alive ≡ 0 →
    (keeper_step (Call.Subscribes filter qos) state).refusal ≡ None → IsCalled (keeper_step (Call.Subscribes filter qos) state) m
subscribes_too filter qos m state s zero taken =
    let f = calls_follow least_free_is (Call.Subscribes filter qos) 0 (alone m.keeper) state zero s taken in
    let is = asked_so (is_online state.stage) (has_free_id state) (not_refused (request_refusal state) (subscribed filter qos state) state taken) in
    record {
      keeper = called.with_request (requests.Subscribes (least_free (ids_in_use m.keeper))) m.keeper;
      connections = writes_first (plain (called.next_subscribe filter qos m.keeper) ∷ []) m.connections;
      call = StoryStep.subscribes (record { id = least_free (ids_in_use m.keeper); filters = record { filter = filter; qos = qos } ∷ [] })
          (sym s.is_online ∙ is.0) refl;
      is_one = refl;
      stands = f.0;
      more = plain (called.next_subscribe filter qos m.keeper) ∷ [];
      on_first = refl;
      writes = ap packets_of f.1.1 ∙ f.1.2;
    }

pub subscribes_silently : (filter : List ℕ) (qos : QoS) (m : ClientPipes) (state : ClientState) (s : history.KeeperStandsFor m.keeper state) (zero : state.keep_alive ≡ 0)
    (taken : (keeper_step (Call.Subscribes filter qos) state).refusal ≡ None) → published_by_call (subscribes_too filter qos m state s zero taken).call ≡ []
unfolding subscribes_too
subscribes_silently filter qos m state s zero taken = refl

pub unsubscribes_too : (filter : List ℕ) (m : ClientPipes) (state : ClientState) → history.KeeperStandsFor m.keeper state → state.keep_alive ≡ 0 →
    (keeper_step (Call.Unsubscribes filter) state).refusal ≡ None → IsCalled (keeper_step (Call.Unsubscribes filter) state) m
unsubscribes_too filter m state s zero taken =
    let f = calls_follow least_free_is (Call.Unsubscribes filter) 0 (alone m.keeper) state zero s taken in
    let is = asked_so (is_online state.stage) (has_free_id state) (not_refused (request_refusal state) (unsubscribed filter state) state taken) in
    record {
      keeper = called.with_request (requests.Unsubscribes (least_free (ids_in_use m.keeper))) m.keeper;
      connections = writes_first (plain (called.next_unsubscribe filter m.keeper) ∷ []) m.connections;
      call = StoryStep.unsubscribes (record { id = least_free (ids_in_use m.keeper); filters = filter ∷ [] }) (sym s.is_online ∙ is.0) refl;
      is_one = refl;
      stands = f.0;
      more = plain (called.next_unsubscribe filter m.keeper) ∷ [];
      on_first = refl;
      writes = ap packets_of f.1.1 ∙ f.1.2;
    }

pub unsubscribes_silently : (filter : List ℕ) (m : ClientPipes) (state : ClientState) (s : history.KeeperStandsFor m.keeper state) (zero : state.keep_alive ≡ 0)
    (taken : (keeper_step (Call.Unsubscribes filter) state).refusal ≡ None) → published_by_call (unsubscribes_too filter m state s zero taken).call ≡ []
unfolding unsubscribes_too
unsubscribes_silently filter m state s zero taken = refl

-- ---- leaving

-- writing nothing is no writing
written_where : (online : Bool) (connections : List ClientConnection) →
    (if online then writes_first (plain packets.Disconnect ∷ []) connections else connections)
    ≡ writes_first (if online then plain packets.Disconnect ∷ [] else []) connections
written_where true connections = refl
written_where false [] = refl
written_where false (κ ∷ others) = ap (λ (written : List Written). record κ { written = written } ∷ others) (sym (append-nil κ.written))

pub leaves_too : (m : ClientPipes) (state : ClientState) → history.KeeperStandsFor m.keeper state → state.keep_alive ≡ 0 →
    (keeper_step Call.Disconnects state).refusal ≡ None → IsCalled (keeper_step Call.Disconnects state) m
leaves_too m state s zero taken =
    let f = calls_follow least_free_is Call.Disconnects 0 (alone m.keeper) state zero s taken in
    record {
      keeper = handling.lost m.keeper;
      connections = if m.keeper.is_online then writes_first (plain packets.Disconnect ∷ []) m.connections else m.connections;
      call = StoryStep.disconnects;
      is_one = refl;
      stands = f.0;
      more = connected.disconnects m.keeper;
      on_first = written_where m.keeper.is_online m.connections;
      writes = ap packets_of f.1.1 ∙ f.1.2;
    }

pub leaves_silently : (m : ClientPipes) (state : ClientState) (s : history.KeeperStandsFor m.keeper state) (zero : state.keep_alive ≡ 0)
    (taken : (keeper_step Call.Disconnects state).refusal ≡ None) → published_by_call (leaves_too m state s zero taken).call ≡ []
unfolding leaves_too
leaves_silently m state s zero taken = refl

-- only a client that has a connection leaves, and it has none then
pub leaves_open : (stage : Stage) (state : ClientState) → (disconnected stage state).refusal ≡ None →
    (is_open stage ≡ true) × (is_open (disconnected stage state).state.stage ≡ false)
leaves_open stages.Closed state none = absurd (none-some _ (sym none))
leaves_open stages.Opened state none = (refl, refl)
leaves_open stages.Online state none = (refl, refl)
