-- CallsOffline.antt: a client that holds no connection writes nothing, and is then in a state that
-- the model's client may reach by a call of its own.
use Rattle.std.proofs.Common.{◌≡◌, ℕ, Bool, true, false, not, if◌then◌else◌, List, [], ◌∷◌, length, reverse, Option, Some, None, Ok, refl, ap, sym, subst, ◌∙◌}
use Rattle.std.proofs.lemmas.Bool.{both_ways}
use Rattle.packet.specs.Spelling.{IsPacket}
use Rattle.packet_base.specs.declared.qos.QoS.{QoS}
use Rattle.session_base.specs.declared.publication.Publication.{Publication}
use Rattle.session_base.specs.Publication.{is_answered}
use Rattle.lists.specs.Lists.{Each}
use Rattle.client_base.specs.declared.error.ClientError.{ClientError}
use Rattle.client_base.specs.declared.error.ClientError.TheVariants as errors
use Rattle.client_base.specs.declared.stage.Stage.{Stage}
use Rattle.client_base.specs.declared.stage.Stage.TheVariants as stages
use Rattle.client_base.specs.State.{ClientState, is_online, is_open}
use Rattle.client_base.specs.Answered.{ClientOutcome}
use Rattle.client_base.specs.Publications.{has_free_id, next_id, publish_refusal, published}
use Rattle.client_base.specs.History as history
use Rattle.client_base.specs.Keeper.{Written}
use Rattle.client_base.specs.Steps.{Call, keeper_step, subscribed, unless_refused, unsubscribed}
use Rattle.client_base.specs.Written.{writes, writes_first}
use Rattle.client_base.proofs.FollowsCalls.{publish_outcome}
use Rattle.client.specs.Core.{Core}
use Rattle.exactly_once.specs.Sides.{ClientConnection}
use Rattle.headline.specs.byte_world.World.{after_writing, newly_written, packets_of, sent_up}
use Rattle.headline.proofs.of_byte_world.OnTheWay.{newly_is}
use Rattle.world_pipes.specs.declared.sending.Sending.{Sending}
use Rattle.world_pipes.specs.declared.sending.Sending.TheVariants as sendings
use Rattle.world_pipes.specs.ModelSteps.{CallingFollows}
use Rattle.world_pipes.specs.Piped.{GoesUpWhere, Piped, is_holding, piped}
use Rattle.exactly_once.specs.Acceptance.{accepted_on}
use Rattle.world_pipes.specs.StandsFor.{ArePipePairs, CanGoOut, ClientStandsFor}
use Rattle.headline.specs.byte_world.Accepted.{accepted_at_qos2}
use Rattle.world_pipes.proofs.CallsFollow.{HasCall, up_follows}
use Rattle.world_pipes.proofs.Pairs.{none_sent}

-- ---- nothing is written

closed_offline : (stage : Stage) → is_open stage ≡ false → is_online stage ≡ false
closed_offline stages.Closed e = refl
closed_offline stages.Opened e = absurd (both_ways true e refl)
closed_offline stages.Online e = absurd (both_ways true e refl)

unless_none : (refusal : Option ClientError) (outcome : ClientOutcome) (state : ClientState) → outcome.writes ≡ [] → (unless_refused refusal outcome state).writes ≡ []
unless_none None outcome state none = none
unless_none (Some cause) outcome state none = refl

published_none : (p : Publication) (id : ℕ) (state : ClientState) (answered online : Bool) → online ≡ false → (publish_outcome p id state answered online).writes ≡ []
published_none p id state answered false e = refl
published_none p id state answered true e = absurd (both_ways true e refl)

asked_none : (online free : Bool) (outcome : ClientOutcome) (state : ClientState) → online ≡ false →
    (unless_refused (if not online then Some errors.NotActive else if not free then Some errors.WindowFull else None) outcome state).writes ≡ []
asked_none false free outcome state e = refl
asked_none true free outcome state e = absurd (both_ways true e refl)

pub publishing_offline : (p : Publication) (state : ClientState) → is_open state.stage ≡ false → (keeper_step (Call.Publishes p) state).writes ≡ []
publishing_offline p state closed =
    unless_none (publish_refusal p state) (published p state) state
    (published_none p (next_id state) state (is_answered p.qos) (is_online state.stage) (closed_offline state.stage closed))

pub subscribing_offline : (filter : List ℕ) (qos : QoS) (state : ClientState) → is_open state.stage ≡ false →
    (keeper_step (Call.Subscribes filter qos) state).writes ≡ []
subscribing_offline filter qos state closed =
    asked_none (is_online state.stage) (has_free_id state) (subscribed filter qos state) state (closed_offline state.stage closed)

pub unsubscribing_offline : (filter : List ℕ) (state : ClientState) → is_open state.stage ≡ false →
    (keeper_step (Call.Unsubscribes filter) state).writes ≡ []
unsubscribing_offline filter state closed =
    asked_none (is_online state.stage) (has_free_id state) (unsubscribed filter state) state (closed_offline state.stage closed)

-- ---- so the pipes are as they were

newly_none : (more : List Written) (connections : List ClientConnection) → packets_of more ≡ [] → newly_written connections (writes_first more connections) ≡ []
newly_none more [] none = refl
newly_none more (κ ∷ others) none = newly_is κ (writes more κ) others others more refl ∙ none

as_many : (more : List Written) (connections : List ClientConnection) → length (writes_first more connections) ≡ length connections
as_many more [] = refl
as_many more (κ ∷ others) = refl

same_accepted : (more : List Written) (connections : List ClientConnection) → accepted_on (writes_first more connections) ≡ accepted_on connections
same_accepted more [] = refl
same_accepted more (κ ∷ others) = refl

idle_follows : (published : List Publication) (outcome : ClientOutcome) (old : Piped) (core : Core) (new : Piped) → is_holding old ≡ false → outcome.state.stage ≡ old.core.state.stage → outcome.writes ≡ [] →
    HasCall published outcome old core → new ≡ piped core old.pairs → CallingFollows published old (Ok sendings.Sent) new
idle_follows published outcome old core new closed stays none has is = λ m s.
    let called = has.too m s.keeper s.fits.keep_alive in
    let c = called.0 in
    let newly : newly_written m.connections c.connections ≡ [] =
    ap (λ l. newly_written m.connections l) c.on_first ∙ newly_none c.more m.connections (c.writes ∙ none) in
    let same : sent_up (newly_written m.connections c.connections) m.pipes ≡ m.pipes = ap (λ l. sent_up l m.pipes) newly ∙ none_sent m.pipes in
    let shut : is_open core.state.stage ≡ false = ap (λ (state : ClientState). is_open state.stage) has.state ∙ ap is_open stays ∙ closed in
    record {
      story = record { past = []; connections = c.connections; keeper = c.keeper };
      call = c.call;
      is_one = c.is_one;
      publishes = called.1;
      spelled = subst (Each IsPacket) (sym newly) tt;
      stands = subst (λ p. ClientStandsFor p (after_writing c.keeper c.connections m)) (sym is)
          (record {
            keeper = subst (history.KeeperStandsFor c.keeper) (sym has.state) c.stands;
            fits = subst CanGoOut (sym has.state) (has.fits s.fits).left;
            accepted = ap (λ (state : ClientState). accepted_at_qos2 state.accepted) has.state ∙ ap accepted_at_qos2 has.accepts_none ∙ s.accepted
                ∙ sym (ap accepted_on c.on_first ∙ same_accepted c.more m.connections);
            many = ap length c.on_first ∙ as_many c.more m.connections ∙ s.many ∙ ap length (sym same);
            pairs = subst (ArePipePairs (reverse old.pairs)) (sym same) s.pairs;
            held = λ on. absurd (both_ways (is_open core.state.stage) shut on);
          });
    }

-- ---- a call, whether a connection is held or not

pub call_follows : (published : List Publication) (outcome : ClientOutcome) (old : Piped) (core : Core) (new : Piped) (up : Bool) → is_holding old ≡ up → outcome.state.stage ≡ old.core.state.stage →
    (is_holding old ≡ false → outcome.writes ≡ []) → HasCall published outcome old core → (sending : Sending) → GoesUpWhere up core old.pairs sending new →
    CallingFollows published old (Ok sending) new
call_follows published outcome old core new true held stays none has sending goes = up_follows published outcome old core sending new held has goes
call_follows published outcome old core new false held stays none has sending goes =
    subst (λ sending. CallingFollows published old (Ok sending) new) (sym goes.0) (idle_follows published outcome old core new held stays (none held) has goes.1)
