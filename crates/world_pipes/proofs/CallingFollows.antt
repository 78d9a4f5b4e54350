-- CallingFollows.antt: what each call does to a client is what a call of its own does to the
-- model's.
use Rattle.std.proofs.Common.{◌≡◌, ℕ, false, List, [], ◌∷◌, IsTrue, Result, Ok, Err, refl, ap, ap₂, sym, subst, ◌∙◌}
use Rattle.std.proofs.lemmas.Bool.{both_ways}
use Rattle.topics.specs.Text.{is_filter, is_topic}
use Rattle.packet_base.specs.declared.qos.QoS.{QoS}
use Rattle.session_base.specs.declared.publication.Publication.{Publication}
use Rattle.client_base.specs.declared.error.ClientError.{ClientError}
use Rattle.client_base.specs.declared.error.ClientError.TheVariants as errors
use Rattle.client_base.specs.State.{ClientState, is_open}
use Rattle.client_base.specs.Answered.{ClientOutcome}
use Rattle.client_base.specs.Steps.{Call, keeper_step}
use Rattle.client.specs.Core.{Core, AnswersCall, LeavesServer}
use Rattle.world_pipes.specs.declared.sending.Sending.{Sending}
use Rattle.world_pipes.specs.declared.sending.Sending.TheVariants as sendings
use Rattle.world_pipes.specs.ModelSteps.{CallingFollows, FollowsBy}
use Rattle.world_pipes.specs.Steps.{ClientTrace, ClientStep}
use Rattle.world_pipes.specs.Piped.{Calls, Piped, TakesLeave, is_holding, piped}
use Rattle.world_pipes.specs.StandsFor.{ClientStandsFor}
use Rattle.headline.specs.byte_world.World.{after_writing}
use Rattle.world_pipes.proofs.CallsFollow.{up_follows}
use Rattle.world_pipes.proofs.CallsOffline.{call_follows, publishing_offline, subscribing_offline, unsubscribing_offline}
use Rattle.world_pipes.proofs.AcceptedAlike.{leaving_accepts_none, publishing_accepts_none, subscribing_accepts_none, unsubscribing_accepts_none}
use Rattle.world_pipes.proofs.CallsSpellable.{leaving_fits, publishing_fits, subscribing_fits, unsubscribing_fits}
use Rattle.world_pipes.proofs.ModelsCalls.{leaves_open, leaves_silently, leaves_too, publishes_it, publishes_too, subscribes_silently, subscribes_too, unsubscribes_silently, unsubscribes_too}
use Rattle.world_pipes.proofs.StaysOpen.{publishing_stays, subscribing_stays, unsubscribing_stays}

-- ---- a refusal changes nothing

same_core : (outcome : ClientOutcome) (old new : Core) (cause : ClientError) → AnswersCall outcome old (Err cause) new → new ≡ old
same_core outcome old new errors.Memory does = does.1
same_core outcome old new errors.NotActive does = does.1
same_core outcome old new errors.WindowFull does = does.1
same_core outcome old new errors.TooLarge does = does.1
same_core outcome old new errors.SessionLost does = does.1
same_core outcome old new errors.Protocol does = does.1
same_core outcome old new (errors.Malformed kind) does = does.1

pub call_refused : (outcome : ClientOutcome) (old new : Piped) (cause : ClientError) → Calls outcome old (Err cause) new → new ≡ old
call_refused outcome old new cause calls = ap₂ piped (same_core outcome old.core new.core cause calls.0) calls.1

same_left : (outcome : ClientOutcome) (old new : Core) (cause : ClientError) → LeavesServer outcome old (Err cause) new → new ≡ old
same_left outcome old new errors.Memory leaves = leaves.1
same_left outcome old new errors.NotActive leaves = leaves.1
same_left outcome old new errors.WindowFull leaves = leaves.1
same_left outcome old new errors.TooLarge leaves = leaves.1
same_left outcome old new errors.SessionLost leaves = leaves.1
same_left outcome old new errors.Protocol leaves = leaves.1
same_left outcome old new (errors.Malformed kind) leaves = leaves.1

-- ---- the calls

pub publishing_follows : (p : Publication) (old : Piped) (result : Result Sending ClientError) (new : Piped) → IsTrue (is_topic p.topic) →
    Calls (keeper_step (Call.Publishes p) old.core.state) old result new → CallingFollows (p ∷ []) old result new
publishing_follows p old (Ok sending) new good (core, does, goes) =
    let state = old.core.state in
    call_follows (p ∷ []) (keeper_step (Call.Publishes p) state) old core new (is_holding old) refl (publishing_stays p state) (publishing_offline p state)
    (record {
      state = does.1.0;
      appends = does.1.1;
      unread = λ on. does.1.2;
      fits = publishing_fits p state good;
      accepts_none = publishing_accepts_none p state;
      too = λ m s zero. (publishes_too p m state s zero does.0, publishes_it p m state s zero does.0);
    }) sending goes
publishing_follows p old (Err cause) new good calls = call_refused (keeper_step (Call.Publishes p) old.core.state) old new cause calls

pub subscribing_follows : (filter : List ℕ) (qos : QoS) (old : Piped) (result : Result Sending ClientError) (new : Piped) → IsTrue (is_filter filter) →
    Calls (keeper_step (Call.Subscribes filter qos) old.core.state) old result new → CallingFollows [] old result new
subscribing_follows filter qos old (Ok sending) new good (core, does, goes) =
    let state = old.core.state in
    call_follows [] (keeper_step (Call.Subscribes filter qos) state) old core new (is_holding old) refl (subscribing_stays filter qos state)
    (subscribing_offline filter qos state)
    (record {
      state = does.1.0;
      appends = does.1.1;
      unread = λ on. does.1.2;
      fits = subscribing_fits filter qos state good;
      accepts_none = subscribing_accepts_none filter qos state;
      too = λ m s zero. (subscribes_too filter qos m state s zero does.0, subscribes_silently filter qos m state s zero does.0);
    }) sending goes
subscribing_follows filter qos old (Err cause) new good calls = call_refused (keeper_step (Call.Subscribes filter qos) old.core.state) old new cause calls

pub unsubscribing_follows : (filter : List ℕ) (old : Piped) (result : Result Sending ClientError) (new : Piped) → IsTrue (is_filter filter) →
    Calls (keeper_step (Call.Unsubscribes filter) old.core.state) old result new → CallingFollows [] old result new
unsubscribing_follows filter old (Ok sending) new good (core, does, goes) =
    let state = old.core.state in
    call_follows [] (keeper_step (Call.Unsubscribes filter) state) old core new (is_holding old) refl (unsubscribing_stays filter state)
    (unsubscribing_offline filter state)
    (record {
      state = does.1.0;
      appends = does.1.1;
      unread = λ on. does.1.2;
      fits = unsubscribing_fits filter state good;
      accepts_none = unsubscribing_accepts_none filter state;
      too = λ m s zero. (unsubscribes_too filter m state s zero does.0, unsubscribes_silently filter m state s zero does.0);
    }) sending goes
unsubscribing_follows filter old (Err cause) new good calls = call_refused (keeper_step (Call.Unsubscribes filter) old.core.state) old new cause calls

pub leaving_follows : (old : Piped) (result : Result Sending ClientError) (new : Piped) →
    TakesLeave (keeper_step Call.Disconnects old.core.state) old result new → CallingFollows [] old result new
leaving_follows old (Ok sending) new (core, leaves, goes) =
    let state = old.core.state in
    let ends = leaves_open state.stage state leaves.0 in
    let shut : is_open core.state.stage ≡ false = ap (λ (state : ClientState). is_open state.stage) leaves.1 ∙ ends.1 in
    up_follows [] (keeper_step Call.Disconnects state) old core sending new ends.0
    (record {
      state = leaves.1;
      appends = leaves.2;
      unread = λ on. absurd (both_ways (is_open core.state.stage) shut on);
      fits = leaving_fits state.stage state;
      accepts_none = leaving_accepts_none state.stage state;
      too = λ m s zero. (leaves_too m state s zero leaves.0, leaves_silently m state s zero leaves.0);
    }) goes
leaving_follows old (Err cause) new leaves = ap₂ piped (same_left (keeper_step Call.Disconnects old.core.state) old.core new.core cause leaves.0) leaves.1

-- ---- so it goes where the model's may go

-- what it publishes, if it is not refused
abbrev pub published_where : List Publication → Result Sending ClientError → List Publication
published_where published (Ok sending) = published
published_where published (Err cause) = []

pub calling_goes : (published : List Publication) (old : Piped) (result : Result Sending ClientError) (new : Piped) → CallingFollows published old result new
    → FollowsBy (published_where published result) old new
calling_goes published old (Ok sendings.Sent) new follows = λ m s.
    let f = follows m s in
    record {
      next = after_writing f.story.keeper f.story.connections m;
      goes = ClientTrace.goes_on ClientTrace.stays (ClientStep.calls f.story f.call f.is_one f.spelled);
      publishes = f.publishes;
      stands = f.stands;
    }
calling_goes published old (Ok sendings.Lost) new follows = follows
calling_goes published old (Err cause) new same = λ m s. record { next = m; goes = ClientTrace.stays; publishes = refl; stands = subst (λ p. ClientStandsFor p m) (sym same) s }
