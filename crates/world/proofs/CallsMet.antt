-- CallsMet.antt: a call of a client is done, or it is refused and changes nothing.
use Rattle.std.proofs.Common.{◌≡◌, ◌⊎◌, inl, inr, ℕ, Bool, true, false, List, [], Option, Some, None, Result, Ok, Err, IsOk, IsErr, slice_get, refl, sym, ap, ◌∙◌, subst}
use Rattle.std.specs.List.{position}
use Rattle.std.specs.Option.{is_some}
use Rattle.std.proofs.lemmas.Bool.{both_ways}
use Rattle.std.proofs.lemmas.Option.{none-some}
use Rattle.ballot_base.specs.Losses.{one_more}
use Rattle.client.specs.Core.{Core}
use Rattle.client_base.specs.Answered.{ClientOutcome}
use Rattle.client_base.specs.Publications.{publish_refusal, published}
use Rattle.client_base.specs.State.{ClientState, is_online, is_open}
use Rattle.client_base.specs.Steps.{Call, disconnected, keeper_step, request_refusal, subscribed, unless_refused, unsubscribed}
use Rattle.client_base.specs.declared.error.ClientError.{ClientError}
use Rattle.client_base.specs.declared.error.ClientError.TheVariants as errors
use Rattle.client_base.specs.declared.stage.Stage.{Stage}
use Rattle.client_base.specs.declared.stage.Stage.TheVariants as stages
use Rattle.master.specs.declared.event.Idle.{Idle}
use Rattle.packet_base.specs.declared.qos.QoS.{QoS}
use Rattle.session_base.specs.declared.publication.Publication.{Publication}
use Rattle.world_pipes.specs.declared.sending.Sending.{Sending}
use Rattle.world_pipes.specs.declared.sending.Sending.TheVariants as sendings
use Rattle.world_pipes.specs.ModelSteps.{CallingFollows}
use Rattle.world_pipes.specs.Piped.{Piped, TakesLeave}
use Rattle.world_pipes.specs.declared.events.event.Event.TheVariants as events
use Rattle.world_pipes.specs.declared.clients.world_client.WorldClient.{WorldClient}
use Rattle.world.specs.Found.{core_named, with_piped}
use Rattle.world_pipes.specs.clients.Clients.{is_named}
use Rattle.world.specs.ClientCalls.{SendsCall, ClientDoes, SendsDisconnect, LosesAsking, LosesLeaving}
use Rattle.world_pipes.specs.clients.ClientCalls.{LosesConnection, IsCall}
use Rattle.world.specs.Cannot.{HoldsNone, RefusesCall}
use Rattle.world.specs.Inside.ClientCalls.{CountsRefusal, with_one_loss}
use Rattle.world.specs.Inside.Steps.{EventIsDone, EventResultOrLost}
use Rattle.world.specs.World.{WorldState}
use Rattle.world.proofs.ClientGoes.{same_piped}
use Rattle.world.proofs.StandsThere.{core_found}

-- it is done exactly
pub record IsCalled (name : List ℕ) (cannot : Option Core → Type 0) (does : Bool → Piped → Piped → Type 0) (old new : WorldState) : Type 0 where
  pub possible : cannot (core_named name old.clients) → ⊥
  pub less : ClientDoes name (does false) old new
  pub exact : ClientDoes name (does true) old new
  pub uncounted : new.losses ≡ old.losses

-- it is not done, or done with losses, and that is counted
pub record LosesCall (name : List ℕ) (cannot : Option Core → Type 0) (does : Bool → Piped → Piped → Type 0) (loses : Piped → Piped → Type 0) (old new : WorldState) : Type 0 where
  pub possible : cannot (core_named name old.clients) → ⊥
  pub done : WorldState
  pub less : (done ≡ old) ⊎ ClientDoes name (does false) old done
  pub lost : (done ≡ old) ⊎ ClientDoes name loses old done
  pub counted : new ≡ record done { losses = one_more old.losses }

-- the result of something that a client does
abbrev pub ClientMeets : List ℕ → (Option Core → Type 0) → (Bool → Piped → Piped → Type 0) → (Piped → Piped → Type 0) → WorldState → Result (Unit {0}) Idle → WorldState → Type 0
ClientMeets name cannot does loses old (Err idle) new = cannot (core_named name old.clients) × (new ≡ old)
ClientMeets name cannot does loses old (Ok done) new = IsCalled name cannot does old new ⊎ LosesCall name cannot does loses old new

-- .. by its own answer
abbrev pub Outcome : (Option Core → Type 0) → (Bool → Piped → Piped → Type 0) → (Piped → Piped → Type 0) → Piped → Result Sending ClientError → Piped → Type 0
Outcome cannot does loses old (Ok sendings.Sent) new = (cannot (Some old.core) → ⊥) × does true old new × does false old new
Outcome cannot does loses old (Ok sendings.Lost) new = (cannot (Some old.core) → ⊥) × does false old new × loses old new
Outcome cannot does loses old (Err errors.Memory) new = (cannot (Some old.core) → ⊥) × (new ≡ old)
Outcome cannot does loses old (Err cause) new = cannot (Some old.core) × (new ≡ old)

-- ---- in its world

done_well : (name : List ℕ) (cannot : Option Core → Type 0) (does : Bool → Piped → Piped → Type 0) (loses : Piped → Piped → Type 0) (old : WorldState) (at : ℕ) (client : WorldClient) (piped : Piped) (result : Result (Unit {0}) Idle) (new : WorldState)
    → position (is_named name) old.clients ≡ Some at → slice_get old.clients at ≡ Some client → (cannot (Some client.piped.core) → ⊥) → does true client.piped piped → does false client.piped piped
    → IsOk result → new ≡ with_piped at client piped old → ClientMeets name cannot does loses old result new
done_well name cannot does loses old at client piped (Err idle) new first stands possible exact less ok is = absurd (both_ways false refl ok)
done_well name cannot does loses old at client piped (Ok x) new first stands possible exact less ok is =
    inl (record {
      possible = λ cause. possible (subst cannot (core_found name old.clients at client first stands) cause);
      less = (record { at = at; first = first; client = client; stands = stands }, piped, less, is);
      exact = (record { at = at; first = first; client = client; stands = stands }, piped, exact, is);
      uncounted = ap (λ (w : WorldState). w.losses) is;
    })

-- done with losses, or not at all
lost_call : (name : List ℕ) (cannot : Option Core → Type 0) (does : Bool → Piped → Piped → Type 0) (loses : Piped → Piped → Type 0) (old done : WorldState) (result : Result (Unit {0}) Idle) (new : WorldState)
    → (cannot (core_named name old.clients) → ⊥) → (done ≡ old) ⊎ ClientDoes name (does false) old done → (done ≡ old) ⊎ ClientDoes name loses old done → done.losses ≡ old.losses → IsOk result → new ≡ with_one_loss done
    → ClientMeets name cannot does loses old result new
lost_call name cannot does loses old done (Err idle) new possible less lost still ok is = absurd (both_ways false refl ok)
lost_call name cannot does loses old done (Ok x) new possible less lost still ok is =
    inr (record { possible = possible; done = done; less = less; lost = lost; counted = is ∙ ap (λ (k : ℕ). let w : WorldState = record done { losses = one_more k } in w) still })

idle_then : (name : List ℕ) (cannot : Option Core → Type 0) (does : Bool → Piped → Piped → Type 0) (loses : Piped → Piped → Type 0) (old : WorldState) (at : ℕ) (client : WorldClient) (piped : Piped) (result : Result (Unit {0}) Idle) (new : WorldState)
    → position (is_named name) old.clients ≡ Some at → slice_get old.clients at ≡ Some client → cannot (Some client.piped.core) × (piped ≡ client.piped) → IsErr result × (new ≡ with_piped at client piped old)
    → ClientMeets name cannot does loses old result new
idle_then name cannot does loses old at client piped (Ok x) new first stands refused counts = absurd (both_ways false refl counts.0)
idle_then name cannot does loses old at client piped (Err idle) new first stands refused counts = (
  subst cannot (sym (core_found name old.clients at client first stands)) refused.0,
  counts.1 ∙ same_piped old at client piped stands refused.1,
)

pub client_meets : (name : List ℕ) (cannot : Option Core → Type 0) (does : Bool → Piped → Piped → Type 0) (loses : Piped → Piped → Type 0) (old : WorldState) (at : ℕ) (client : WorldClient) (piped : Piped) (done : Result Sending ClientError)
    (result : Result (Unit {0}) Idle) (new : WorldState) → position (is_named name) old.clients ≡ Some at → slice_get old.clients at ≡ Some client → Outcome cannot does loses client.piped done piped
    → CountsRefusal done (with_piped at client piped old) result new → ClientMeets name cannot does loses old result new
client_meets name cannot does loses old at client piped (Ok sendings.Sent) result new first stands out counts =
    done_well name cannot does loses old at client piped result new first stands out.0 out.1 out.2 counts.0 counts.1
client_meets name cannot does loses old at client piped (Ok sendings.Lost) result new first stands out counts =
    lost_call name cannot does loses old (with_piped at client piped old) result new (λ no. out.0 (subst cannot (core_found name old.clients at client first stands) no))
    (inr (record { at = at; first = first; client = client; stands = stands }, piped, out.1, refl))
    (inr (record { at = at; first = first; client = client; stands = stands }, piped, out.2, refl)) refl counts.0 counts.1
client_meets name cannot does loses old at client piped (Err errors.Memory) result new first stands out counts =
    lost_call name cannot does loses old (with_piped at client piped old) result new (λ no. out.0 (subst cannot (core_found name old.clients at client first stands) no))
    (inl (same_piped old at client piped stands out.1)) (inl (same_piped old at client piped stands out.1)) refl counts.0 counts.1
client_meets name cannot does loses old at client piped (Err errors.NotActive) result new first stands out counts = idle_then name cannot does loses old at client piped result new first stands out counts
client_meets name cannot does loses old at client piped (Err errors.WindowFull) result new first stands out counts = idle_then name cannot does loses old at client piped result new first stands out counts
client_meets name cannot does loses old at client piped (Err errors.TooLarge) result new first stands out counts = idle_then name cannot does loses old at client piped result new first stands out counts
client_meets name cannot does loses old at client piped (Err errors.SessionLost) result new first stands out counts = idle_then name cannot does loses old at client piped result new first stands out counts
client_meets name cannot does loses old at client piped (Err errors.Protocol) result new first stands out counts = idle_then name cannot does loses old at client piped result new first stands out counts
client_meets name cannot does loses old at client piped (Err (errors.Malformed kind)) result new first stands out counts = idle_then name cannot does loses old at client piped result new first stands out counts

-- ---- its calls

some_cause : (refusal : Option ClientError) (cause : ClientError) → refusal ≡ Some cause → refusal ≡ None → ⊥
some_cause refusal cause some none = none-some cause (sym none ∙ some)

pub call_outcome : (published : List Publication) (call : Call) (old : Piped) (done : Result Sending ClientError) (new : Piped) → (RefusesCall call (Some old.core) → ⊥) → IsCall call old done new → CallingFollows published old done new → Outcome (RefusesCall call) (SendsCall call) (LosesAsking call) old done new
call_outcome published call old (Ok sendings.Sent) new possible calls follows = (λ no. no calls.1.0, calls, (sendings.Sent, calls))
call_outcome published call old (Ok sendings.Lost) new possible calls follows = (possible, (sendings.Lost, calls), calls)
call_outcome published call old (Err errors.Memory) new possible calls follows = (possible, follows)
call_outcome published call old (Err errors.NotActive) new possible calls follows = (some_cause _ errors.NotActive calls.0.0, follows)
call_outcome published call old (Err errors.WindowFull) new possible calls follows = (some_cause _ errors.WindowFull calls.0.0, follows)
call_outcome published call old (Err errors.TooLarge) new possible calls follows = (some_cause _ errors.TooLarge calls.0.0, follows)
call_outcome published call old (Err errors.SessionLost) new possible calls follows = (some_cause _ errors.SessionLost calls.0.0, follows)
call_outcome published call old (Err errors.Protocol) new possible calls follows = (some_cause _ errors.Protocol calls.0.0, follows)
call_outcome published call old (Err (errors.Malformed kind)) new possible calls follows = (some_cause _ (errors.Malformed kind) calls.0.0, follows)

-- a client that is asked says what it refuses
refused_by : (refusal : Option ClientError) (outcome : ClientOutcome) (state : ClientState) → is_some refusal ≡ true → (unless_refused refusal outcome state).refusal ≡ None → ⊥
refused_by None outcome state some none = both_ways false refl some
refused_by (Some cause) outcome state some none = none-some cause (sym none)

allowed_by : (refusal : Option ClientError) (outcome : ClientOutcome) (state : ClientState) → outcome.refusal ≡ None → is_some refusal ≡ false
    → ((unless_refused refusal outcome state).refusal ≡ None → ⊥) → ⊥
allowed_by None outcome state free none refuses = refuses free
allowed_by (Some cause) outcome state free none refuses = both_ways true none refl

published_free : (p : Publication) (state : ClientState) → (published p state).refusal ≡ None
published_free p state = by (is_online state.stage) refl
  where
    by : (b : Bool) → is_online state.stage ≡ b → (published p state).refusal ≡ None
    by true is = rw is refl
    by false is = rw is refl

pub refuses_publication : (p : Publication) (core : Core) → is_some (publish_refusal p core.state) ≡ true → RefusesCall (Call.Publishes p) (Some core)
refuses_publication p core some = refused_by (publish_refusal p core.state) (published p core.state) core.state some

pub takes_publication : (p : Publication) (core : Core) → is_some (publish_refusal p core.state) ≡ false → RefusesCall (Call.Publishes p) (Some core) → ⊥
takes_publication p core none refuses = allowed_by (publish_refusal p core.state) (published p core.state) core.state (published_free p core.state) none refuses

pub refuses_filter : (filter : List ℕ) (qos : QoS) (core : Core) → is_some (request_refusal core.state) ≡ true
    → RefusesCall (Call.Subscribes filter qos) (Some core) × RefusesCall (Call.Unsubscribes filter) (Some core)
refuses_filter filter qos core some =
    (refused_by (request_refusal core.state) (subscribed filter qos core.state) core.state some, refused_by (request_refusal core.state) (unsubscribed filter core.state) core.state some)

pub takes_filter : (filter : List ℕ) (qos : QoS) (core : Core) → is_some (request_refusal core.state) ≡ false
    → (RefusesCall (Call.Subscribes filter qos) (Some core) → ⊥) × (RefusesCall (Call.Unsubscribes filter) (Some core) → ⊥)
takes_filter filter qos core none = (
  λ refuses. allowed_by (request_refusal core.state) (subscribed filter qos core.state) core.state refl none refuses,
  λ refuses. allowed_by (request_refusal core.state) (unsubscribed filter core.state) core.state refl none refuses,
)

-- what cannot be is idle, before anything is copied
pub asked_before : (name : List ℕ) (cannot : Option Core → Type 0) (old : WorldState) (at : ℕ) (client : WorldClient) → position (is_named name) old.clients ≡ Some at
    → slice_get old.clients at ≡ Some client → cannot (Some client.piped.core) → cannot (core_named name old.clients) × (old ≡ old)
asked_before name cannot old at client first stands refuses = (subst cannot (sym (core_found name old.clients at client first stands)) refuses, refl)

-- only one that holds a connection may leave
may_leave : (stage : Stage) (state : ClientState) → (disconnected stage state).refusal ≡ None → is_open stage ≡ false → ⊥
may_leave stages.Closed state none closed = none-some errors.NotActive (sym none)
may_leave stages.Opened state none closed = both_ways true closed refl
may_leave stages.Online state none closed = both_ways true closed refl

may_not_leave : (stage : Stage) (state : ClientState) (cause : ClientError) → (disconnected stage state).refusal ≡ Some cause → is_open stage ≡ false
may_not_leave stages.Closed state cause some = refl
may_not_leave stages.Opened state cause some = absurd (none-some cause some)
may_not_leave stages.Online state cause some = absurd (none-some cause some)

pub leave_outcome : (old : Piped) (done : Result Sending ClientError) (new : Piped) → (HoldsNone (Some old.core) → ⊥) → TakesLeave (keeper_step Call.Disconnects old.core.state) old done new → CallingFollows [] old done new
    → Outcome HoldsNone SendsDisconnect LosesLeaving old done new
leave_outcome old (Ok sendings.Sent) new possible leaves follows = (may_leave old.core.state.stage old.core.state leaves.1.0, leaves, (sendings.Sent, leaves))
leave_outcome old (Ok sendings.Lost) new possible leaves follows = (possible, (sendings.Lost, leaves), leaves)
leave_outcome old (Err errors.Memory) new possible leaves follows = (possible, follows)
leave_outcome old (Err errors.NotActive) new possible leaves follows = (may_not_leave old.core.state.stage old.core.state errors.NotActive leaves.0.0, follows)
leave_outcome old (Err errors.WindowFull) new possible leaves follows = (may_not_leave old.core.state.stage old.core.state errors.WindowFull leaves.0.0, follows)
leave_outcome old (Err errors.TooLarge) new possible leaves follows = (may_not_leave old.core.state.stage old.core.state errors.TooLarge leaves.0.0, follows)
leave_outcome old (Err errors.SessionLost) new possible leaves follows = (may_not_leave old.core.state.stage old.core.state errors.SessionLost leaves.0.0, follows)
leave_outcome old (Err errors.Protocol) new possible leaves follows = (may_not_leave old.core.state.stage old.core.state errors.Protocol leaves.0.0, follows)
leave_outcome old (Err (errors.Malformed kind)) new possible leaves follows = (may_not_leave old.core.state.stage old.core.state (errors.Malformed kind) leaves.0.0, follows)

-- ---- as events

-- what was lost at a client
pub or_nodes : {A B C : Type 0} → A ⊎ B → A ⊎ B ⊎ C
or_nodes (inl a) = inl a
or_nodes (inr b) = inr (inl b)

pub publish_meets : (name : List ℕ) (p : Publication) (old : WorldState) (result : Result (Unit {0}) Idle) (new : WorldState)
    → ClientMeets name (RefusesCall (Call.Publishes p)) (SendsCall (Call.Publishes p)) (LosesAsking (Call.Publishes p)) old result new → EventResultOrLost (events.Publish name p) old result new
publish_meets name p old (Ok x) new (inl d) = inl (record { possible = d.possible; does = inr d.less; exact = λ none. d.exact; uncounted = d.uncounted })
publish_meets name p old (Ok x) new (inr l) = inr (record { possible = l.possible; takes_memory = λ none low. none; done = l.done; does = l.less; lost = or_nodes l.lost; counted = l.counted })
publish_meets name p old (Err x) new m = m

pub subscribe_meets : (name filter : List ℕ) (qos : QoS) (old : WorldState) (result : Result (Unit {0}) Idle) (new : WorldState)
    → ClientMeets name (RefusesCall (Call.Subscribes filter qos)) (SendsCall (Call.Subscribes filter qos)) (LosesAsking (Call.Subscribes filter qos)) old result new → EventResultOrLost (events.Subscribe name filter qos) old result new
subscribe_meets name filter qos old (Ok x) new (inl d) = inl (record { possible = d.possible; does = inr d.less; exact = λ none. d.exact; uncounted = d.uncounted })
subscribe_meets name filter qos old (Ok x) new (inr l) = inr (record { possible = l.possible; takes_memory = λ none low. none; done = l.done; does = l.less; lost = or_nodes l.lost; counted = l.counted })
subscribe_meets name filter qos old (Err x) new m = m

pub unsubscribe_meets : (name filter : List ℕ) (old : WorldState) (result : Result (Unit {0}) Idle) (new : WorldState)
    → ClientMeets name (RefusesCall (Call.Unsubscribes filter)) (SendsCall (Call.Unsubscribes filter)) (LosesAsking (Call.Unsubscribes filter)) old result new → EventResultOrLost (events.Unsubscribe name filter) old result new
unsubscribe_meets name filter old (Ok x) new (inl d) = inl (record { possible = d.possible; does = inr d.less; exact = λ none. d.exact; uncounted = d.uncounted })
unsubscribe_meets name filter old (Ok x) new (inr l) = inr (record { possible = l.possible; takes_memory = λ none low. none; done = l.done; does = l.less; lost = or_nodes l.lost; counted = l.counted })
unsubscribe_meets name filter old (Err x) new m = m

pub disconnect_meets : (name : List ℕ) (old : WorldState) (result : Result (Unit {0}) Idle) (new : WorldState) → ClientMeets name HoldsNone SendsDisconnect LosesLeaving old result new
    → EventResultOrLost (events.Disconnect name) old result new
disconnect_meets name old (Ok x) new (inl d) = inl (record { possible = d.possible; does = inr d.less; exact = λ none. d.exact; uncounted = d.uncounted })
disconnect_meets name old (Ok x) new (inr l) = inr (record { possible = l.possible; takes_memory = λ none low. none; done = l.done; does = l.less; lost = or_nodes l.lost; counted = l.counted })
disconnect_meets name old (Err x) new m = m

-- one that holds a connection loses it
pub abandon_meets : (name : List ℕ) (old : WorldState) (at : ℕ) (client : WorldClient) (piped : Piped) → position (is_named name) old.clients ≡ Some at → slice_get old.clients at ≡ Some client
    → is_open client.piped.core.state.stage ≡ true → LosesConnection client.piped piped → EventIsDone (events.Abandon name) old (with_piped at client piped old)
abandon_meets name old at client piped first stands holds loses =
    let does : ClientDoes name LosesConnection old (with_piped at client piped old) = (record { at = at; first = first; client = client; stands = stands }, piped, loses, refl) in
    record {
      possible = λ no. both_ways _ (subst HoldsNone (core_found name old.clients at client first stands) no) holds;
      does = inr does;
      exact = λ none. does;
      uncounted = refl;
    }
