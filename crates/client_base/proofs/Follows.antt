-- Follows.antt: a client that keeps no history goes the way of the one with it.
use Rattle.std.proofs.Common.{◌≡◌, ℕ, Bool, true, false, not, ◌&&◌, if◌then◌else◌, List, [], ◌∷◌, ◌++◌, filter, Option, Some, None, is_some, refl, ap, ap₂, sym, ◌∙◌, subst}
use Rattle.std.proofs.lemmas.Bool.{both_ways}
use Rattle.packet.specs.declared.packet.Packet.{Packet}
use Rattle.packet.specs.declared.packet.Packet.TheVariants as packets
use Rattle.session_base.specs.declared.publication.Publication.{Publication}
use Rattle.session_base.specs.Publication.{is_answered}
use Rattle.session_base.specs.Identifiers.{least_free}
use Rattle.session_base.specs.Theorems.{IsLeastFree}
use Rattle.client_base.specs.declared.error.ClientError.{ClientError}
use Rattle.client_base.specs.declared.error.ClientError.TheVariants as errors
use Rattle.client_base.specs.declared.request.Request.{Request}
use Rattle.client_base.specs.declared.request.Request.TheVariants as requests
use Rattle.client_base.specs.declared.stage.Stage.{Stage}
use Rattle.client_base.specs.declared.stage.Stage.TheVariants as stages
use Rattle.client_base.specs.State.{ClientState, is_online, lost}
use Rattle.client_base.specs.Calls.{opened}
use Rattle.client_base.specs.Publications.{next_id, published, publish_refusal}
use Rattle.client_base.specs.Steps.{Call, unless_refused, request_refusal, asked, disconnected}
use Rattle.client_base.specs.Called.{with_request, keeper_goes}
use Rattle.client_base.specs.Connected as connected
use Rattle.client_base.specs.HistoryTheorems.{CallsFollow}
use Rattle.client_base.specs.Written.{plain, writes}
use Rattle.client_base.specs.Keeper.{Side, ids_in_use}
use Rattle.client_base.specs.Handled as handling
use Rattle.client_base.specs.History.{KeeperStandsFor}
use Rattle.client_base.proofs.FollowsPackets.{Same, silent, one_written}
use Rattle.client_base.proofs.FollowsCalls.{side_of, publish_follows}
use Rattle.client_base.proofs.FreeIds.{next_same}
use Rattle.client_base.proofs.FollowsHandled.{lost_stands, requests_stand, handled_follows}

-- ---- requests, and the end of a connection

asks_follow : (request : Request) (packet : Packet) (side : Side ℕ) (state : ClientState) → KeeperStandsFor side.keeper state
    → Same side
    (record { keeper = with_request request side.keeper; connection = writes (plain packet ∷ []) side.connection })
    (asked request packet state)
asks_follow request packet side state s =
    record {
      stands = subst (λ (requests : List Request). KeeperStandsFor (with_request request side.keeper) (record state { requests = requests }))
          (ap (λ l. l ++ request ∷ []) (sym s.requests)) (requests_stand side.keeper state (side.keeper.requests ++ request ∷ []) s);
      writes = one_written side.connection packet;
    }

-- a request that is not refused, with one identifier on both sides
request_follows : (refusal : Option ClientError) (make : ℕ → Request) (write : ℕ → Packet) (law : IsLeastFree) (side : Side ℕ) (state : ClientState) → KeeperStandsFor side.keeper state
    → (unless_refused refusal (asked (make (next_id state)) (write (next_id state)) state) state).refusal ≡ None
    → Same side
    (record {
      keeper = with_request (make (least_free (ids_in_use side.keeper))) side.keeper;
      connection = writes (plain (write (least_free (ids_in_use side.keeper))) ∷ []) side.connection;
    })
    (unless_refused refusal (asked (make (next_id state)) (write (next_id state)) state) state)
request_follows (Some cause) make write law side state s taken = absurd (both_ways true (ap is_some taken) refl)
request_follows None make write law side state s taken =
    subst (λ (id : ℕ). Same side
    (record { keeper = with_request (make id) side.keeper; connection = writes (plain (write id) ∷ []) side.connection })
    (asked (make (next_id state)) (write (next_id state)) state))
    (next_same side.keeper state law s) (asks_follow (make (next_id state)) (write (next_id state)) side state s)

leaves_follow : (stage : Stage) (online : Bool) (side : Side ℕ) (state : ClientState) → KeeperStandsFor side.keeper state → is_online stage ≡ online
    → (disconnected stage state).refusal ≡ None
    → Same side
    (record { keeper = handling.lost side.keeper; connection = writes (if online then plain packets.Disconnect ∷ [] else []) side.connection })
    (disconnected stage state)
leaves_follow stages.Closed online side state s e taken = absurd (both_ways true (ap is_some taken) refl)
leaves_follow stages.Opened false side state s e taken = record { stands = lost_stands side.keeper state s; writes = ([], refl, refl) }
leaves_follow stages.Opened true side state s e taken = absurd (both_ways false refl e)
leaves_follow stages.Online true side state s e taken = record { stands = lost_stands side.keeper state s; writes = one_written side.connection packets.Disconnect }
leaves_follow stages.Online false side state s e taken = absurd (both_ways true e refl)

-- ---- publishing

-- at QoS 0 only an online client publishes
online_or_answered : (answered online other large : Bool) →
    (if answered && not other then Some errors.WindowFull else if not answered && not online then Some errors.NotActive else if large then Some errors.TooLarge else None) ≡ None
    → answered ≡ false → online ≡ true
online_or_answered true online other large e f = absurd (both_ways true f refl)
online_or_answered false true other large e f = refl
online_or_answered false false other large e f = absurd (both_ways true (ap is_some e) refl)

publishes_follow : (p : Publication) (law : IsLeastFree) (side : Side ℕ) (state : ClientState) (refusal : Option ClientError) → publish_refusal p state ≡ refusal
    → KeeperStandsFor side.keeper state → (unless_refused refusal (published p state) state).refusal ≡ None
    → Same side (keeper_goes 0 (Call.Publishes p) side) (unless_refused refusal (published p state) state)
publishes_follow p law side state (Some cause) e s taken = absurd (both_ways true (ap is_some taken) refl)
publishes_follow p law side state None e s taken =
    subst (λ (id : ℕ). Same side (side_of p id side (is_answered p.qos) side.keeper.is_online) (published p state))
    (next_same side.keeper state law s)
    (publish_follows p (next_id state) side state (is_answered p.qos) (is_online state.stage) side.keeper.is_online s s.is_online refl
    (online_or_answered (is_answered p.qos) (is_online state.stage) _ _ e))

-- ---- every call

opens_follow : (fresh : ℕ) (side : Side ℕ) (state : ClientState) → state.keep_alive ≡ 0 → KeeperStandsFor side.keeper state
    → KeeperStandsFor (connected.opened 0 fresh side.keeper).keeper (opened state).state
opens_follow fresh side state e s =
    let t : KeeperStandsFor (handling.lost side.keeper) (lost state) = lost_stands side.keeper state s in
    record {
      client = s.client;
      released = s.released;
      sent = s.sent;
      queued = s.queued;
      received = s.received;
      requests = refl;
      is_open = refl;
      is_online = refl;
      was_served = s.was_served;
      releases_are = s.releases_are;
      sent_first = s.sent_first;
      online_sent = λ e. absurd (both_ways false refl e);
    }

opens_same : (client : List ℕ) (other : List ℕ) (m n : ℕ) → other ≡ client → m ≡ n →
    packets.Connect (record { client = client; clean = false; keep_alive = n }) ∷ [] ≡ packets.Connect (record { client = other; clean = false; keep_alive = m }) ∷ []
opens_same client other m n e f = ap₂ (λ c k. packets.Connect (record { client = c; clean = false; keep_alive = k }) ∷ []) (sym e) (sym f)

pub calls_follow : IsLeastFree → CallsFollow
calls_follow law Call.Opens fresh side state zero s taken =
    (opens_follow fresh side state zero s, opens_same side.keeper.client state.client state.keep_alive 0 s.client zero)
calls_follow law (Call.Publishes p) fresh side state zero s taken =
    let same = publishes_follow p law side state (publish_refusal p state) refl s taken in (same.stands, same.writes)
calls_follow law (Call.Subscribes filter qos) fresh side state zero s taken =
    let same = request_follows (request_refusal state) requests.Subscribes
    (λ id. packets.Subscribe (record { id = id; filters = record { filter = filter; qos = qos } ∷ [] })) law side state s taken in
    (same.stands, same.writes)
calls_follow law (Call.Unsubscribes filter) fresh side state zero s taken =
    let same = request_follows (request_refusal state) requests.Unsubscribes
    (λ id. packets.Unsubscribe (record { id = id; filters = filter ∷ [] })) law side state s taken in
    (same.stands, same.writes)
calls_follow law (Call.Receives packet) fresh side state zero s taken =
    let same = handled_follows packet state.stage side.keeper.is_online side state s taken (sym s.is_open ∙ taken) s.is_online in (same.stands, same.writes)
calls_follow law Call.Loses fresh side state zero s taken = (lost_stands side.keeper state s, silent side.connection)
calls_follow law Call.Disconnects fresh side state zero s taken =
    let same = leaves_follow state.stage side.keeper.is_online side state s s.is_online taken in (same.stands, same.writes)
