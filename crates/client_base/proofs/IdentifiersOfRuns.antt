-- IdentifiersOfRuns.antt: in no run of calls is an identifier in flight twice, and none is a
-- publication's and a request's.
use Rattle.std.proofs.Common.{◌≡◌, ℕ, ◌+◌, Bool, true, false, if◌then◌else◌, List, [], ◌∷◌, ◌++◌, filter, refl, arith}
use Rattle.lists.proofs.Identifiers.{distinct_apart}
use Rattle.packet.specs.declared.connack.Connack.TheVariants as connacks
use Rattle.packet.specs.declared.packet.Packet.{Packet}
use Rattle.packet.specs.declared.packet.Packet.TheVariants as packets
use Rattle.session_base.specs.Theorems.{IsLeastFree}
use Rattle.client_base.specs.declared.unacknowledged_publication.UnacknowledgedPublication.{UnacknowledgedPublication}
use Rattle.client_base.specs.declared.stage.Stage.{Stage}
use Rattle.client_base.specs.declared.stage.Stage.TheVariants as stages
use Rattle.client_base.specs.State.{ClientState, new_client_state, ids_of_kept, used_ids, publication_ids, request_ids}
use Rattle.client_base.specs.Calls.{client_receives, on_first, loses_session, discarded, numbered}
use Rattle.client_base.specs.Publications.{published, publish_refusal}
use Rattle.client_base.specs.Steps.{Call, keeper_step, request_refusal, subscribed, unsubscribed, state_after}
use Rattle.client_base.specs.IdentifierTheorems.{UsedIdentifiersAreDistinct, RequestsAreApart}
use Rattle.client_base.proofs.IdentifiersApart.{often, from_once, used_tally}
use Rattle.client_base.proofs.IdentifiersStay.{AreOnce, fewer, published_once, asked_once, lost_once, ended_once, later_once, unless}

-- ---- CONNACK 0

kept_joined : (i : ℕ) (kept others : List UnacknowledgedPublication) → often i (ids_of_kept (kept ++ others)) ≡ often i (ids_of_kept kept) + often i (ids_of_kept others)
kept_joined i [] others = omega arith
kept_joined i (k ∷ kept) others = let ih = kept_joined i kept others in omega (arith, ih)

abbrev all_sent : Bool → ClientState → ClientState
all_sent present kept = record kept { sent = kept.sent ++ kept.queued; queued = []; stage = stages.Online; session_present = present }

sent_all_once : (present : Bool) (kept : ClientState) → AreOnce kept → AreOnce (all_sent present kept)
sent_all_once present kept few = fewer kept (all_sent present kept) (λ i. let m = kept_joined i kept.sent kept.queued in omega (arith, m)) few

confirmed_once : (b present : Bool) (state : ClientState) → AreOnce state → AreOnce (all_sent present (if b then discarded state else numbered state))
confirmed_once true present state few = sent_all_once present (discarded state) (fewer state (discarded state) (λ i. omega arith) few)
confirmed_once false present state few = sent_all_once present (numbered state) few

first_once : (packet : Packet) (state : ClientState) → AreOnce state → AreOnce (on_first packet state).state
first_once (packets.Connack (connacks.Accepted present)) state few = confirmed_once (loses_session present state) present state few
first_once (packets.Connack (connacks.Refused code)) state few = lost_once state stages.Closed few
first_once _ state few = lost_once state stages.Closed few

received_once : (packet : Packet) (stage : Stage) (state : ClientState) → AreOnce state → AreOnce (client_receives packet stage state).state
received_once packet stages.Closed state few = few
received_once packet stages.Opened state few = first_once packet state few
received_once packet stages.Online state few = later_once packet state few

-- ---- every call

step_once : (law : IsLeastFree) (call : Call) (state : ClientState) → AreOnce state → AreOnce (keeper_step call state).state
step_once law Call.Opens state few = lost_once state stages.Opened few
step_once law (Call.Publishes p) state few = unless (publish_refusal p state) (published p state) state few (published_once law p state few)
step_once law (Call.Subscribes filter qos) state few = unless (request_refusal state) (subscribed filter qos state) state few (asked_once law _ state refl few)
step_once law (Call.Unsubscribes filter) state few = unless (request_refusal state) (unsubscribed filter state) state few (asked_once law _ state refl few)
step_once law (Call.Receives packet) state few = received_once packet state.stage state few
step_once law Call.Loses state few = lost_once state stages.Closed few
step_once law Call.Disconnects state few = ended_once state.stage state few

calls_once : (law : IsLeastFree) (calls : List Call) (state : ClientState) → AreOnce state → AreOnce (state_after calls state)
calls_once law [] state few = few
calls_once law (call ∷ calls) state few = calls_once law calls (keeper_step call state).state (step_once law call state few)

pub identifiers_distinct : IsLeastFree → UsedIdentifiersAreDistinct
identifiers_distinct law calls client keep_alive =
    from_once (used_ids (state_after calls (new_client_state client keep_alive)))
    (λ i. let few = calls_once law calls (new_client_state client keep_alive) (λ j. omega arith) i in
    let same = used_tally i (state_after calls (new_client_state client keep_alive)) in omega (arith, few, same))

pub requests_apart : IsLeastFree → RequestsAreApart
requests_apart law calls client keep_alive id has =
    let state = state_after calls (new_client_state client keep_alive) in
    distinct_apart id (publication_ids state) (request_ids state) (identifiers_distinct law calls client keep_alive) has
