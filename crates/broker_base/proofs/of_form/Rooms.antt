-- A command finds room in every session for what it makes there: it would be refused otherwise.
use Rattle.std.proofs.Common.{◌≡◌, ◌+◌, ◌≤◌, Bool, true, false, ◌&&◌, ◌||◌, ◌==◌, if◌then◌else◌, Option, Some, None, List, [], ◌∷◌, length, map, refl, sym, ap, ◌∙◌, subst, arith}
use Rattle.std.specs.Prelude.{option_map}
use Rattle.std.specs.List.{AllByRecursion, list_any}
use Rattle.packet.specs.declared.packet.Packet.{Packet}
use Rattle.packet.specs.declared.packet.Packet.TheVariants as packets
use Rattle.packet.specs.declared.publish.Publish.{Publish}
use Rattle.packet.specs.declared.subscribe.Subscribe.{Subscribe}
use Rattle.packet_base.specs.declared.qos.QoS.{QoS}
use Rattle.retained.specs.Retained.{RetainedTopics}
use Rattle.session_base.specs.declared.publication.Publication.{Publication}
use Rattle.session_base.specs.Publication.{publication_of, is_answered}
use Rattle.packet_base.specs.QoS.{lower_qos}
use Rattle.session_base.specs.Queue.{Queue, room}
use Rattle.session_base.specs.Subscriptions.{GrantedSubscription, with_subscriptions, without_filters, granted_qos}
use Rattle.broker_spec.specs.Connection.{ConnectionName}
use Rattle.broker_spec.specs.Place.{Client, same_client, Mark, Place, Limits}
use Rattle.broker_spec.specs.Subscriptions.{as_granted, granted_of, subscriptions_after}
use Rattle.broker_spec.specs.Entries.{copy_of, queued, copies_for_all}
use Rattle.broker_spec.specs.Marks.{is_queued_at, grants}
use Rattle.broker_spec.proofs.ClientsInOrder.{same_is}
use Rattle.broker_spec.specs.declared.command.Command.{Command}
use Rattle.broker_spec.specs.declared.command.Command.TheVariants as commands
use Rattle.broker_base.specs.ClientSession.{ClientSession}
use Rattle.broker_base.specs.SessionStep.{copies_with}
use Rattle.broker_base.specs.State.{Sessions, State, session_in, owner_in}
use Rattle.broker_base.specs.StateTheorems.{AreByClient}
use Rattle.broker_base.specs.Decisions.{row_lacks_room, is_one_topic_over, is_refused_in, repeats_taken, owned_mark, packet_mark_in, place_in}
use Rattle.broker_base.proofs.of_rows.FindsEach.{Finds, finds_each}
use Rattle.broker_base.proofs.of_rows.OwnersRow.{owner_found}
use Rattle.broker_base.specs.form.InRange.{IsSession}
use Rattle.broker_base.proofs.of_form.Publications.{made}
use Rattle.broker_base.proofs.of_form.Sessions.{HasRoom}
use Rattle.broker_base.proofs.of_form.Grants.{grants_have_room, grants_stay_few, given_up_few}

-- each row is in its range, and there is room in it
abbrev pub AllInRange : Limits → Sessions → Type 0
AllInRange limits rows = AllByRecursion (λ row. IsSession limits row.0 row.1) rows

abbrev pub AllHaveRoom : Limits → Place → RetainedTopics → Sessions → Type 0
AllHaveRoom limits place content rows = AllByRecursion (λ row. HasRoom limits place content row.0 row.1) rows

-- ---- a command that makes no entries

-- it makes none, and adds no filter
abbrev pub MakesNothing : Place → Type 0
MakesNothing place =
    (content : RetainedTopics) (c : Client) (held : List GrantedSubscription) →
    (length (queued (copies_with place.command place.mark content c held)) ≡ 0)
    × (length (subscriptions_after place.command place.mark c held) ≤ length held)

nothing_made : (limits : Limits) (place : Place) (content : RetainedTopics) (rows : Sessions) → MakesNothing place → AllInRange limits rows →
    AllHaveRoom limits place content rows
nothing_made limits place content [] n h = tt
nothing_made limits place content (row ∷ rows) n h =
    let none = n content row.0 row.1.state.subscriptions in
    let made = none.0 in let filters = none.1 in let few = h.0.queue.few in let held = h.0.few_filters in
    (record { entries = omega (arith, made, few); filters = omega (arith, filters, held) }, nothing_made limits place content rows n h.1)

-- ---- a taken publication

one_copy : (limits : Limits) (p : Publication) (q : Queue) (o : Option QoS) → length q.in_flight + length q.waiting ≤ limits.entries →
    (is_queued_at (option_map (lower_qos p.qos) o) && (room limits.entries q == 0)) ≡ false →
    length q.in_flight + length q.waiting + length (queued (copy_of p (option_map (lower_qos p.qos) o))) ≤ limits.entries
one_copy limits p q None few e = omega (arith, few)
one_copy limits p q (Some qos) few e = by (is_answered (lower_qos p.qos qos)) e
  where
    by : (b : Bool) → (b && (room limits.entries q == 0)) ≡ false →
        length q.in_flight + length q.waiting + length (if b then made false (lower_qos p.qos qos) p.topic p.payload ∷ [] else []) ≤ limits.entries
    by true e =
        let some_room : room limits.entries q ≡ 0 → ⊥ = λ none. absurd (cc (e, none)) in
        omega (arith, some_room, few)
    by false e = omega (arith, few)

taken_rooms : (limits : Limits) (x : ConnectionName) (p : Publish) (d : Client) (content : RetainedTopics) (rows : Sessions) →
    list_any (row_lacks_room limits (publication_of p)) rows ≡ false → AllInRange limits rows →
    AllHaveRoom limits (record { command = commands.Packet x (packets.Publish p); mark = Mark.Taken d }) content rows
taken_rooms limits x p d content [] e h = tt
taken_rooms limits x p d content (row ∷ rows) e h =
    let parts = both_no (row_lacks_room limits (publication_of p) row) (list_any (row_lacks_room limits (publication_of p)) rows) e in (
      record {
        entries = one_copy limits (publication_of p) row.1.state.queue (granted_qos p.topic row.1.state.subscriptions) h.0.queue.few parts.0;
        filters = h.0.few_filters;
      },
      taken_rooms limits x p d content rows parts.1 h.1,
    )
  where
    both_no : (a b : Bool) → (a || b) ≡ false → (a ≡ false) × (b ≡ false)
    both_no true b e = absurd (cc)
    both_no false b e = (refl, e)

-- ---- a SUBSCRIBE

abbrev which : Limits → RetainedTopics → ClientSession → Subscribe → List Bool
which limits content owner s = grants limits content owner.state.subscriptions (room limits.entries owner.state.queue) s.filters

granted_entries : (limits : Limits) (s : Subscribe) (content : RetainedTopics) (b : Bool) (owner kept : ClientSession) → (b ≡ true → kept ≡ owner) →
    length kept.state.queue.in_flight + length kept.state.queue.waiting ≤ limits.entries →
    length kept.state.queue.in_flight + length kept.state.queue.waiting
    + length (queued (if b then copies_for_all content (granted_of s.filters (which limits content owner s)) else [])) ≤ limits.entries
granted_entries limits s content false owner kept same few = omega (arith, few)
granted_entries limits s content true owner kept same few =
    let k = grants_have_room limits content owner.state.subscriptions (room limits.entries owner.state.queue) s.filters in
    subst (λ (one : ClientSession). length one.state.queue.in_flight + length one.state.queue.waiting
    + length (queued (copies_for_all content (granted_of s.filters (which limits content owner s)))) ≤ limits.entries) (sym (same refl))
    (let few_there = subst (λ (one : ClientSession). length one.state.queue.in_flight + length one.state.queue.waiting ≤ limits.entries) (same refl) few in
    omega (arith, k, few_there))

granted_filters : (limits : Limits) (s : Subscribe) (content : RetainedTopics) (b : Bool) (owner kept : ClientSession) → (b ≡ true → kept ≡ owner) →
    length kept.state.subscriptions ≤ limits.subscriptions →
    length (if b then with_subscriptions (map as_granted (granted_of s.filters (which limits content owner s))) kept.state.subscriptions else kept.state.subscriptions)
    ≤ limits.subscriptions
granted_filters limits s content false owner kept same few = few
granted_filters limits s content true owner kept same few =
    subst (λ (one : ClientSession). length (with_subscriptions (map as_granted (granted_of s.filters (which limits content owner s))) one.state.subscriptions) ≤ limits.subscriptions)
    (sym (same refl))
    (grants_stay_few limits content owner.state.subscriptions (room limits.entries owner.state.queue) s.filters
    (subst (λ (one : ClientSession). length one.state.subscriptions ≤ limits.subscriptions) (same refl) few))

granted_rooms : (limits : Limits) (x : ConnectionName) (s : Subscribe) (content : RetainedTopics) (owner : Client × ClientSession) (all rows : Sessions) →
    session_in owner.0 all ≡ Some owner.1 → Finds (λ c. session_in c all) rows → AllInRange limits rows →
    AllHaveRoom limits (record { command = commands.Packet x (packets.Subscribe s); mark = Mark.Granted owner.0 (which limits content owner.1 s) }) content rows
granted_rooms limits x s content owner all [] e finds h = tt
granted_rooms limits x s content owner all (row ∷ rows) e finds h = (
  record {
    entries = granted_entries limits s content (same_client owner.0 row.0) owner.1 row.1 same h.0.queue.few;
    filters = granted_filters limits s content (same_client owner.0 row.0) owner.1 row.1 same h.0.few_filters;
  },
  granted_rooms limits x s content owner all rows e finds.1 h.1,
)
  where
    the : Option ClientSession → ClientSession
    the (Some kept) = kept
    the None = row.1

    same : same_client owner.0 row.0 ≡ true → row.1 ≡ owner.1
    same k = ap the (sym finds.0 ∙ ap (λ c. session_in c all) (sym (same_is owner.0 row.0 k)) ∙ e)

-- ---- every command

owned_rooms : (limits : Limits) (state : State) (x : ConnectionName) (owner : Client × ClientSession) (packet : Packet) → AreByClient state.sessions →
    owner_in x state.sessions ≡ Some owner → AllInRange limits state.sessions →
    AllHaveRoom limits (record { command = commands.Packet x packet; mark = owned_mark limits state owner packet }) state.retained state.sessions
owned_rooms limits state x owner (packets.Publish p) sorted e h =
    elim (repeats_taken owner.1 p.delivery) as (λ (b : Bool).
    AllHaveRoom limits (record {
      command = commands.Packet x (packets.Publish p);
      mark = if b then Mark.Repeat owner.0 else
          if is_refused_in limits state (publication_of p) then Mark.Refused owner.0 else Mark.Taken owner.0;
    }) state.retained state.sessions) [
      | true ↦ nothing_made limits _ state.retained state.sessions (λ content c held. (refl, omega arith)) h
      | false ↦ elim (is_refused_in limits state (publication_of p)) as (λ (b : Bool). is_refused_in limits state (publication_of p) ≡ b →
          AllHaveRoom limits (record { command = commands.Packet x (packets.Publish p); mark = if b then Mark.Refused owner.0 else Mark.Taken owner.0 }) state.retained state.sessions) [
            | true ↦ λ f. nothing_made limits _ state.retained state.sessions (λ content c held. (refl, omega arith)) h
            | false ↦ λ f. taken_rooms limits x p owner.0 state.retained state.sessions
                (first_no (list_any (row_lacks_room limits (publication_of p)) state.sessions) (is_one_topic_over limits state.retained (publication_of p)) f) h
          ] refl
    ]
  where
    first_no : (a b : Bool) → (a || b) ≡ false → a ≡ false
    first_no true b e = absurd (cc)
    first_no false b e = refl
owned_rooms limits state x owner (packets.Subscribe s) sorted e h =
    granted_rooms limits x s state.retained owner state.sessions state.sessions (owner_found x owner state.sessions sorted e) (finds_each state.sessions sorted) h
owned_rooms limits state x owner (packets.Unsubscribe u) sorted e h =
    nothing_made limits _ state.retained state.sessions (λ content c held. (refl, given_up (same_client owner.0 c) held)) h
  where
    given_up : (b : Bool) (held : List GrantedSubscription) → length (if b then without_filters u.filters held else held) ≤ length held
    given_up true held = given_up_few u.filters held
    given_up false held = omega arith
owned_rooms limits state x owner packet sorted e h =
    nothing_made limits _ state.retained state.sessions (λ content c held. (refl, omega arith)) h

pub rooms : (limits : Limits) (state : State) (command : Command) → AreByClient state.sessions → AllInRange limits state.sessions →
    AllHaveRoom limits (place_in limits state command) state.retained state.sessions
rooms limits state (commands.Packet x packet) sorted h =
    elim (owner_in x state.sessions) as (λ (o : Option (Client × ClientSession)). owner_in x state.sessions ≡ o →
    AllHaveRoom limits (record { command = commands.Packet x packet; mark = packet_mark_in limits state packet o }) state.retained state.sessions) [
      | Some owner ↦ λ e. owned_rooms limits state x owner packet sorted e h
      | None ↦ λ e. nothing_made limits _ state.retained state.sessions (idle packet) h
    ] refl
  where
    idle : (packet : Packet) → MakesNothing (record { command = commands.Packet x packet; mark = Mark.Unmarked })
    idle (packets.Publish p) content c held = (refl, omega arith)
    idle (packets.Subscribe s) content c held = (refl, omega arith)
    idle (packets.Unsubscribe u) content c held = (refl, omega arith)
    idle _ content c held = (refl, omega arith)
rooms limits state (commands.Connect x d clean) sorted h = nothing_made limits _ state.retained state.sessions (λ content c held. (refl, omega arith)) h
rooms limits state (commands.Lost x) sorted h = nothing_made limits _ state.retained state.sessions (λ content c held. (refl, omega arith)) h
rooms limits state (commands.Start ballot) sorted h = nothing_made limits _ state.retained state.sessions (λ content c held. (refl, omega arith)) h
rooms limits state (commands.Expel c) sorted h = nothing_made limits _ state.retained state.sessions (λ content c held. (refl, omega arith)) h
