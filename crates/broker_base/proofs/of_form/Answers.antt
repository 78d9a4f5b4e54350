-- Everything that the broker answers can be spelled.
use Rattle.std.proofs.Common.{◌≡◌, ℕ, ◌+◌, ◌≤◌, ◌<◌, ◌^◌, suc, Bool, true, false, ◌||◌, nat_lt, ◌-◌, if◌then◌else◌, Option, Some, None, List, [], ◌∷◌, ◌++◌, length, map, refl, sym, ap, subst, arith}
use Rattle.std.specs.Prelude.{flat_map}
use Rattle.std.specs.List.{AllByRecursion}
use Rattle.std.specs.declared.cmp.Ordering.{Ordering}
use Rattle.std.specs.declared.cmp.Ordering.TheVariants.{Less, Equal, Greater}
use Rattle.std.specs.Ordering.{is_eq}
use Rattle.std.proofs.lemmas.List.{length-append}
use Rattle.packet_base.specs.Spelling.{number, text}
use Rattle.packet.specs.Spelling.{IsPacket}
use Rattle.packet.specs.Delivery.{FitsDelivery}
use Rattle.packet_base.specs.QoS.{qos_number}
use Rattle.packet.specs.Subscribe.{subscription}
use Rattle.packet.specs.Suback.{granted}
use Rattle.packet.specs.declared.delivery.Delivery.{Delivery}
use Rattle.packet.specs.declared.delivery.Delivery.TheVariants as deliveries
use Rattle.packet.specs.declared.packet.Packet.{Packet}
use Rattle.packet.specs.declared.packet.Packet.TheVariants as packets
use Rattle.packet.specs.declared.subscribe.Subscription.{Subscription}
use Rattle.packet.specs.declared.subscribe.Subscribe.{Subscribe}
use Rattle.packet.specs.declared.suback.SubackCode.{SubackCode}
use Rattle.retained.specs.Retained.{RetainedTopics}
use Rattle.session_base.specs.Queue.{room, on_puback, on_pubrec, on_pubcomp}
use Rattle.session_base.specs.Subscriptions.{GrantedSubscription, with_subscription}
use Rattle.broker_spec.specs.Connection.{ConnectionName}
use Rattle.broker_spec.specs.Place.{Client, by_bytes, Place, Limits}
use Rattle.broker_spec.specs.Subscriptions.{as_granted}
use Rattle.broker_spec.specs.Marks.{is_one_too_many, entries_for, grants}
use Rattle.broker_spec.specs.Answers.{acknowledged, codes_of}
use Rattle.broker_spec.specs.Logged.{IsBrokerCommand}
use Rattle.broker_spec.proofs.ClientsInOrder.{equal_is}
use Rattle.broker_spec.specs.declared.command.Output.{Output}
use Rattle.broker_spec.specs.declared.command.Output.TheVariants.{Send}
use Rattle.broker_base.specs.ClientSession.{ClientSession}
use Rattle.broker_base.specs.SessionStep.{copies_with}
use Rattle.broker_base.specs.State.{Sessions, session_in}
use Rattle.broker_base.specs.StepAnswers.{sent_on, copies_answered, copies_to, while_connected, handled_of, handled_in}
use Rattle.broker_base.specs.form.InRange.{IsRetained, IsSession}
use Rattle.broker_base.specs.form.RangeTheorems.{CanBeSpelled}
use Rattle.broker_base.proofs.of_form.Queues.{all_append, puback_in_range, pubcomp_in_range}
use Rattle.broker_base.proofs.of_form.Filters.{copies_can_be_sent}
use Rattle.broker_base.proofs.of_form.Sessions.{HasRoom, IfSession}
use Rattle.broker_base.proofs.of_form.Rooms.{AllInRange, AllHaveRoom}
use Rattle.broker_base.proofs.of_form.Sends.{AllPackets, fills_are_packets, pubrels_are_packets, copies_are_packets}

abbrev pub AllSpelled : List Output → Type 0
AllSpelled = AllByRecursion CanBeSpelled

pub sent : (x : ConnectionName) (ps : List Packet) → AllPackets ps → AllSpelled (map (Send x) ps)
sent x [] h = tt
sent x (p ∷ ps) h = (h.0, sent x ps h.1)

sent_if : (connection : Option ConnectionName) (ps : List Packet) → AllPackets ps → AllSpelled (sent_on connection ps)
sent_if (Some x) ps h = sent x ps h
sent_if None ps h = tt

pub acknowledged_spelled : (x : ConnectionName) (delivery : Delivery) → FitsDelivery delivery → AllSpelled (acknowledged x delivery)
acknowledged_spelled x deliveries.AtMostOnce h = tt
acknowledged_spelled x (deliveries.AtLeastOnce dup id) h = ((h, tt, omega arith), tt)
acknowledged_spelled x (deliveries.ExactlyOnce dup id) h = ((h, tt, omega arith), tt)

-- ---- copies

pub copies_spelled : (w : ℕ) (limits : Limits) (place : Place) (content : RetainedTopics) (c : Client) (kept : ClientSession) → limits.entries < 2 ^ 16 →
    IsBrokerCommand place.command → AllByRecursion IsRetained content → HasRoom limits place content c kept → IsSession limits c kept →
    AllSpelled (copies_answered w place content (c, kept))
copies_spelled w limits place content c kept m k r room h =
    let few = room.entries in
    sent_if kept.connection _
    (copies_are_packets w (length kept.state.queue.in_flight + length kept.state.queue.waiting)
    (copies_with place.command place.mark content c kept.state.subscriptions) kept.state.queue (omega (arith, few, m))
    (copies_can_be_sent place.command place.mark content c kept.state.subscriptions k r)
    (record { in_flight = h.queue.in_flight; waiting = h.queue.waiting; few = omega arith }))

pub all_copies_spelled : (w : ℕ) (limits : Limits) (place : Place) (content : RetainedTopics) (rows : Sessions) → limits.entries < 2 ^ 16 →
    IsBrokerCommand place.command → AllByRecursion IsRetained content → AllHaveRoom limits place content rows → AllInRange limits rows →
    AllSpelled (flat_map (copies_answered w place content) rows)
all_copies_spelled w limits place content [] m k r room h = tt
all_copies_spelled w limits place content (row ∷ rows) m k r room h =
    all_append CanBeSpelled (copies_answered w place content row) (flat_map (copies_answered w place content) rows)
    (copies_spelled w limits place content row.0 row.1 m k r room.0 h.0) (all_copies_spelled w limits place content rows m k r room.1 h.1)

-- a client's session, if it has one, is in its range, and there is room in it
abbrev pub IfRoom : Limits → Place → RetainedTopics → Client → Option ClientSession → Type 0
IfRoom limits place content c (Some kept) = HasRoom limits place content c kept × IsSession limits c kept
IfRoom limits place content c None = Unit {0}

pub found : (limits : Limits) (place : Place) (content : RetainedTopics) (c : Client) (rows : Sessions) → AllHaveRoom limits place content rows → AllInRange limits rows →
    IfRoom limits place content c (session_in c rows)
found limits place content c [] room h = tt
found limits place content c (row ∷ rows) room h = by (by_bytes c row.0) refl (found limits place content c rows room.1 h.1)
  where
    by : (o : Ordering) → by_bytes c row.0 ≡ o → IfRoom limits place content c (session_in c rows) →
        IfRoom limits place content c (if is_eq o then Some row.1 else session_in c rows)
    by Less e k = k
    by Equal e k = subst (λ (d : Client). HasRoom limits place content d row.1 × IsSession limits d row.1) (sym (equal_is c row.0 e)) (room.0, h.0)
    by Greater e k = k

pub copies_to_spelled : (w : ℕ) (limits : Limits) (place : Place) (content : RetainedTopics) (c : Client) (o : Option ClientSession) → limits.entries < 2 ^ 16 →
    IsBrokerCommand place.command → AllByRecursion IsRetained content → IfRoom limits place content c o → AllSpelled (copies_to w place content c o)
copies_to_spelled w limits place content c (Some kept) m k r h = copies_spelled w limits place content c kept m k r h.0 h.1
copies_to_spelled w limits place content c None m k r h = tt

-- ---- SUBACK

pub codes_length : (limits : Limits) (content : RetainedTopics) (held : List GrantedSubscription) (space : ℕ) (filters : List Subscription) →
    length (codes_of filters (grants limits content held space filters)) ≡ length filters
codes_length limits content held space [] = refl
codes_length limits content held space (new ∷ more) =
    elim (is_one_too_many limits held new || nat_lt space (entries_for content new)) as (λ (b : Bool).
    length (codes_of (new ∷ more) (if b then false ∷ grants limits content held space more
    else true ∷ grants limits content (with_subscription (as_granted new) held) (space - entries_for content new) more)) ≡ suc (length more)) [
      | true ↦ ap suc (codes_length limits content held space more)
      | false ↦ ap suc (codes_length limits content (with_subscription (as_granted new) held) (space - entries_for content new) more)
    ]

one_byte_each : (codes : List SubackCode) → length (flat_map granted codes) ≡ length codes
one_byte_each [] = refl
one_byte_each (code ∷ codes) = ap suc (one_byte_each codes)

bytes_of_filters : (filters : List Subscription) → length filters ≤ length (flat_map subscription filters)
bytes_of_filters [] = omega arith
bytes_of_filters (s ∷ filters) =
    let more = bytes_of_filters filters in
    let both = length-append (subscription s) (flat_map subscription filters) in
    let here = length-append (text s.filter) (qos_number s.qos ∷ []) in omega (arith, more, both, here)

pub suback_spelled : (s : Subscribe) (codes : List SubackCode) → length codes ≡ length s.filters → IsPacket (packets.Subscribe s) →
    IsPacket (packets.Suback (record { id = s.id; codes = codes }))
suback_spelled s codes e h =
    let listed = h.1 in let size = h.2 in
    let asked : length (number s.id ++ flat_map subscription s.filters) ≡ 2 + length (flat_map subscription s.filters) = length-append (number s.id) (flat_map subscription s.filters) in
    let answered : length (number s.id ++ flat_map granted codes) ≡ 2 + length (flat_map granted codes) = length-append (number s.id) (flat_map granted codes) in
    let one = one_byte_each codes in let many = bytes_of_filters s.filters in
    (h.0.0, omega (arith, e, listed), omega (arith, size, asked, answered, one, many, e))

-- ---- what a client's packet is answered

connected_only : (connection : Option ConnectionName) (ps : List Packet) → AllPackets ps → AllPackets (while_connected connection ps)
connected_only (Some x) ps h = h
connected_only None ps h = tt

handled_spelled : (w : ℕ) (limits : Limits) (c : Client) (packet : Packet) (o : Option ClientSession) → limits.entries < 2 ^ 16 → IsPacket packet →
    IfSession limits c o → AllPackets (handled_of w packet o)
handled_spelled w limits c packet None m k h = tt
handled_spelled w limits c (packets.Puback id) (Some kept) m k h =
    let q = puback_in_range limits.entries id kept.state.queue h.queue in
    connected_only kept.connection _ (fills_are_packets w limits.entries (on_puback id kept.state.queue.in_flight) kept.state.queue.waiting m q.in_flight q.waiting q.few)
handled_spelled w limits c (packets.Pubcomp id) (Some kept) m k h =
    let q = pubcomp_in_range limits.entries id kept.state.queue h.queue in
    connected_only kept.connection _ (fills_are_packets w limits.entries (on_pubcomp id kept.state.queue.in_flight) kept.state.queue.waiting m q.in_flight q.waiting q.few)
handled_spelled w limits c (packets.Pubrec id) (Some kept) m k h = pubrels_are_packets id (on_pubrec id kept.state.queue.in_flight) k.0
handled_spelled w limits c _ (Some kept) m k h = tt

pub handled_in_spelled : (w : ℕ) (limits : Limits) (x : ConnectionName) (c : Client) (o : Option ClientSession) (packet : Packet) → limits.entries < 2 ^ 16 → IsPacket packet →
    IfSession limits c o → AllSpelled (handled_in w x o packet)
handled_in_spelled w limits x c o (packets.Unsubscribe u) m k h = ((k.0.0, tt, omega arith), tt)
handled_in_spelled w limits x c o (packets.Pubrel id) m k h = ((k.0, tt, omega arith), tt)
handled_in_spelled w limits x c o packets.Pingreq m k h = ((tt, tt, omega arith), tt)
handled_in_spelled w limits x c o packet m k h = sent x (handled_of w packet o) (handled_spelled w limits c packet o m k h)

pub in_range : (limits : Limits) (place : Place) (content : RetainedTopics) (c : Client) (o : Option ClientSession) → IfRoom limits place content c o → IfSession limits c o
in_range limits place content c (Some kept) h = h.1
in_range limits place content c None h = tt
