-- No answer to a packet is a CONNACK: only a Connect is answered with one.
use Rattle.std.proofs.Common.{◌≡◌, ℕ, suc, Bool, true, false, ◌==◌, if◌then◌else◌, List, [], ◌∷◌, ◌++◌, length, map, take, drop, Option, Some, None, refl}
use Rattle.std.specs.Prelude.{flat_map}
use Rattle.packet.specs.declared.delivery.Delivery.{Delivery}
use Rattle.packet.specs.declared.delivery.Delivery.TheVariants as deliveries
use Rattle.packet.specs.declared.packet.Packet.{Packet}
use Rattle.packet.specs.declared.packet.Packet.TheVariants as packets
use Rattle.session_base.specs.declared.publication.Publication.{Publication}
use Rattle.session_base.specs.Publication.{is_answered}
use Rattle.lists.specs.Lists.{has_id, Each}
use Rattle.broker_spec.specs.Connection.{ConnectionName, same_connection}
use Rattle.broker_spec.specs.Place.{Client, Mark, Place, Past, Limits}
use Rattle.broker_spec.specs.Sessions.{current_connection}
use Rattle.broker_spec.specs.Owner.{clients}
use Rattle.broker_spec.specs.Entries.{Entry, copies_at}
use Rattle.broker_spec.specs.Readings.{made_at, released_below}
use Rattle.broker_spec.specs.Times.{entries_of}
use Rattle.broker_spec.specs.Sends.{publish_output, first_output, repeated_output, all_started, resent_outputs, copy_outputs, handed_to, deliveries_to}
use Rattle.broker_spec.specs.Answers.{close_outputs, acknowledged, other_answers, packet_answers}
use Rattle.broker_spec.specs.declared.command.Output.{Output}
use Rattle.broker_spec.specs.declared.command.Output.TheVariants.{Send, Close}
use Rattle.lists.proofs.OfEach.{each_append}
use Rattle.exactly_once.specs.Sends.{sends_to}
use Rattle.exactly_once.specs.Inside.ConnectionShape.{is_connack}

-- an answer that is no CONNACK
abbrev pub IsQuiet : Output → Type 0
IsQuiet (Send x packet) = is_connack packet ≡ false
IsQuiet (Close x) = Unit {0}

-- each part of a list of lists
each_flat : {X : Type 0} (f : X → List Output) (xs : List X) → ((x : X) → Each IsQuiet (f x)) → Each IsQuiet (flat_map f xs)
each_flat f [] h = tt
each_flat f (x ∷ xs) h = each_append IsQuiet (f x) (flat_map f xs) (h x) (each_flat f xs h)

-- what holds for each packet that is no CONNACK holds for each that a connection is sent of quiet
-- answers
pub quiet_sends : (P : Packet → Type 0) → ((packet : Packet) → is_connack packet ≡ false → P packet) → (x : ConnectionName) (answers : List Output) → Each IsQuiet answers → Each P (sends_to x answers)
quiet_sends P quiet x [] h = tt
quiet_sends P quiet x (Send y packet ∷ answers) h = by (same_connection x y) (quiet_sends P quiet x answers h.1)
  where
    by : (b : Bool) → Each P (sends_to x answers) → Each P (if b then packet ∷ sends_to x answers else sends_to x answers)
    by true g = (quiet packet h.0, g)
    by false g = g
quiet_sends P quiet x (Close y ∷ answers) h = quiet_sends P quiet x answers h.1

-- ---- what is sent of entries

-- for the first time
first_quiet : (x : ConnectionName) (n : ℕ) (e : Entry) → Each IsQuiet (first_output x n e)
first_quiet x n (Entry.Queued made p) = tt
first_quiet x n (Entry.Sent made p id start) = by (start == n)
  where
    by : (b : Bool) → Each IsQuiet (if b then publish_output x false id p ∷ [] else [])
    by true = (refl, tt)
    by false = tt
first_quiet x n (Entry.Released made p id start release) = tt
first_quiet x n (Entry.Done made p id start release finish) = tt

-- what starts
started_quiet : (x : ConnectionName) (n : ℕ) (es : List Entry) → Each IsQuiet (all_started x n es)
started_quiet x n es = each_flat (first_output x n) es (first_quiet x n)

-- again
again_quiet : (x : ConnectionName) (n : ℕ) (e : Entry) → Each IsQuiet (repeated_output x n e)
again_quiet x n (Entry.Queued made p) = tt
again_quiet x n (Entry.Sent made p id start) = by (start == n)
  where
    by : (b : Bool) → Each IsQuiet (if b then [] else publish_output x true id p ∷ [])
    by true = tt
    by false = (refl, tt)
again_quiet x n (Entry.Released made p id start release) = tt
again_quiet x n (Entry.Done made p id start release finish) = tt

-- each PUBREL
pubrels_quiet : (x : ConnectionName) (ids : List ℕ) → Each IsQuiet (map (λ id. Send x (packets.Pubrel id)) ids)
pubrels_quiet x [] = tt
pubrels_quiet x (id ∷ ids) = (refl, pubrels_quiet x ids)

-- to a client that comes back
pub resent_quiet : (x : ConnectionName) (n : ℕ) (es : List Entry) → Each IsQuiet (resent_outputs x n es)
resent_quiet x n es =
    each_append IsQuiet (map (λ id. Send x (packets.Pubrel id)) (released_below n es) ++ flat_map (repeated_output x n) es) (all_started x n es)
    (each_append IsQuiet (map (λ id. Send x (packets.Pubrel id)) (released_below n es)) (flat_map (repeated_output x n) es)
    (pubrels_quiet x (released_below n es)) (each_flat (repeated_output x n) es (again_quiet x n))) (started_quiet x n es)

-- copies that are handed out
handed_by : (x : ConnectionName) (n : ℕ) (p : Publication) (copies : List Publication) (es : List Entry) → ((rest : List Entry) → Each IsQuiet (copy_outputs x n copies rest)) → (b : Bool)
    → Each IsQuiet (if b then all_started x n (take 1 es) ++ copy_outputs x n copies (drop 1 es) else publish_output x false 0 p ∷ copy_outputs x n copies es)
handed_by x n p copies es ih true = each_append IsQuiet (all_started x n (take 1 es)) (copy_outputs x n copies (drop 1 es)) (started_quiet x n (take 1 es)) (ih (drop 1 es))
handed_by x n p copies es ih false = (refl, ih es)

-- all of them
handed_quiet : (x : ConnectionName) (n : ℕ) (copies : List Publication) (es : List Entry) → Each IsQuiet (copy_outputs x n copies es)
handed_quiet x n [] es = tt
handed_quiet x n (p ∷ copies) es = handed_by x n p copies es (λ rest. handed_quiet x n copies rest) (is_answered p.qos)

-- to a client
deliveries_quiet : (limits : Limits) (place : Place) (past : Past) (c : Client) → Each IsQuiet (deliveries_to limits place past c)
deliveries_quiet limits place past c = by (current_connection past c)
  where
    by : (o : Option ConnectionName) → Each IsQuiet (handed_to o (length past) (copies_at place past c) (made_at (length past) (entries_of limits (place ∷ past) c)))
    by None = tt
    by (Some x) = handed_quiet x (length past) (copies_at place past c) (made_at (length past) (entries_of limits (place ∷ past) c))

-- ---- the answers

-- the connection that a client leaves
pub closed_quiet : (o : Option ConnectionName) → Each IsQuiet (close_outputs o)
closed_quiet None = tt
closed_quiet (Some x) = (tt, tt)

-- an acknowledgement
acknowledged_quiet : (x : ConnectionName) (d : Delivery) → Each IsQuiet (acknowledged x d)
acknowledged_quiet x deliveries.AtMostOnce = tt
acknowledged_quiet x (deliveries.AtLeastOnce dup id) = (refl, tt)
acknowledged_quiet x (deliveries.ExactlyOnce dup id) = (refl, tt)

-- a packet that ends nothing
handled_quiet : (packet : Packet) (limits : Limits) (place : Place) (past : Past) (x : ConnectionName) (c : Client) → Each IsQuiet (other_answers limits place past x c packet)
handled_quiet (packets.Puback i) limits place past x c = started_quiet x (length past) (entries_of limits (place ∷ past) c)
handled_quiet (packets.Pubcomp i) limits place past x c = started_quiet x (length past) (entries_of limits (place ∷ past) c)
handled_quiet (packets.Pubrec i) limits place past x c = by (has_id i (released_below (suc (length past)) (entries_of limits (place ∷ past) c)))
  where
    by : (b : Bool) → Each IsQuiet (if b then Send x (packets.Pubrel i) ∷ [] else [])
    by true = (refl, tt)
    by false = tt
handled_quiet (packets.Pubrel i) limits place past x c = (refl, tt)
handled_quiet (packets.Unsubscribe u) limits place past x c = (refl, tt)
handled_quiet packets.Pingreq limits place past x c = (refl, tt)
handled_quiet _ limits place past x c = tt

-- a packet
pub packet_quiet : (packet : Packet) (mark : Mark) (limits : Limits) (place : Place) (past : Past) (x : ConnectionName) → Each IsQuiet (packet_answers limits place past x packet mark)
packet_quiet (packets.Publish p) (Mark.Taken c) limits place past x =
    each_append IsQuiet (acknowledged x p.delivery) (flat_map (deliveries_to limits place past) (clients past)) (acknowledged_quiet x p.delivery)
    (each_flat (deliveries_to limits place past) (clients past) (deliveries_quiet limits place past))
packet_quiet (packets.Publish p) (Mark.Repeat c) limits place past x = acknowledged_quiet x p.delivery
packet_quiet (packets.Subscribe s) (Mark.Granted c which) limits place past x = (refl, deliveries_quiet limits place past c)
packet_quiet packet (Mark.Handled c) limits place past x = handled_quiet packet limits place past x c
packet_quiet packet (Mark.Leaves c) limits place past x = (tt, tt)
packet_quiet packet (Mark.Refused c) limits place past x = (tt, tt)
packet_quiet packet mark limits place past x = tt
