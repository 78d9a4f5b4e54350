-- Where the answers of a place go, and which of them may be a CONNACK.
use Rattle.std.proofs.Common.{◌≡◌, ◌⊎◌, ℕ, suc, Bool, true, false, ◌==◌, if◌then◌else◌, List, [], ◌∷◌, ◌++◌, length, map, take, drop, Option, Some, None, refl}
use Rattle.std.specs.Prelude.{flat_map}
use Rattle.packet.specs.declared.delivery.Delivery.{Delivery}
use Rattle.packet.specs.declared.delivery.Delivery.TheVariants as deliveries
use Rattle.packet.specs.declared.packet.Packet.{Packet}
use Rattle.packet.specs.declared.packet.Packet.TheVariants as packets
use Rattle.session_base.specs.declared.publication.Publication.{Publication}
use Rattle.session_base.specs.Publication.{publish_for, is_answered}
use Rattle.lists.specs.Lists.{has_id, Each}
use Rattle.broker_spec.specs.Connection.{ConnectionName, same_connection}
use Rattle.broker_spec.specs.Place.{Client, Place, Past, Limits}
use Rattle.broker_spec.specs.Sessions.{current_connection}
use Rattle.broker_spec.specs.Entries.{Entry, copies_at}
use Rattle.broker_spec.specs.Readings.{made_at, released_below}
use Rattle.broker_spec.specs.Times.{entries_of}
use Rattle.broker_spec.specs.Sends.{publish_output, first_output, all_started, repeated_output, resent_outputs, copy_outputs, handed_to, deliveries_to}
use Rattle.broker_spec.specs.Answers.{acknowledged, other_answers}
use Rattle.broker_spec.specs.declared.command.Command.{Command}
use Rattle.broker_spec.specs.declared.command.Command.TheVariants as commands
use Rattle.broker_spec.specs.declared.command.Output.{Output}
use Rattle.broker_spec.specs.declared.command.Output.TheVariants.{Send, Close}
use Rattle.lists.proofs.OfEach.{each_append}
use Rattle.exactly_once.specs.StoryCommands.{is_packet_of}
use Rattle.exactly_once.specs.Inside.ConnectionShape.{is_connack}

-- a Connect on this connection
abbrev pub is_connect_of : Command → ConnectionName → Bool
is_connect_of (commands.Connect x c clean) y = same_connection x y
is_connect_of _ y = false

-- an answer goes to the connection of the command, or to a current one; a CONNACK answers a Connect
abbrev pub GoesRight : Command → Past → Output → Type 0
GoesRight command past (Send z packet) =
    ((is_packet_of command z ≡ true) ⊎ ((d : Client) × (current_connection past d ≡ Some z)))
    × ((is_connack packet ≡ false) ⊎ (is_connect_of command z ≡ true))
GoesRight command past (Close z) = Unit {0}

-- anything else may be sent there
abbrev pub MayBeSent : (Output → Type 0) → ConnectionName → Type 0
MayBeSent P x = (packet : Packet) → is_connack packet ≡ false → P (Send x packet)

-- ---- what is sent of entries

-- of each of these
pub each_flat : {A : Type 0} (P : Output → Type 0) (f : A → List Output) → ((x : A) → Each P (f x)) → (xs : List A) → Each P (flat_map f xs)
each_flat P f h [] = tt
each_flat P f h (x ∷ xs) = each_append P (f x) (flat_map f xs) (h x) (each_flat P f h xs)

-- one entry that starts
first_right : (P : Output → Type 0) (x : ConnectionName) (n : ℕ) → MayBeSent P x → (e : Entry) → Each P (first_output x n e)
first_right P x n may (Entry.Sent made p id start) = by (start == n)
  where
    by : (b : Bool) → Each P (if b then publish_output x false id p ∷ [] else [])
    by true = (may (packets.Publish (publish_for false id p)) refl, tt)
    by false = tt
first_right P x n may (Entry.Queued made p) = tt
first_right P x n may (Entry.Released made p id start release) = tt
first_right P x n may (Entry.Done made p id start release finish) = tt

-- all that start
pub started_right : (P : Output → Type 0) (x : ConnectionName) (n : ℕ) → MayBeSent P x → (es : List Entry) → Each P (all_started x n es)
started_right P x n may es = each_flat P (first_output x n) (first_right P x n may) es

-- one that is sent again
again_right : (P : Output → Type 0) (x : ConnectionName) (n : ℕ) → MayBeSent P x → (e : Entry) → Each P (repeated_output x n e)
again_right P x n may (Entry.Sent made p id start) = by (start == n)
  where
    by : (b : Bool) → Each P (if b then [] else publish_output x true id p ∷ [])
    by true = tt
    by false = (may (packets.Publish (publish_for true id p)) refl, tt)
again_right P x n may (Entry.Queued made p) = tt
again_right P x n may (Entry.Released made p id start release) = tt
again_right P x n may (Entry.Done made p id start release finish) = tt

-- PUBRELs
releases_right : (P : Output → Type 0) (x : ConnectionName) → MayBeSent P x → (ids : List ℕ) → Each P (map (λ id. Send x (packets.Pubrel id)) ids)
releases_right P x may [] = tt
releases_right P x may (id ∷ ids) = (may (packets.Pubrel id) refl, releases_right P x may ids)

-- what is sent to a client that comes back
pub resent_right : (P : Output → Type 0) (x : ConnectionName) (n : ℕ) → MayBeSent P x → (es : List Entry) → Each P (resent_outputs x n es)
resent_right P x n may es =
    each_append P (map (λ id. Send x (packets.Pubrel id)) (released_below n es) ++ flat_map (repeated_output x n) es) (all_started x n es)
    (each_append P (map (λ id. Send x (packets.Pubrel id)) (released_below n es)) (flat_map (repeated_output x n) es) (releases_right P x may (released_below n es))
    (each_flat P (repeated_output x n) (again_right P x n may) es)) (started_right P x n may es)

-- copies
handed_right : (P : Output → Type 0) (x : ConnectionName) (n : ℕ) → MayBeSent P x → (copies : List Publication) (es : List Entry) → Each P (copy_outputs x n copies es)
handed_right P x n may [] es = tt
handed_right P x n may (p ∷ copies) es = by (is_answered p.qos) (λ l. handed_right P x n may copies l)
  where
    by : (b : Bool) → ((l : List Entry) → Each P (copy_outputs x n copies l)) → Each P (if b then all_started x n (take 1 es) ++ copy_outputs x n copies (drop 1 es) else publish_output x false 0 p ∷ copy_outputs x n copies es)
    by true more = each_append P (all_started x n (take 1 es)) (copy_outputs x n copies (drop 1 es)) (started_right P x n may (take 1 es)) (more (drop 1 es))
    by false more = (may (packets.Publish (publish_for false 0 p)) refl, more es)

-- a client's copies go to its connection
pub deliveries_right : (P : Output → Type 0) (limits : Limits) (place : Place) (past : Past) → ((d : Client) (x : ConnectionName) → current_connection past d ≡ Some x → MayBeSent P x) → (d : Client)
    → Each P (deliveries_to limits place past d)
deliveries_right P limits place past may d = by (current_connection past d) refl
  where
    by : (o : Option ConnectionName) → current_connection past d ≡ o → Each P (handed_to o (length past) (copies_at place past d) (made_at (length past) (entries_of limits (place ∷ past) d)))
    by None e = tt
    by (Some x) e = handed_right P x (length past) (may d x e) (copies_at place past d) (made_at (length past) (entries_of limits (place ∷ past) d))

-- ---- the answers

-- of a PUBLISH
pub acknowledged_right : (P : Output → Type 0) (x : ConnectionName) → MayBeSent P x → (d : Delivery) → Each P (acknowledged x d)
acknowledged_right P x may deliveries.AtMostOnce = tt
acknowledged_right P x may (deliveries.AtLeastOnce dup id) = (may (packets.Puback id) refl, tt)
acknowledged_right P x may (deliveries.ExactlyOnce dup id) = (may (packets.Pubrec id) refl, tt)

-- of a packet that ends nothing
pub handled_right : (P : Output → Type 0) (limits : Limits) (place : Place) (past : Past) (x : ConnectionName) (c : Client) → MayBeSent P x → (packet : Packet) → Each P (other_answers limits place past x c packet)
handled_right P limits place past x c may (packets.Unsubscribe u) = (may (packets.Unsuback u.id) refl, tt)
handled_right P limits place past x c may (packets.Pubrel id) = (may (packets.Pubcomp id) refl, tt)
handled_right P limits place past x c may packets.Pingreq = (may packets.Pingresp refl, tt)
handled_right P limits place past x c may (packets.Pubrec id) = by (has_id id (released_below (suc (length past)) (entries_of limits (place ∷ past) c)))
  where
    by : (b : Bool) → Each P (if b then Send x (packets.Pubrel id) ∷ [] else [])
    by true = (may (packets.Pubrel id) refl, tt)
    by false = tt
handled_right P limits place past x c may (packets.Puback id) = started_right P x (length past) may (entries_of limits (place ∷ past) c)
handled_right P limits place past x c may (packets.Pubcomp id) = started_right P x (length past) may (entries_of limits (place ∷ past) c)
handled_right P limits place past x c may _ = tt
