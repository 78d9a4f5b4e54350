-- Theorems about connections, received identifiers and subscriptions.
use Rattle.std.specs.Prelude.{◌≡◌, ◌↔◌, ℕ, Bool, true, false, ◌&&◌, ◌==◌, if◌then◌else◌, List, []}
use Rattle.std.specs.Prelude.{◌∷◌, ◌++◌, bytes_eq, Option, Some, None, option_map}
use Rattle.std.specs.List.{AllByRecursion, list_any}
use Rattle.packet_base.specs.declared.qos.QoS.{QoS}
use Rattle.packet.specs.declared.delivery.Delivery.{Delivery}
use Rattle.packet.specs.declared.delivery.Delivery.TheVariants as deliveries
use Rattle.packet.specs.declared.subscribe.Subscription.{Subscription}
use Rattle.packet.specs.declared.packet.Packet.TheVariants as packets
use Rattle.broker_spec.specs.Connection.{ConnectionName}
use Rattle.broker_spec.specs.Place.{Client, same_client, Mark, Place, Past}
use Rattle.broker_spec.specs.Sessions.{accepts, ends_any, current_connection, clean_session_of}
use Rattle.broker_spec.specs.Sessions.{begins, in_session}
use Rattle.broker_spec.specs.Subscriptions.{granted_of, subscriptions_of, qos_asked}
use Rattle.lists.specs.Lists.{has_id}
use Rattle.broker_spec.specs.Received.{received_of}
use Rattle.broker_spec.specs.declared.command.Command.{Command}
use Rattle.broker_spec.specs.declared.command.Command.TheVariants as commands

-- ---- connections

-- the place is no accepted Connect of the client, and does not end its connection
abbrev pub KeepsConnection : Client → ConnectionName → Place → Type 0
KeepsConnection client connection place =
    (accepts place.command place.mark client ≡ None)
    × (ends_any place client (Some connection) ≡ false)

-- the client's last accepted Connect opened this connection, and no later place ended it
pub record WasOpened (past : Past) (client : Client) (connection : ConnectionName) : Type 0 where
  pub later : Past
  pub place : Place
  pub earlier : Past
  pub clean : Bool
  pub is : past ≡ later ++ place ∷ earlier
  pub opened : accepts place.command place.mark client ≡ Some (connection, clean)
  pub kept : AllByRecursion (KeepsConnection client connection) later

-- a client's current connection is that of its last accepted Connect, unless it has ended since
-- (MQTT 3.1.4)
abbrev pub CurrentIsLastAccepted : Type 0
CurrentIsLastAccepted =
    (past : Past) (client : Client) (connection : ConnectionName)
    → (current_connection past client ≡ Some connection) ↔ WasOpened past client connection

-- ---- received identifiers

-- whether a delivery is at QoS 2 with this identifier
abbrev pub brings : ℕ → Delivery → Bool
brings id (deliveries.ExactlyOnce dup other) = id == other
brings id _ = false

-- the effect of a command on an identifier: a taken PUBLISH at QoS 2 of the client (true), a PUBREL
-- of it (false), or none
abbrev pub says_of : Command → Mark → Client → ℕ → Option Bool
says_of (commands.Packet connection (packets.Publish publish)) (Mark.Taken sender) client id =
    if same_client sender client && brings id publish.delivery then Some true else None
says_of (commands.Packet connection (packets.Pubrel other)) (Mark.Handled sender) client id =
    if same_client sender client && (id == other) then Some false else None
says_of _ _ client id = None

-- the newer value, if there is one
abbrev pub newer_of_two : {A : Type 0} → Option A → A → A
newer_of_two (Some word) older = word
newer_of_two None older = older

-- whether the last of the session's taken PUBLISHes at QoS 2 with this identifier, and of its
-- PUBRELs, is a PUBLISH
unfoldable pub ends_in_publish : Past → Client → ℕ → Bool
ends_in_publish [] client id = false
ends_in_publish (place ∷ past) client id =
    in_session (clean_session_of (place ∷ past) client) (begins place past client) false
    (newer_of_two (says_of place.command place.mark client id) (ends_in_publish past client id))

-- a PUBLISH at QoS 2 is a repeat exactly if, of its session's taken PUBLISHes with its identifier
-- and their PUBRELs, the last is a PUBLISH (MQTT 4.3.3)
abbrev pub RepeatIsUnreleased : Type 0
RepeatIsUnreleased =
    (past : Past) (client : Client) (id : ℕ)
    → has_id id (received_of past client) ≡ ends_in_publish past client id

-- ---- subscriptions

-- the first of two options, or else the second
abbrev pub either : {A : Type 0} → Option A → Option A → Option A
either (Some word) other = Some word
either None other = other

-- the QoS of the last occurrence of a filter in a SUBSCRIBE
abbrev pub last_qos : List ℕ → List Subscription → Option QoS
last_qos filter (subscription ∷ more) = either (last_qos filter more)
    (if bytes_eq filter subscription.filter then Some subscription.qos else None)
last_qos filter [] = None

-- the effect of a command on a filter of the client: granted at a QoS, removed, or none
abbrev pub word_on : Command → Mark → Client → List ℕ → Option (Option QoS)
word_on (commands.Packet connection (packets.Subscribe subscribe)) (Mark.Granted sender which)
    client filter =
    if same_client sender client
    then option_map (λ qos. Some qos) (last_qos filter (granted_of subscribe.filters which))
    else None
word_on (commands.Packet connection (packets.Unsubscribe unsubscribe)) (Mark.Handled sender)
    client filter =
    if same_client sender client && list_any (bytes_eq filter) unsubscribe.filters
    then Some None else None
word_on _ _ client filter = None

-- the QoS of a filter's last grant in the session; none if it was removed since
unfoldable pub last_granting : Past → Client → List ℕ → Option QoS
last_granting [] client filter = None
last_granting (place ∷ past) client filter =
    in_session (clean_session_of (place ∷ past) client) (begins place past client) None
    (newer_of_two (word_on place.command place.mark client filter)
    (last_granting past client filter))

-- a session's filters have the QoS of their last grant (MQTT 3.8.4, 3.10.4)
abbrev pub FilterHasLastGranting : Type 0
FilterHasLastGranting =
    (past : Past) (client : Client) (filter : List ℕ)
    → qos_asked filter (subscriptions_of past client) ≡ last_granting past client filter
