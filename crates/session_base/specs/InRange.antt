-- The range of a session: no more entries and filters than the limits, and each number, text and
-- publication as the standard requires (MQTT 1.5.3, 2.3.1, 3.3, 4.7).
use Rattle.std.specs.Prelude.{◌≡◌, ℕ, ◌+◌, ◌≤◌, IsTrue, false, length}
use Rattle.std.specs.List.{AllByRecursion}
use Rattle.topics.specs.Text.{is_filter}
use Rattle.packet_base.specs.Spelling.{IsId}
use Rattle.packet.specs.Spelling.{IsPacket}
use Rattle.packet.specs.declared.packet.Packet.TheVariants as packets
use Rattle.packet_base.specs.declared.qos.QoS.TheVariants as qos_levels
use Rattle.session_base.specs.declared.publication.Publication.{Publication}
use Rattle.session_base.specs.declared.awaits.Awaits.TheVariants as waits_for
use Rattle.session_base.specs.Publication.{publish_for, is_answered}
use Rattle.session_base.specs.Subscriptions.{GrantedSubscription}
use Rattle.session_base.specs.Queue.{Flight, Queue}

-- a publication whose PUBLISH can be encoded: it has a Topic Name, and its packet is within the
-- limit
abbrev pub CanBeSent : Publication → Type 0
CanBeSent publication = IsPacket (packets.Publish (publish_for false 1 publication))

-- a waiting publication, of QoS 1 or 2
abbrev pub MayWait : Publication → Type 0
MayWait publication = IsTrue (is_answered publication.qos) × CanBeSent publication

-- an entry in flight: one of QoS 1 waits for PUBACK, one of QoS 2 for PUBREC (MQTT 4.3)
abbrev pub IsInFlight : Flight → Type 0
IsInFlight (id, waits_for.Puback publication) =
    IsId id × (publication.qos ≡ qos_levels.AtLeastOnce) × CanBeSent publication
IsInFlight (id, waits_for.Pubrec publication) =
    IsId id × (publication.qos ≡ qos_levels.ExactlyOnce) × CanBeSent publication
IsInFlight (id, waits_for.Pubcomp) = IsId id

-- a subscription with a valid filter
abbrev pub IsGrantedSubscription : GrantedSubscription → Type 0
IsGrantedSubscription granted = IsTrue (is_filter granted.0)

-- a queue of no more entries than the limit, each in its range
pub record IsQueue (limit : ℕ) (queue : Queue) : Type 0 where
  pub in_flight : AllByRecursion IsInFlight queue.in_flight
  pub waiting : AllByRecursion MayWait queue.waiting
  pub few : length queue.in_flight + length queue.waiting ≤ limit
