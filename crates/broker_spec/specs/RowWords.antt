-- Definitions for the worked examples: clients, connections, packets, and answers.
use Rattle.std.specs.Prelude.{◌≡◌, ℕ, zero, suc, Bool, false, List, [], ◌∷◌, map, codes}
use Rattle.packet_base.specs.declared.qos.QoS.{QoS}
use Rattle.packet.specs.declared.delivery.Delivery.{Delivery}
use Rattle.packet.specs.declared.delivery.Delivery.TheVariants as deliveries
use Rattle.packet.specs.declared.connack.Connack.TheVariants as connacks
use Rattle.packet.specs.declared.suback.SubackCode.TheVariants as return_codes
use Rattle.packet.specs.declared.packet.Packet.{Packet}
use Rattle.packet.specs.declared.packet.Packet.TheVariants as packets
use Rattle.broker_spec.specs.Connection.{ConnectionName}
use Rattle.broker_spec.specs.Place.{Client, Limits}
use Rattle.broker_spec.specs.Commands.{past_of}
use Rattle.broker_spec.specs.AnswersInOrder.{answers_from}
use Rattle.broker_spec.specs.declared.command.Command.{Command}
use Rattle.broker_spec.specs.declared.command.Command.TheVariants as commands
use Rattle.broker_spec.specs.declared.command.Output.{Output}
use Rattle.broker_spec.specs.declared.command.Output.TheVariants.{Send}

-- after the earlier commands, the next ones have these answers
abbrev pub AreAnswered : Limits → List Command → List Command → List (List Output) → Type 0
AreAnswered limits earlier next answers =
    answers_from limits (past_of limits earlier) next ≡ answers

-- the first client
abbrev pub a : Client
a = codes "a"

-- the second client
abbrev pub b : Client
b = codes "b"

-- the nth connection of ballot 1
abbrev pub nth : ℕ → ConnectionName
nth number = record { ballot = 1; count = number }

-- a client opens the nth connection, with CleanSession 0
abbrev pub connect : ℕ → Client → Command
connect number client = commands.Connect (nth number) client false

-- a packet comes on the nth connection
abbrev pub gets : ℕ → Packet → Command
gets number packet = commands.Packet (nth number) packet

-- a packet is sent on the nth connection
abbrev pub sends : ℕ → Packet → Output
sends number packet = Send (nth number) packet

-- a CONNACK with code 0, with session present or not
abbrev pub connack : Bool → Packet
connack present = packets.Connack (connacks.Accepted present)

-- a PUBLISH on the topic t/1, with RETAIN and payload
abbrev pub publish : Delivery → Bool → List ℕ → Packet
publish delivery retain payload =
    packets.Publish
    (record { topic = codes "t/1"; delivery = delivery; retain = retain; payload = payload })

-- a SUBSCRIBE to the filter t/#
abbrev pub subscribe : ℕ → QoS → Packet
subscribe id qos =
    packets.Subscribe
    (record { id = id; filters = record { filter = codes "t/#"; qos = qos } ∷ [] })

-- a SUBACK that grants this QoS
abbrev pub suback : ℕ → QoS → Packet
suback id qos = packets.Suback (record { id = id; codes = return_codes.Granted qos ∷ [] })

-- an UNSUBSCRIBE of the filter t/#
abbrev pub unsubscribe : ℕ → Packet
unsubscribe id = packets.Unsubscribe (record { id = id; filters = codes "t/#" ∷ [] })

-- this many numbers, from this one on
abbrev pub numbers : ℕ → ℕ → List ℕ
numbers zero first = []
numbers (suc many) first = first ∷ numbers many (suc first)

-- b connects on connection 1 and subscribes at this QoS, and a connects on connection 2
abbrev pub subscribed_at : QoS → List Command
subscribed_at qos = connect 1 b ∷ gets 1 (subscribe 1 qos) ∷ connect 2 a ∷ []

-- a sends this many publications at QoS 1 on connection 2, with the payload o
abbrev pub publications : ℕ → List Command
publications many =
    map (λ id. gets 2 (publish (deliveries.AtLeastOnce false id) false (codes "o")))
    (numbers many 1)

-- what b is sent for `publications` on the nth connection, with these identifiers
abbrev pub delivered : ℕ → Bool → List ℕ → List Output
delivered number dup =
    map (λ id. sends number (publish (deliveries.AtLeastOnce dup id) false (codes "o")))

-- the limits of an example: this many unfinished entries of a session, this many in flight
abbrev pub small : ℕ → ℕ → Limits
small entries window =
    record {
      sessions = 4;
      subscriptions = 4;
      entries = entries;
      retained = 4;
      window = λ past. window;
    }
