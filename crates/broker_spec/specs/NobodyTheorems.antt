-- A packet on a connection that is no client's current one changes nothing and has no answer.
use Rattle.std.specs.Prelude.{◌≡◌, ℕ, false, [], ◌∷◌, None}
use Rattle.packet.specs.declared.packet.Packet.{Packet}
use Rattle.broker_spec.specs.Connection.{ConnectionName}
use Rattle.broker_spec.specs.Place.{Client, Place, Past, Limits}
use Rattle.broker_spec.specs.Sessions.{current_connection, clean_session_of}
use Rattle.broker_spec.specs.Owner.{owner_of}
use Rattle.broker_spec.specs.Subscriptions.{subscriptions_of}
use Rattle.broker_spec.specs.Received.{received_of}
use Rattle.broker_spec.specs.Retained.{retained_publications}
use Rattle.broker_spec.specs.Times.{entries_of, window_at}
use Rattle.broker_spec.specs.Commands.{place_of, is_start, usual_limits, limits_from}
use Rattle.broker_spec.specs.AnswersInOrder.{answers_of}
use Rattle.broker_spec.specs.declared.command.Command.TheVariants as commands

-- the window changes only at a new ballot
abbrev pub IsSteady : Limits → Type 0
IsSteady limits =
    (place : Place) (past : Past) → is_start place.command ≡ false
    → window_at limits (place ∷ past) ≡ window_at limits past

-- a place changes nothing that is kept for a client
pub record LeavesAsIs (limits : Limits) (place : Place) (past : Past)
    (client : Client) : Type 0 where
  pub connection : current_connection (place ∷ past) client ≡ current_connection past client
  pub session : clean_session_of (place ∷ past) client ≡ clean_session_of past client
  pub subscriptions : subscriptions_of (place ∷ past) client ≡ subscriptions_of past client
  pub received : received_of (place ∷ past) client ≡ received_of past client
  pub entries : entries_of limits (place ∷ past) client ≡ entries_of limits past client

-- the packet's place
abbrev pub packet_place : Limits → Past → ConnectionName → Packet → Place
packet_place limits past connection packet =
    place_of limits past (commands.Packet connection packet)

-- a packet on a connection that is no client's current one changes nothing and has no answer (MQTT
-- 3.1.4)
abbrev pub PacketOfNobodyIsNothing : Type 0
PacketOfNobodyIsNothing =
    (limits : Limits) (past : Past) (connection : ConnectionName) (packet : Packet)
    → IsSteady limits → owner_of past connection ≡ None
    → ((client : Client)
    → LeavesAsIs limits (packet_place limits past connection packet) past client)
    × (retained_publications (packet_place limits past connection packet ∷ past)
    ≡ retained_publications past)
    × (answers_of limits past (commands.Packet connection packet) ≡ [])

-- the window of this broker is steady, and so is one that grows at a new ballot
abbrev pub WindowIsSteady : Type 0
WindowIsSteady = IsSteady usual_limits × ((first : ℕ) → IsSteady (limits_from first))
