-- Worked examples: messages with a command of each kind, and with a log, and their bytes written by
-- hand.
use Rattle.std.specs.Prelude.{ℕ, true, false, List, [], ◌∷◌, ◌++◌, codes}
use Rattle.packet.specs.declared.packet.Packet.{Packet}
use Rattle.packet.specs.declared.packet.Packet.TheVariants as packets
use Rattle.packet.specs.declared.delivery.Delivery.TheVariants as deliveries
use Rattle.ballot_base.specs.Logs.{Log, empty_log}
use Rattle.ballot_base.specs.declared.message.Body.TheVariants as bodies
use Rattle.broker_spec.specs.Connection.{ConnectionName}
use Rattle.broker_spec.specs.declared.command.Command.{Command}
use Rattle.broker_spec.specs.declared.command.Command.TheVariants as commands
use Rattle.links.specs.message_form.Rows.{Row}

-- connection 513 of ballot 1
abbrev pub name_in_row : ConnectionName
name_in_row = record { ballot = 1; count = 513 }

-- a PUBLISH of `x` on `t` with QoS 1, identifier 258 and RETAIN: its bytes are 33 06, then
-- 00 01 74, then 01 02, then 78
abbrev pub publish_in_row : Packet
publish_in_row =
    packets.Publish (
    record {
      topic = codes "t";
      delivery = deliveries.AtLeastOnce false 258;
      retain = true;
      payload = codes "x";
    }
    )

-- a command at place 9 of ballot 7
abbrev pub append_head : List ℕ
append_head = 9 ∷ 3 ∷ 0 ∷ 0 ∷ 0 ∷ 0 ∷ 0 ∷ 0 ∷ 0 ∷ 7 ∷ 0 ∷ 0 ∷ 0 ∷ 0 ∷ 0 ∷ 0 ∷ 0 ∷ 9 ∷ []

-- the bytes of the name
abbrev pub name_by_hand : List ℕ
name_by_hand = 0 ∷ 0 ∷ 0 ∷ 0 ∷ 0 ∷ 0 ∷ 0 ∷ 1 ∷ 0 ∷ 0 ∷ 0 ∷ 0 ∷ 0 ∷ 0 ∷ 2 ∷ 1 ∷ []

-- a command of each kind
abbrev pub append_rows : List Row
append_rows = (
  bodies.Append 7 9 (commands.Connect name_in_row (codes "ab") true),
  append_head ++ 1 ∷ name_by_hand ++ 0 ∷ 2 ∷ 0x61 ∷ 0x62 ∷ 1 ∷ [],
)
    ∷ (
      bodies.Append 7 9 (commands.Connect name_in_row (codes "ab") false),
      append_head ++ 1 ∷ name_by_hand ++ 0 ∷ 2 ∷ 0x61 ∷ 0x62 ∷ 0 ∷ [],
    )
    ∷ (
      bodies.Append 7 9 (commands.Packet name_in_row publish_in_row),
      append_head ++ 2 ∷ name_by_hand
          ++ 0x33 ∷ 0x06 ∷ 0x00 ∷ 0x01 ∷ 0x74 ∷ 0x01 ∷ 0x02 ∷ 0x78 ∷ [],
    )
    ∷ (bodies.Append 7 9 (commands.Lost name_in_row), append_head ++ 3 ∷ name_by_hand)
    ∷ (
      bodies.Append 7 9 (commands.Start 7),
      append_head ++ 4 ∷ 0 ∷ 0 ∷ 0 ∷ 0 ∷ 0 ∷ 0 ∷ 0 ∷ 7 ∷ [],
    )
    ∷ (
      bodies.Append 7 9 (commands.Expel (codes "ab")),
      append_head ++ 5 ∷ 0 ∷ 2 ∷ 0x61 ∷ 0x62 ∷ [],
    )
    ∷ []

-- a log from place 258 on: a snapshot of three bytes, a PINGREQ and a Start
abbrev pub log_in_row : Log Command
log_in_row =
    record {
      base = 258;
      snapshot = 9 ∷ 8 ∷ 0 ∷ [];
      rest = commands.Packet name_in_row packets.Pingreq ∷ commands.Start 6 ∷ [];
    }

-- its bytes: the base, the snapshot after its length, the commands after their count, each after
-- its own length
abbrev pub log_by_hand : List ℕ
log_by_hand =
    0 ∷ 0 ∷ 0 ∷ 0 ∷ 0 ∷ 0 ∷ 1 ∷ 2
    ∷ 0 ∷ 0 ∷ 0 ∷ 0 ∷ 0 ∷ 0 ∷ 0 ∷ 3 ∷ 9 ∷ 8 ∷ 0
    ∷ 0 ∷ 0 ∷ 0 ∷ 0 ∷ 0 ∷ 0 ∷ 0 ∷ 2
    ∷ 0 ∷ 0 ∷ 0 ∷ 19 ∷ 2
    ∷ 0 ∷ 0 ∷ 0 ∷ 0 ∷ 0 ∷ 0 ∷ 0 ∷ 1 ∷ 0 ∷ 0 ∷ 0 ∷ 0 ∷ 0 ∷ 0 ∷ 2 ∷ 1 ∷ 0xC0 ∷ 0
    ∷ 0 ∷ 0 ∷ 0 ∷ 9 ∷ 4 ∷ 0 ∷ 0 ∷ 0 ∷ 0 ∷ 0 ∷ 0 ∷ 0 ∷ 6 ∷ []

-- that log, and one with no place
abbrev pub log_rows : List Row
log_rows =
    (bodies.State 6 log_in_row, 3 ∷ 3 ∷ 0 ∷ 0 ∷ 0 ∷ 0 ∷ 0 ∷ 0 ∷ 0 ∷ 6 ∷ log_by_hand)
    ∷ (
      bodies.Install 6 (empty_log Command),
      4 ∷ 3 ∷ 0 ∷ 0 ∷ 0 ∷ 0 ∷ 0 ∷ 0 ∷ 0 ∷ 6
          ∷ 0 ∷ 0 ∷ 0 ∷ 0 ∷ 0 ∷ 0 ∷ 0 ∷ 0 ∷ 0 ∷ 0 ∷ 0 ∷ 0 ∷ 0 ∷ 0 ∷ 0 ∷ 0
          ∷ 0 ∷ 0 ∷ 0 ∷ 0 ∷ 0 ∷ 0 ∷ 0 ∷ 0 ∷ [],
    )
    ∷ []
