-- What a server answers that a client's keeper does not keep: the code of a refused connection, and
-- those of a subscription (MQTT 3.2.2.3, 3.9.3).
use Rattle.std.specs.Prelude.{◌≡◌, ◌⊎◌, ◌++◌, ℕ, Bool, true, false, List, [], Option, Some, None, Ok, if◌then◌else◌}
use Rattle.std.specs.List.{list_any}
use Rattle.std.specs.Option.{option_or}
use Rattle.packet.specs.declared.connack.Connack.TheVariants as connacks
use Rattle.packet.specs.declared.packet.Packet.{Packet}
use Rattle.packet.specs.declared.packet.Packet.TheVariants as packets
use Rattle.packet.specs.declared.suback.SubackCode.{SubackCode}
use Rattle.packet.specs.declared.suback.SubackCode.TheVariants as codes_of
use Rattle.packet_base.specs.declared.refusal_code.RefusalCode.TheVariants as refusals
use Rattle.cutter.specs.Stream.{Stream, Takes}
use Rattle.user_client.specs.declared.denial.Denial.{Denial}
use Rattle.user_client.specs.declared.denial.Denial.TheVariants as denials
use Rattle.user_client.specs.declared.answers.Answers.{Answers}

-- before the first byte of a connection
abbrev pub no_answers : Answers
no_answers = record { unread = record { bytes = []; failed = false }; denial = None }

-- whether a return code of a SUBACK refuses its filter
abbrev pub is_failure : SubackCode → Bool
is_failure (codes_of.Granted qos) = false
is_failure codes_of.Failure = true

-- what a packet denies the client, if it does
abbrev pub denial_of : Packet → Option Denial
denial_of (packets.Connack (connacks.Refused code)) = Some (denials.Connack code)
denial_of (packets.Suback suback) =
    if list_any is_failure suback.codes then Some denials.Suback else None
denial_of _ = None

-- whether another connection would be denied the same: the service may come back (code 3)
abbrev pub is_final : Denial → Bool
is_final (denials.Connack refusals.ServerUnavailable) = false
is_final denial = true

-- whether the client may go on after these answers
abbrev pub may_go_on : Option Denial → Bool
may_go_on None = true
may_go_on (Some denial) = if is_final denial then false else true

-- Whole packets were taken, one after another, and the first denial of all was noted.
pub data Notes (start : Answers) : Answers → Type 0 where
  -- no packet
  none : Notes start start
  -- one more packet
  more : {before : Answers} (after : Answers) (packet : Packet) → Notes start before
      → Takes before.unread (Ok (Some packet)) after.unread
      → after.denial ≡ option_or before.denial (denial_of packet) → Notes start after

-- no whole packet is left to take, or the stream has a fault
abbrev pub IsCut : Stream → Type 0
IsCut stream = Takes stream (Ok None) stream ⊎ (stream.failed ≡ true)

-- a chunk is appended, unless the stream had a fault before
abbrev pub fed : List ℕ → Answers → Answers
fed piece answers = if answers.unread.failed then answers
    else record answers {
      unread = record answers.unread { bytes = answers.unread.bytes ++ piece };
    }

-- a chunk was read: all its whole packets were taken, up to a fault
pub record Hears (piece : List ℕ) (old new : Answers) : Type 0 where
  pub last : Answers
  pub notes : Notes (fed piece old) last
  pub cut : IsCut new.unread
  pub bytes : new.unread.bytes ≡ last.unread.bytes
  pub denial : new.denial ≡ last.denial
