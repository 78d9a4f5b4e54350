-- Worked examples: bytes with a fault, or with two, and the one that is reported.
use Rattle.std.specs.Prelude.{◌≡◌, ℕ, List, [], ◌∷◌, ◌++◌, Err}
use Rattle.std.specs.List.{AllByRecursion}
use Rattle.topics.specs.declared.malformed.MalformedKind.{MalformedKind}
use Rattle.topics.specs.declared.malformed.MalformedKind.TheVariants as kinds
use Rattle.links.specs.message_form.Outcome.{message_of}
use Rattle.links.specs.message_form.LogRows.{append_head, name_by_hand}

-- bytes, and the fault that is reported for them
abbrev pub FaultRow : Type 0
FaultRow = List ℕ × MalformedKind

-- each of these faults is reported
abbrev pub AllCount : List FaultRow → Type 0
AllCount rows = AllByRecursion (λ row. message_of row.0 ≡ Err row.1) rows

-- nothing, no kind 0 and no kind 12, a number that is cut short, a byte left over
abbrev pub shape_rows : List FaultRow
shape_rows =
    ([], kinds.Shape)
    ∷ (6 ∷ [], kinds.Shape)
    ∷ (0 ∷ 3 ∷ 0 ∷ 0 ∷ 0 ∷ 0 ∷ 0 ∷ 0 ∷ 0 ∷ 7 ∷ [], kinds.Shape)
    ∷ (12 ∷ 3 ∷ 0 ∷ 0 ∷ 0 ∷ 0 ∷ 0 ∷ 0 ∷ 0 ∷ 7 ∷ [], kinds.Shape)
    ∷ (6 ∷ 3 ∷ 0 ∷ 0 ∷ 0 ∷ 0 ∷ 0 ∷ 0 ∷ 7 ∷ [], kinds.Shape)
    ∷ (6 ∷ 3 ∷ 0 ∷ 0 ∷ 0 ∷ 0 ∷ 0 ∷ 0 ∷ 0 ∷ 7 ∷ 0 ∷ [], kinds.Shape)
    ∷ []

-- a command: no kind 6, ballot 0, a flag of 2, a client of no byte, one with U+0000, a PINGREQ with
-- flags, a CONNACK that is cut short, a CONNECT of another level
abbrev pub command_rows : List FaultRow
command_rows =
    (append_head ++ 6 ∷ name_by_hand, kinds.Shape)
    ∷ (
      append_head ++ 3 ∷ 0 ∷ 0 ∷ 0 ∷ 0 ∷ 0 ∷ 0 ∷ 0 ∷ 0 ∷ 0 ∷ 0 ∷ 0 ∷ 0 ∷ 0 ∷ 0 ∷ 0 ∷ 1 ∷ [],
      kinds.Shape,
    )
    ∷ (append_head ++ 1 ∷ name_by_hand ++ 0 ∷ 1 ∷ 0x61 ∷ 2 ∷ [], kinds.Shape)
    ∷ (append_head ++ 1 ∷ name_by_hand ++ 0 ∷ 0 ∷ 2 ∷ [], kinds.Identifier)
    ∷ (append_head ++ 5 ∷ 0 ∷ 1 ∷ 0 ∷ 9 ∷ [], kinds.Text)
    ∷ (append_head ++ 2 ∷ name_by_hand ++ 0xC1 ∷ 0 ∷ [], kinds.Flags)
    ∷ (append_head ++ 2 ∷ name_by_hand ++ 0x20 ∷ 2 ∷ 0 ∷ [], kinds.Shape)
    ∷ (
      append_head ++ 2 ∷ name_by_hand
          ++ 0x10 ∷ 0x0D ∷ 0x00 ∷ 0x04 ∷ 0x4D ∷ 0x51 ∷ 0x54 ∷ 0x54 ∷ 0x05 ∷ 0x02 ∷ 0x00 ∷ 0x00
          ∷ 0x00 ∷ 0x01 ∷ 0x61 ∷ [],
      kinds.Protocol,
    )
    ∷ []

-- the front of a State of ballot 6
abbrev pub state_head : List ℕ
state_head = 3 ∷ 3 ∷ 0 ∷ 0 ∷ 0 ∷ 0 ∷ 0 ∷ 0 ∷ 0 ∷ 6 ∷ []

-- a log: a snapshot of 2^63 bytes of which none is there, 2^56 commands of which none is there, a
-- base of 2^64 - 1 and one command, a Start in ten bytes
abbrev pub log_fault_rows : List FaultRow
log_fault_rows = (
  state_head ++ 0 ∷ 0 ∷ 0 ∷ 0 ∷ 0 ∷ 0 ∷ 0 ∷ 0 ∷ 128 ∷ 0 ∷ 0 ∷ 0 ∷ 0 ∷ 0 ∷ 0 ∷ 0 ∷ [],
  kinds.Shape,
)
    ∷ (
      state_head ++ 0 ∷ 0 ∷ 0 ∷ 0 ∷ 0 ∷ 0 ∷ 0 ∷ 0 ∷ 0 ∷ 0 ∷ 0 ∷ 0 ∷ 0 ∷ 0 ∷ 0 ∷ 0
          ∷ 1 ∷ 0 ∷ 0 ∷ 0 ∷ 0 ∷ 0 ∷ 0 ∷ 0 ∷ [],
      kinds.Shape,
    )
    ∷ (
      state_head ++ 255 ∷ 255 ∷ 255 ∷ 255 ∷ 255 ∷ 255 ∷ 255 ∷ 255
          ∷ 0 ∷ 0 ∷ 0 ∷ 0 ∷ 0 ∷ 0 ∷ 0 ∷ 0 ∷ 0 ∷ 0 ∷ 0 ∷ 0 ∷ 0 ∷ 0 ∷ 0 ∷ 1
          ∷ 0 ∷ 0 ∷ 0 ∷ 9 ∷ 4 ∷ 0 ∷ 0 ∷ 0 ∷ 0 ∷ 0 ∷ 0 ∷ 0 ∷ 6 ∷ [],
      kinds.Shape,
    )
    ∷ (
      state_head ++ 0 ∷ 0 ∷ 0 ∷ 0 ∷ 0 ∷ 0 ∷ 0 ∷ 0 ∷ 0 ∷ 0 ∷ 0 ∷ 0 ∷ 0 ∷ 0 ∷ 0 ∷ 0
          ∷ 0 ∷ 0 ∷ 0 ∷ 0 ∷ 0 ∷ 0 ∷ 0 ∷ 1
          ∷ 0 ∷ 0 ∷ 0 ∷ 10 ∷ 4 ∷ 0 ∷ 0 ∷ 0 ∷ 0 ∷ 0 ∷ 0 ∷ 0 ∷ 6 ∷ 0 ∷ [],
      kinds.Shape,
    )
    ∷ []
