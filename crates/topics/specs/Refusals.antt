-- The numbers of malformed packets and texts.
use Rattle.std.specs.Prelude.{ℕ}
use Rattle.topics.specs.declared.malformed.MalformedKind.{MalformedKind}
use Rattle.topics.specs.declared.malformed.MalformedKind.TheVariants.{
  PacketType,
  Flags,
  Length,
  TooLarge,
  Text,
  Identifier,
  Qos,
  Topic,
  Filter,
  Shape,
  Protocol,
  Memory,
  TooDeep,
}

-- the number of each kind, as in the table of refusals
abbrev pub malformed_number : MalformedKind → ℕ
malformed_number PacketType = 1
malformed_number Flags = 2
malformed_number Length = 3
malformed_number TooLarge = 4
malformed_number Text = 5
malformed_number Identifier = 6
malformed_number Qos = 7
malformed_number Topic = 8
malformed_number Filter = 9
malformed_number Shape = 10
malformed_number Protocol = 11
malformed_number Memory = 12
malformed_number TooDeep = 14
