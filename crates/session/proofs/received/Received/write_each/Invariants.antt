use Rattle.std.proofs.Common.{◌≡◌, ◌++◌}
use Rattle.std.specs.List.{flat_map}
use Rattle.packet_base.specs.Spelling.{number}
use Rattle.session.proofs.received.Received.write_each.Given as goal

abbrev pub invariant-loop-id : goal.invariant-loop-id
invariant-loop-id l = l.bytes.items ++ flat_map number l.id-iterator ≡ l.initial.bytes.items ++ flat_map number l.self
