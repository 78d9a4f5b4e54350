use Rattle.std.proofs.Common.{◌≡◌, ◌++◌}
use Rattle.rows.specs.Fields.{repeated}
use Rattle.rows.proofs.hexadecimal.append_repeated.Given as goal

abbrev pub invariant-loop : goal.invariant-loop
invariant-loop l = l.bytes.items ≡ l.initial.bytes.items ++ repeated l.counter l.piece
