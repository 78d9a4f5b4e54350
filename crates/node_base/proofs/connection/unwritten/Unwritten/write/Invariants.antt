use Rattle.std.specs.Prelude.{◌≡◌}
use Rattle.node_base.specs.connection.Written.{Writes}
use Rattle.node_base.proofs.connection.unwritten.Unwritten.write.Given as goal

abbrev pub invariant-loop : goal.invariant-loop
invariant-loop g l = record {
  writes : Writes (g.W.Write.contents l.initial.device.device) (g.W.Write.contents l.device.device) l.initial.self l.self;
  faults : l.device.faults ≡ l.initial.device.faults;
}
