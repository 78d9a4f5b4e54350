use Rattle.std.proofs.Common.{◌≡◌, ◌++◌}
use Rattle.std.specs.Prelude.{map}
use Rattle.broker_spec.specs.declared.command.Output.TheVariants as outputs
use Rattle.broker.proofs.one_session.outputs.send_all.Given as goal

abbrev pub invariant-loop-packet : goal.invariant-loop-packet
invariant-loop-packet l =
    l.out.items ++ map (outputs.Send l.connection) l.packet-iterator.rest.items ≡ l.fn.out.items ++ map (outputs.Send l.connection) l.fn.sent.items
