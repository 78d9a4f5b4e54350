use Rattle.std.proofs.Common.{◌≡◌, ◌++◌}
use Rattle.recovery.specs.replicas.Deliveries.{numbers_from}
use Rattle.recovery.proofs.replicas.numbers.push_from.Given as goal

abbrev pub invariant-loop-step : goal.invariant-loop-step
invariant-loop-step l = record { pushed : l.numbers.items ≡ l.initial.numbers.items ++ numbers_from l.from l.step }
