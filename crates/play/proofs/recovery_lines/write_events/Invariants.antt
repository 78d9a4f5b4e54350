use Rattle.std.proofs.Common.{◌≡◌, ◌++◌, take}
use Rattle.play.specs.Recoveries.{event_lines}
use Rattle.play.proofs.recovery_lines.write_events.Given as goal

abbrev pub invariant-loop-event : goal.invariant-loop-event
invariant-loop-event l = l.way.items ≡ l.initial.way.items ++ event_lines (take l.event-index l.events)
