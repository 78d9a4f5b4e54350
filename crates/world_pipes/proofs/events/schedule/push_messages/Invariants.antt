use Rattle.std.proofs.Common.{◌≡◌, ◌++◌, map, take}
use Rattle.world_pipes.specs.declared.events.event.Event.TheVariants as events
use Rattle.world_pipes.proofs.events.schedule.push_messages.Given as goal

abbrev pub invariant-loop-number : goal.invariant-loop-number
invariant-loop-number l = l.out.items ≡ l.initial.out.items ++ map events.Deliver (take l.number-index l.numbers)
