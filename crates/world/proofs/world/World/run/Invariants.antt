use Rattle.std.proofs.Common.{take}
use Rattle.world.specs.Trace.{KeepsGroup}
use Rattle.world.specs.Events.{EventsHappen}
use Rattle.world.proofs.AskedSo.{HasAsked}
use Rattle.world.proofs.world.World.run.Given as goal

abbrev pub invariant-loop-event : goal.invariant-loop-event
invariant-loop-event l = record {
  group : KeepsGroup l.initial.self l.self;
  asks : HasAsked (take l.event-index l.events) l.initial.self l.self;
  runs : EventsHappen (take l.event-index l.events) l.initial.self l.self;
}
