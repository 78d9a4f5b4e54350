use Rattle.std.proofs.Common.{◌≡◌, ◌-◌, ◌++◌, map, true}
use Rattle.std.specs.Arc.{arc_value}
use Rattle.streams.specs.ListedConnections.{AddsBusy, busy_between}
use Rattle.streams.proofs.links.Links.add_between.Given as goal

abbrev pub invariant-loop-index : goal.invariant-loop-index
invariant-loop-index g l = record {
  all : l.all ≡ true
      → map arc_value l.busy.items
      ≡ map arc_value l.initial.busy.items ++ busy_between arc_value l.idle l.self.slots l.fn.first l.index;
  adds : AddsBusy l.idle (l.index - l.fn.first) (map arc_value l.initial.busy.items) (map arc_value l.busy.items);
}
