use Rattle.std.proofs.Common.{◌≡◌, map}
use Rattle.server.proofs.NodesOpened.{OpenedBelow}
use Rattle.server.proofs.opening.open_all.Given as goal

abbrev pub invariant-loop-index : goal.invariant-loop-index
invariant-loop-index g l = record {
  maker : l.maker ≡ l.index;
  so : OpenedBelow l.config (map (λ listener. listener.number) l.contexts.listeners.now) l.index l.opened;
}
