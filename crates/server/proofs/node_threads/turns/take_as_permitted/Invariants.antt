use Rattle.std.proofs.Common.{◌≡◌}
use Rattle.run_history.specs.Log.{sent_in}
use Rattle.run_history.specs.Sending.{AllSent}
use Rattle.server.specs.node_threads.Turns.{Turns}
use Rattle.server.proofs.node_threads.turns.take_as_permitted.Given as goal

abbrev pub invariant-loop : goal.invariant-loop
invariant-loop g l = record {
  given : AllSent (sent_in l.node.log) l.effects.items;
  turns : Turns l.initial.node l.node l.effects.items;
  lane : l.lane ≡ l.initial.lane;
  inbox : l.lane.inbox ≡ l.node.receiver.inbox;
}
