use Rattle.std.proofs.Common.{◌≡◌}
use Rattle.world_pipes.specs.clients.NodeOutput.{StaysQuiet}
use Rattle.world.proofs.Walked.{IsWalking}
use Rattle.world.proofs.world.World.gather_open.Given as goal

abbrev pub invariant-loop-at : goal.invariant-loop-at
invariant-loop-at l = record { walk : IsWalking l.node l.at l.initial.self l.self; still : l.self.losses ≡ l.initial.self.losses; quiet : StaysQuiet l.node l.initial.self.nodes l.self.nodes }

abbrev pub decreases-loop-at : goal.decreases-loop-at
decreases-loop-at l = l.at
