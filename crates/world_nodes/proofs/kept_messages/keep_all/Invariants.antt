use Rattle.world_nodes.specs.Inside.{KeepsMessages}
use Rattle.world_nodes.proofs.kept_messages.keep_all.Given as goal

abbrev pub invariant-loop-effect : goal.invariant-loop-effect
invariant-loop-effect l = KeepsMessages l.yielded l.initial.sent.items l.sent.items l.whole
