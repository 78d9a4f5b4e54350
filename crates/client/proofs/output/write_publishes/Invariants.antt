use Rattle.std.proofs.Common.{map, take}
use Rattle.client_base.specs.State.{publish_kept}
use Rattle.client.specs.Core.{AppendsAll}
use Rattle.client.proofs.output.write_publishes.Given as goal

abbrev pub invariant-loop-one : goal.invariant-loop-one
invariant-loop-one l = AppendsAll l.initial.out.items l.out.items (map (publish_kept l.dup) (take l.one-index l.kept))
