use Rattle.std.proofs.Common.{ℕ, ◌-◌, take}
use Rattle.std.specs.Prelude.{slice_get}
use Rattle.lists.specs.Lists.{In}
use Rattle.master.specs.Inside.{IsShort}
use Rattle.world_nodes.specs.Inside.{replicas_of}
use Rattle.world_nodes.proofs.nodes.Nodes.holder.Given as goal

abbrev pub invariant-loop-member : goal.invariant-loop-member
invariant-loop-member l =
    (m : ℕ) → In m (take l.member-index l.members) → IsShort (slice_get (replicas_of l.self.nodes) (m - 1)) l.held
