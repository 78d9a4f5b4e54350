use Rattle.std.proofs.Common.{ℕ, ◌-◌, take}
use Rattle.std.specs.Prelude.{slice_get}
use Rattle.lists.specs.Lists.{In}
use Rattle.master.specs.Inside.{IsShort}
use Rattle.master.proofs.group.Group.holder.Given as goal

abbrev pub invariant-loop-member : goal.invariant-loop-member
invariant-loop-member g l =
    (m : ℕ) → In m (take l.member-index l.members) → IsShort (slice_get l.self.moment.world.nodes (m - 1)) l.held
