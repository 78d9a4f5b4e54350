use Rattle.std.proofs.Common.{◌≡◌, drop}
use Rattle.ballot_base.specs.Service.{least}
use Rattle.ballot_base.proofs.members.least_held.Given as goal

abbrev pub invariant-loop-reached : goal.invariant-loop-reached
invariant-loop-reached l = least l.least (drop l.reached-index l.progress) ≡ least l.held l.progress
