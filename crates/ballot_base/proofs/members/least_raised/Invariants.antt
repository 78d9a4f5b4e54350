use Rattle.std.proofs.Common.{◌≡◌, drop}
use Rattle.ballot_base.specs.Service.{least, raised}
use Rattle.ballot_base.proofs.members.least_raised.Given as goal

abbrev pub invariant-loop-reached : goal.invariant-loop-reached
invariant-loop-reached l =
    least l.least (raised l.member l.held (drop l.reached-index l.progress))
    ≡ least l.length (raised l.member l.held l.progress)
