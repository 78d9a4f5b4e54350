use Rattle.std.proofs.Common.{◌≡◌, ◌++◌, map, take, drop}
use Rattle.ballot_base.specs.Service.{raised_progress}
use Rattle.ballot_base.proofs.members.raise.Given as goal

abbrev pub invariant-loop-reached : goal.invariant-loop-reached
invariant-loop-reached l =
    l.progress
    ≡ map (raised_progress l.member l.held) (take l.reached-index l.initial.progress)
    ++ drop l.reached-index l.initial.progress
