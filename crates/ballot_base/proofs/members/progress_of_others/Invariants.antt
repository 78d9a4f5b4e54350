use Rattle.std.proofs.Common.{◌≡◌, take}
use Rattle.ballot_base.specs.Replica.{others, progress_at}
use Rattle.ballot_base.proofs.members.progress_of_others.Given as goal

abbrev pub invariant-loop-member : goal.invariant-loop-member
invariant-loop-member l =
    l.progress.items ≡ progress_at l.held (others l.id (take l.member-index l.members))
