use Rattle.std.proofs.Common.{◌≡◌, take}
use Rattle.ballot_base.specs.Replica.{others}
use Rattle.ballot_base.proofs.members.others_of.Given as goal

abbrev pub invariant-loop-member : goal.invariant-loop-member
invariant-loop-member l =
    l.them.items ≡ others l.id (take l.member-index l.members)
