use Rattle.std.proofs.Common.{◌≡◌, take}
use Rattle.script.proofs.opening.members_from_numbers.Given as goal

abbrev pub invariant-loop-member : goal.invariant-loop-member
invariant-loop-member l = l.bytes.items ≡ take l.member-index l.members
