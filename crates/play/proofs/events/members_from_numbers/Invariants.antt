use Rattle.std.proofs.Common.{◌≡◌, take}
use Rattle.play.proofs.events.members_from_numbers.Given as goal

abbrev pub invariant-loop-number : goal.invariant-loop-number
invariant-loop-number l = l.bytes.items ≡ take l.number-index l.numbers
