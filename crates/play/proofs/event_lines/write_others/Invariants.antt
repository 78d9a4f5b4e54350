use Rattle.std.proofs.Common.{◌≡◌, ◌++◌, take}
use Rattle.play.specs.Recoveries.{more_members}
use Rattle.play.proofs.event_lines.write_others.Given as goal

abbrev pub invariant-loop-member : goal.invariant-loop-member
invariant-loop-member l = l.text.items ≡ l.initial.text.items ++ more_members (take l.member-index l.members)
