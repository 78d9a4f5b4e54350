use Rattle.std.proofs.Common.{◌≡◌, ◌++◌, take}
use Rattle.play.specs.AcceptedLines.{accepted_lines}
use Rattle.play.proofs.played_world.write_each.Given as goal

abbrev pub invariant-loop-one : goal.invariant-loop-one
invariant-loop-one l = l.transcript.items ≡ l.initial.transcript.items ++ accepted_lines l.client (take l.one-index l.accepted)
