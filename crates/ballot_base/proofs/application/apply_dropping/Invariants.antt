use Rattle.std.proofs.Common.{◌≡◌}
use Rattle.machine.specs.Machine.{replay_from}
use Rattle.ballot_base.specs.Logs.{part}
use Rattle.ballot_base.proofs.application.apply_dropping.Given as goal

abbrev pub invariant-loop-place : goal.invariant-loop-place
invariant-loop-place g l =
    let rules = g.M.Machine.rules in
    l.machine ≡ replay_from rules l.initial.machine (part l.log l.from l.place)
