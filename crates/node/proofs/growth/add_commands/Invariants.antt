use Rattle.std.proofs.Common.{◌≡◌, ◌+◌, take}
use Rattle.std.specs.Prelude.{sum_by}
use Rattle.node.specs.Growth.{bytes_of_command, saturated}
use Rattle.node.proofs.growth.add_commands.Given as goal

abbrev pub invariant-loop-command : goal.invariant-loop-command
invariant-loop-command l =
    l.bytes ≡ saturated (l.initial.bytes + sum_by bytes_of_command (take l.command-index l.commands))
