use Rattle.std.proofs.Common.{◌≡◌, take}
use Rattle.ballot_base.proofs.copies.copy_commands.Given as goal

abbrev pub invariant-loop-command : goal.invariant-loop-command
invariant-loop-command g l = l.copied.items ≡ take l.command-index l.commands
