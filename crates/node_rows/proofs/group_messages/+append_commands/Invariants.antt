use Rattle.std.proofs.Common.{length}
use Rattle.node_rows.proofs.group_messages.+append_commands.Given as goal

abbrev pub decreases-append_commands : goal.decreases-append_commands
decreases-append_commands l = length l.commands.now
