use Rattle.std.proofs.Common.{length}
use Rattle.node_rows.proofs.group_messages.+put_commands.Given as goal

abbrev pub decreases-put_commands : goal.decreases-put_commands
decreases-put_commands l = length l.commands.now
