use Rattle.std.proofs.Common.{arith}
use Rattle.world_nodes.proofs.Welcomes.{done_more}
use Rattle.world_nodes.proofs.recovery_checks.apply_all.Goals as goal

pub loop-command-preserved : goal.loop-command-preserved
loop-command-preserved c =
    done_more c.args.machine.now c.args.commands.now c.loop-command.command-index c.command-item.result c.loop-command.machine c.apply.new.machine (omega arith) c.command-item.is
    c.loop-command.invariant c.in_ok-apply.ensures.state
