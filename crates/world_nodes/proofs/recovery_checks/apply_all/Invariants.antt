use Rattle.std.proofs.Common.{◌≡◌, take}
use Rattle.machine.specs.Machine.{replay_from}
use Rattle.world_base.specs.node_core.Core.{rules}
use Rattle.world_nodes.proofs.recovery_checks.apply_all.Given as goal

abbrev pub invariant-loop-command : goal.invariant-loop-command
invariant-loop-command l = l.machine ≡ replay_from rules l.initial.machine (take l.command-index l.commands)
