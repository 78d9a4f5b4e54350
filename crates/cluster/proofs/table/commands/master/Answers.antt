use Rattle.std.proofs.Common.{codes}
use Rattle.clap.specs.Words.{new_app}
use Rattle.cluster.specs.table.Program.{config_rule}
use Rattle.cluster.proofs.table.commands.master.Goals as goal

pub returns : goal.returns
returns c = c.add.ensures (new_app (codes "master")) config_rule c.bare-command.ensures c.config.ensures
