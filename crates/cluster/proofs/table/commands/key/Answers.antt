use Rattle.std.proofs.Common.{codes}
use Rattle.clap.specs.Words.{new_app}
use Rattle.cluster.specs.table.Program.{file_rule}
use Rattle.cluster.proofs.table.commands.key.Goals as goal

pub returns : goal.returns
returns c = c.add.ensures (new_app (codes "key")) file_rule c.bare-command.ensures c.file.ensures
