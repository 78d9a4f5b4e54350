use Rattle.cluster.proofs.of_table.Added.{added}
use Rattle.cluster.proofs.table.commands.add.Goals as goal

pub returns : goal.returns
returns c app rule is given = added app rule c.args.command c.args.arg c.arg.result is given c.arg.ensures
