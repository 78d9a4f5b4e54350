use Rattle.cluster.proofs.of_table.Added.{entered}
use Rattle.cluster.proofs.table.commands.enter.Goals as goal

pub returns : goal.returns
returns c app sub_app is given = entered app sub_app c.args.command c.args.subcommand c.subcommand.result is given c.subcommand.ensures
