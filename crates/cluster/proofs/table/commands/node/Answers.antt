use Rattle.std.proofs.Common.{codes}
use Rattle.clap.specs.Words.{new_app, with_rule}
use Rattle.cluster.specs.table.Program.{config_rule, row_rule}
use Rattle.cluster.proofs.table.commands.node.Goals as goal

pub returns : goal.returns
returns c =
    let with_config = c.in_ok-command.ensures (new_app (codes "node")) config_rule c.bare-command.ensures c.config.ensures in
    c.add-2.ensures (with_rule (new_app (codes "node")) config_rule) row_rule with_config c.row.ensures
