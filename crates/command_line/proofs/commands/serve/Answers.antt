use Rattle.std.proofs.Common.{codes}
use Rattle.clap.specs.Words.{new_app, with_rule}
use Rattle.command_line.specs.Program.{free_option, log_rule, required_option}
use Rattle.command_line.proofs.commands.serve.Goals as goal

pub returns : goal.returns
returns c =
    let with_config = c.in_ok-command.ensures (new_app (codes "serve")) (required_option (codes "config")) c.bare-command.ensures c.config.ensures in
    let with_log = c.in_ok-command-2.ensures (with_rule (new_app (codes "serve")) (required_option (codes "config"))) log_rule with_config c.log.ensures in
    c.add-3.ensures (with_rule (with_rule (new_app (codes "serve")) (required_option (codes "config"))) log_rule) (free_option (codes "admin")) with_log c.admin.ensures
