use Rattle.std.proofs.Common.{codes}
use Rattle.clap.specs.Words.{new_app, with_rule}
use Rattle.command_line.specs.Program.{file_rule, free_option}
use Rattle.command_line.proofs.commands.play.Goals as goal

pub returns : goal.returns
returns c =
    let with_escape = c.in_ok-command.ensures (new_app (codes "play")) (free_option (codes "escape")) c.bare-command.ensures c.escape.ensures in
    let with_client = c.in_ok-command-2.ensures (with_rule (new_app (codes "play")) (free_option (codes "escape"))) (free_option (codes "client")) with_escape c.client.ensures in
    c.add-3.ensures (with_rule (with_rule (new_app (codes "play")) (free_option (codes "escape"))) (free_option (codes "client"))) file_rule with_client c.file.ensures
