use Rattle.clap.specs.Words.{with_subcommand}
use Rattle.command_line.specs.Program.{bare_program, play_app, publish_app, serve_app, subscribe_app}
use Rattle.command_line.proofs.commands.program.Goals as goal

pub returns : goal.returns
returns c =
    let with_serve = c.in_ok-command.ensures bare_program serve_app c.bare_program-command.ensures c.in_ok-serve.ensures in
    let app = with_subcommand bare_program serve_app.top in
    let with_publish = c.in_ok-command-2.ensures app publish_app with_serve c.in_ok-publish.ensures in
    let app2 = with_subcommand app publish_app.top in
    let with_subscribe = c.in_ok-command-3.ensures app2 subscribe_app with_publish c.in_ok-subscribe.ensures in
    c.enter-4.ensures (with_subcommand app2 subscribe_app.top) play_app with_subscribe c.in_ok-play.ensures
