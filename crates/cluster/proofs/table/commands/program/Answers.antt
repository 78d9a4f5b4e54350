use Rattle.clap.specs.Words.{with_subcommand}
use Rattle.cluster.specs.table.Program.{bare_program, key_app, master_app, node_app}
use Rattle.cluster.proofs.table.commands.program.Goals as goal

pub returns : goal.returns
returns c =
    let with_node = c.in_ok-command.ensures bare_program node_app c.bare_program-command.ensures c.in_ok-node.ensures in
    let app = with_subcommand bare_program node_app.top in
    let with_master = c.in_ok-command-2.ensures app master_app with_node c.in_ok-master.ensures in
    c.enter-3.ensures (with_subcommand app master_app.top) key_app with_master c.in_ok-key.ensures
