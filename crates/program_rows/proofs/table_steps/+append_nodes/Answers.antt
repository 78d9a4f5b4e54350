use Rattle.program_rows.proofs.TableAnswers.{nodes_put}
use Rattle.program_rows.proofs.table_steps.+append_nodes.Goals as goal

pub returns-in_ok-append_node : goal.returns-in_ok-append_node
returns-in_ok-append_node t c =
    nodes_put c.args.count c.args.text.now.items c.append_nodes.new.text.items c.append_node.new.text.items
    c.if-count-gt0.true c.in_ok-append_nodes.ensures c.in_ok-append_node.ensures
