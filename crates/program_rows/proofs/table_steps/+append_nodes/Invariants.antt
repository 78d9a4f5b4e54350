use Rattle.program_rows.proofs.table_steps.+append_nodes.Given as goal

abbrev pub decreases-append_nodes : goal.decreases-append_nodes
decreases-append_nodes l = l.count
