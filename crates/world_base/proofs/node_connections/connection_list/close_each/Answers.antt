use Rattle.std.proofs.Common.{ap, ◌∙◌, set, arith}
use Rattle.std.proofs.lemmas.List.Edits.{map_over_more}
use Rattle.world_base.specs.node_connections.ConnectionChanges.{closed_connection}
use Rattle.world_base.proofs.node_connections.connection_list.close_each.Goals as goal

pub loop-index-preserved : goal.loop-index-preserved
loop-index-preserved c =
    ap (λ x. set c.loop-index.connections.items c.loop-index.index x) c.close.ensures
    ∙ map_over_more closed_connection c.args.connections.now.items c.loop-index.connections.items c.loop-index.index
    c.index_mut.result.now (omega arith) c.loop-index.invariant c.index_mut.ensures.value
