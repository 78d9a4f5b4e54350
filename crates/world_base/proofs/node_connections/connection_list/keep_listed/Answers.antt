use Rattle.std.proofs.Common.{rules}
use Rattle.std.proofs.lemmas.Fn.{filter_same}
use Rattle.world_base.specs.node_connections.Connections.{is_listed}
use Rattle.world_base.proofs.node_connections.connection_list.keep_listed.Goals as goal

pub returns : goal.returns
returns c = filter_same _ is_listed _ (λ x b f k. search rules) _ _ c.retain.ensures.filtered
