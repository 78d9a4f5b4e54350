use Rattle.world_nodes.proofs.KeepsAll.{may_be_lost}
use Rattle.world_nodes.proofs.kept_messages.keep.Goals as goal

pub returns-in-To-clause-message : goal.returns-in-To-clause-message
returns-in-To-clause-message c = may_be_lost c.is_ok.result c.args.effect c.in-To.receiver c.in-To.message c.in-To.is
