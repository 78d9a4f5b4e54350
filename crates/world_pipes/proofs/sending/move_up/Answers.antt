use Rattle.std.proofs.Common.{rules}
use Rattle.world_pipes.proofs.Newest.{moved_where}
use Rattle.world_pipes.proofs.sending.move_up.Goals as goal

pub returns-clause-ok : goal.returns-clause-ok
returns-clause-ok c =
    moved_where c.follow.result c.args.core.now c.follow.new.core c.args.pairs.now.items c.len-newest.result c.index_mut-pair.result.now
    c.follow.new.self (search rules) c.index_mut-pair.ensures.value c.follow.ensures.bytes c.follow.ensures.ok
