use Rattle.std.proofs.Common.{Ok}
use Rattle.world_pipes.specs.Piped.{piped}
use Rattle.world_pipes.proofs.CallingFollows.{leaving_follows}
use Rattle.world_pipes.proofs.Sent.{left_so}
use Rattle.world_pipes.proofs.piped_client.PipedClient.disconnect.Goals as goal

pub returns-clause-leaves : goal.returns-clause-leaves
returns-clause-leaves c =
    rw (← c.self.view_is)
    (left_so _ c.disconnect.new.self c.send_up-sending.new.core c.send_up-sending.new.pairs.items c.send_up-sending.result c.self.inside.holds
    c.send_up-sending.new.holds c.self.invariant c.in_ok-disconnect.ensures c.send_up-sending.ensures)

pub returns-clause-goes : goal.returns-clause-goes
returns-clause-goes c =
    leaving_follows c.args.self.now (Ok c.send_up-sending.result) (piped c.send_up-sending.new.core c.send_up-sending.new.pairs.items)
    (rw (← c.self.view_is)
    (left_so (piped c.self.inside.core c.self.inside.pairs.items) c.disconnect.new.self c.send_up-sending.new.core c.send_up-sending.new.pairs.items
    c.send_up-sending.result c.self.inside.holds c.send_up-sending.new.holds c.self.invariant c.in_ok-disconnect.ensures c.send_up-sending.ensures))
