use Rattle.std.proofs.Common.{Ok}
use Rattle.client_base.specs.Steps.{Call, keeper_step}
use Rattle.world_pipes.specs.Piped.{piped}
use Rattle.world_pipes.proofs.StaysOpen.{unsubscribing_stays}
use Rattle.world_pipes.proofs.CallingFollows.{unsubscribing_follows}
use Rattle.world_pipes.proofs.Sent.{called_so, held_so}
use Rattle.world_pipes.proofs.piped_client.PipedClient.unsubscribe.Goals as goal

pub invariant_of-self-2 : goal.invariant_of-self-2
invariant_of-self-2 c =
    held_so (keeper_step (Call.Unsubscribes c.args.filter) c.self.inside.core.state)
    c.self.inside.core c.unsubscribe.new.self c.send_up.new.core c.self.inside.pairs.items c.send_up.new.pairs.items c.send_up.result
    c.self.inside.holds c.send_up.new.holds c.self.invariant (unsubscribing_stays c.args.filter c.self.inside.core.state)
    c.in_ok-unsubscribe.ensures c.send_up.ensures

pub returns-clause-calls : goal.returns-clause-calls
returns-clause-calls c =
    rw (← c.self.view_is)
    (called_so (keeper_step (Call.Unsubscribes c.args.filter) c.self.inside.core.state)
    (piped c.self.inside.core c.self.inside.pairs.items) c.unsubscribe.new.self c.send_up.new.core c.send_up.new.pairs.items c.send_up.result
    c.self.inside.holds c.send_up.new.holds c.self.invariant c.in_ok-unsubscribe.ensures c.send_up.ensures)

pub returns-clause-goes : goal.returns-clause-goes
returns-clause-goes c =
    unsubscribing_follows c.args.filter c.args.self.now (Ok c.send_up.result)
    (piped c.send_up.new.core c.send_up.new.pairs.items) c.as_str-known.ensures.checked
    (rw (← c.self.view_is)
    (called_so (keeper_step (Call.Unsubscribes c.args.filter) c.self.inside.core.state)
    (piped c.self.inside.core c.self.inside.pairs.items) c.unsubscribe.new.self c.send_up.new.core c.send_up.new.pairs.items c.send_up.result
    c.self.inside.holds c.send_up.new.holds c.self.invariant c.in_ok-unsubscribe.ensures c.send_up.ensures))
