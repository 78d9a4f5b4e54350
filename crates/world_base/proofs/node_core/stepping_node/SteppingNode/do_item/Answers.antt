use Rattle.std.proofs.Common.{refl}
use Rattle.ballot_base.specs.Protocol.Input.{Ticks}
use Rattle.world_base.specs.declared.node_core.item.Item.TheVariants.{Peer, Tick, Opened, Bytes, Ended, Expel, Cut}
use Rattle.world_base.specs.node_core.Lossy.{Drives}
use Rattle.world_base.specs.node_core.LossyStep.{EndsAllSilent, HoldsBytes, ReadsPackets}
use Rattle.world_base.proofs.of_node_core.Accounts.{ran_then}
use Rattle.world_base.proofs.of_node_core.Hearing.{heard_so}
use Rattle.world_base.proofs.of_node_core.Idle.{bytes_calmly, calmly_as, ended_calmly, stays_calmly, tick_calmly}
use Rattle.world_base.proofs.of_node_core.ItemsRun.{ran_crashed, ran_cut, ran_item, ran_opened}
use Rattle.world_base.proofs.node_core.stepping_node.SteppingNode.do_item.Goals as goal

pub returns-in-Peer-clause-lossy : goal.returns-in-Peer-clause-lossy
returns-in-Peer-clause-lossy c = ran_item c.args.item (Peer c.in-Peer.message) _ _ _ _ c.in-Peer.is c.receive.ensures.lossy

pub returns-in-Tick-clause-lossy : goal.returns-in-Tick-clause-lossy
returns-in-Tick-clause-lossy c =
    ran_item c.args.item (Tick c.in-Tick.now) _ _ _ _ c.in-Tick.is
    (ran_then (Drives Ticks) (EndsAllSilent c.in-Tick.now) _ _ _ _ _ _ c.tick.ensures.lossy c.end_silent.ensures.lossy)

pub returns-in-Opened-clause-lossy : goal.returns-in-Opened-clause-lossy
returns-in-Opened-clause-lossy c =
    ran_item c.args.item (Opened c.in-Opened.port c.in-Opened.field-1) _ _ _ _ c.in-Opened.is (ran_opened c.in-Opened.port c.in-Opened.field-1 _ _ _ c.open.ensures.lossy)

pub returns-in-Bytes-clause-lossy : goal.returns-in-Bytes-clause-lossy
returns-in-Bytes-clause-lossy c =
    ran_item c.args.item (Bytes c.in-Bytes.port c.in-Bytes.piece c.in-Bytes.now) _ _ _ _ c.in-Bytes.is
    (ran_then (HoldsBytes c.in-Bytes.port c.in-Bytes.piece) (ReadsPackets c.in-Bytes.now c.in-Bytes.port) _ _ _ _ _ _ c.hold.ensures.lossy c.read.ensures.lossy)

pub returns-in-Ended-clause-lossy : goal.returns-in-Ended-clause-lossy
returns-in-Ended-clause-lossy c = ran_item c.args.item (Ended c.in-Ended.port) _ _ _ _ c.in-Ended.is c.end.ensures.lossy

pub returns-in-Expel-clause-lossy : goal.returns-in-Expel-clause-lossy
returns-in-Expel-clause-lossy c = ran_item c.args.item (Expel c.in-Expel.client) _ _ _ _ c.in-Expel.is c.expel.ensures.lossy

pub returns-in-Cut-clause-lossy : goal.returns-in-Cut-clause-lossy
returns-in-Cut-clause-lossy c = ran_item c.args.item Cut _ _ _ _ c.in-Cut.is (ran_cut _ _ _ c.cut_log.ensures.lossy)

pub returns-in-Crash-clause-lossy : goal.returns-in-Crash-clause-lossy
returns-in-Crash-clause-lossy c = rw (c.in-Crash.is, ← c.self.view_is) (ran_crashed _ c.stop.new.self _ c.stop.ensures)

pub returns-in-Peer-clause-quiet : goal.returns-in-Peer-clause-quiet
returns-in-Peer-clause-quiet c =
    calmly_as c.args.item (Peer c.in-Peer.message) _ _ c.in-Peer.is
    (λ takes. c.receive.ensures.quiet (heard_so c.in-Peer.message c.args.self.now.core takes.0) takes.1)

pub returns-in-Tick-clause-quiet : goal.returns-in-Tick-clause-quiet
returns-in-Tick-clause-quiet c =
    calmly_as c.args.item (Tick c.in-Tick.now) _ _ c.in-Tick.is
    (tick_calmly c.in-Tick.now _ _ _ c.tick.ensures.quiet c.end_silent.ensures.none)

pub returns-in-Opened-clause-quiet : goal.returns-in-Opened-clause-quiet
returns-in-Opened-clause-quiet c =
    calmly_as c.args.item (Opened c.in-Opened.port c.in-Opened.field-1) _ _ c.in-Opened.is
    (λ refused. stays_calmly _ _ (c.open.ensures.none refused))

pub returns-in-Bytes-clause-quiet : goal.returns-in-Bytes-clause-quiet
returns-in-Bytes-clause-quiet c =
    calmly_as c.args.item (Bytes c.in-Bytes.port c.in-Bytes.piece c.in-Bytes.now) _ _ c.in-Bytes.is
    (bytes_calmly c.in-Bytes.port _ _ _ c.hold.ensures.none c.read.ensures.none)

pub returns-in-Ended-clause-quiet : goal.returns-in-Ended-clause-quiet
returns-in-Ended-clause-quiet c =
    calmly_as c.args.item (Ended c.in-Ended.port) _ _ c.in-Ended.is (ended_calmly c.in-Ended.port _ _ c.end.ensures.unproposed)

pub returns-in-Expel-clause-quiet : goal.returns-in-Expel-clause-quiet
returns-in-Expel-clause-quiet c =
    calmly_as c.args.item (Expel c.in-Expel.client) _ _ c.in-Expel.is (λ refused. stays_calmly _ _ (c.expel.ensures.quiet refused))

pub returns-in-Cut-clause-quiet : goal.returns-in-Cut-clause-quiet
returns-in-Cut-clause-quiet c =
    calmly_as c.args.item Cut _ _ c.in-Cut.is (λ nothing. stays_calmly _ _ (c.cut_log.ensures.quiet nothing))

pub returns-in-Crash-clause-quiet : goal.returns-in-Crash-clause-quiet
returns-in-Crash-clause-quiet c = rw (← c.self.view_is) (λ _. record { has_lost = refl; failed = λ none. none })
