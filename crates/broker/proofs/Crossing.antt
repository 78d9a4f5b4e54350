-- Crossing.antt: a machine may be handed from thread to thread, since each of its parts may.
use denote.Param.Send.{IsSend, sendable}
use Rattle.broker.specs.contracts.broker_machine.BrokerMachine as BrokerMachine
use Rattle.broker.proofs.one_session.client_row.ClientRow.TheSendSync.{the_send as row_send}
use Rattle.packet_base.proofs.client_id.ClientId.TheSendSync.{the_send as client_send}
use Rattle.retained.proofs.retained_store.RetainedStore.TheSendSync.{the_send as store_send}
use Rattle.std.proofs.Crossing.{crosses}
use Rattle.std.proofs.MapsCrossing as maps
use Rattle.subs.proofs.tree_index.TreeIndex.TheSendSync.{the_send as tree_send}

ruleset owning = (sendable, crosses, maps.crosses)

pub machine_send : IsSend BrokerMachine.the_row
machine_send = search (client_send, row_send, tree_send, store_send, owning) depth 60
