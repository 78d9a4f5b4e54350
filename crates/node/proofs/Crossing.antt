-- Crossing.antt: a node with its inbox may be handed from thread to thread, whatever names it.
use denote.Param.Send.{IsSend, sendable}
use denote.RattleType.{RattleType}
use Rattle.mailbox.proofs.receiver.Receiver.TheSendSync as receiver
use Rattle.mailbox.specs.declared.naming.Naming as naming
use Rattle.node.proofs.handed_counts.HandedCounts.TheSendSync as handed_counts
use Rattle.node.specs.contracts.node_state.NodeState as NodeState
use Rattle.node.specs.declared.naming.NodeNaming as node_naming
use Rattle.run_history.proofs.node_on_record.NodeOnRecord.TheSendSync as node_on_record
use Rattle.run_history.proofs.sent_item.SentItem.TheSendSync as sent_item
use Rattle.run_history.specs.declared.naming.RunNaming as run_naming
use Rattle.world_base.proofs.of_node_core.Crossing.{core_send}
use Rattle.world_base.proofs.node_core.item.Item.TheSendSync as item

pub state_send : (H R : RattleType) (h : run_naming.Ghosts H.Denot) (n : node_naming.Ghosts R.Denot) (m : naming.Ghosts R.Denot) → IsSend (NodeState.the_row H R h n m)
state_send H R h n m = search (core_send, receiver.the_send, node_on_record.the_send, sent_item.the_send, item.the_send, handed_counts.the_send, sendable) depth 60
