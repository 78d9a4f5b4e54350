-- What a log of events says: the states of the nodes and of the master, the messages that were
-- sent, and how many events each party has. The master has number 0; the node at an index has the
-- number after it.
use Rattle.std.specs.Prelude.{ℕ, ◌+◌, ◌==◌, if◌then◌else◌, Bool, false, List, [], ◌∷◌, ◌++◌, slice_set}
use Rattle.ballot_base.specs.LawfulConfig.{max_node}
use Rattle.ballot_base.specs.StepOutcome.{master}
use Rattle.ballot_base.specs.declared.config.Config.{Config}
use Rattle.ballot_base.specs.declared.message.Message.{Message}
use Rattle.broker_spec.specs.declared.command.Command.{Command}
use Rattle.agreement.specs.MasterState.{MasterState, opening_master}
use Rattle.agreement.specs.cut_logs.World.{messages}
use Rattle.world_base.specs.declared.node_core.item.Item.{Item}
use Rattle.world_base.specs.node_core.Core.{CoreState}
use Rattle.headline.specs.node_group.Group.{opening_cores}
use Rattle.run_history.specs.declared.event.NodeAct.{NodeAct}
use Rattle.run_history.specs.declared.event.NodeAct.TheVariants.{Takes, HandsOver}
use Rattle.run_history.specs.declared.event.RunEvent.{RunEvent}
use Rattle.run_history.specs.declared.event.RunEvent.TheVariants.{Opens, ByNode, ByMaster, ByLink}

-- ---- the opening

-- the event by which a group of this many nodes opens, linked to other programs or not
abbrev pub opening_event : ℕ → Config → Bool → RunEvent
opening_event nodes config linked =
    Opens (record { nodes = nodes; config = config; linked = linked })

-- the log as a group opens
abbrev pub opening_log : ℕ → Config → Bool → List RunEvent
opening_log nodes config linked = opening_event nodes config linked ∷ []

-- ---- states

-- the nodes after these events
abbrev pub nodes_after : List CoreState → List RunEvent → List CoreState
nodes_after nodes (ByNode event ∷ events) =
    nodes_after (slice_set nodes event.node event.after.core) events
nodes_after nodes (ByMaster event ∷ events) = nodes_after nodes events
nodes_after nodes (ByLink event ∷ events) = nodes_after nodes events
nodes_after nodes (Opens group ∷ events) = nodes_after nodes events
nodes_after nodes [] = nodes

-- the nodes by a log of a group that opens like this
abbrev pub nodes_in : ℕ → Config → List RunEvent → List CoreState
nodes_in nodes config log = nodes_after (opening_cores nodes config) log

-- the master after these events
abbrev pub state_after : MasterState → List RunEvent → MasterState
state_after state (ByMaster event ∷ events) = state_after event.after events
state_after state (ByNode event ∷ events) = state_after state events
state_after state (ByLink event ∷ events) = state_after state events
state_after state (Opens group ∷ events) = state_after state events
state_after state [] = state

-- the master by a log of a group that opens like this
abbrev pub master_in : Config → List RunEvent → MasterState
master_in config log = state_after (opening_master max_node config) log

-- ---- messages

-- the messages that an event sends or brings, each with its receiver
abbrev pub sent_by : RunEvent → List (ℕ × Message Command)
sent_by (ByNode event) = messages event.given
sent_by (ByMaster event) = (event.receiver, event.message) ∷ []
sent_by (ByLink event) = (event.receiver, event.message) ∷ []
sent_by (Opens group) = []

-- all messages that were ever sent or brought
abbrev pub sent_in : List RunEvent → List (ℕ × Message Command)
sent_in (event ∷ events) = sent_by event ++ sent_in events
sent_in [] = []

-- ---- parties

-- the number of the party that does an event; the opening is done by none, and what links bring
-- counts as the master's, who is elsewhere then
abbrev pub party_of : RunEvent → ℕ
party_of (ByNode event) = event.node + 1
party_of (ByMaster event) = master
party_of (ByLink event) = master
party_of (Opens group) = master

-- whether an event is one of this party
abbrev pub is_by : ℕ → RunEvent → Bool
is_by party (Opens group) = false
is_by party event = party_of event == party

-- how many events of this party a log has
abbrev pub events_by : ℕ → List RunEvent → ℕ
events_by party (event ∷ events) =
    (if is_by party event then 1 else 0) + events_by party events
events_by party [] = 0

-- ---- items

-- the item on which an act is a step, if it is one
abbrev pub item_of_act : NodeAct → List Item
item_of_act (Takes item) = item ∷ []
item_of_act (HandsOver port) = []

-- the item on which an event is a step of a node, if it is one
abbrev pub item_of : RunEvent → List Item
item_of (ByNode event) = item_of_act event.act
item_of event = []

-- the items that the node of this number took, in order
abbrev pub items_taken : ℕ → List RunEvent → List Item
items_taken number (event ∷ events) =
    (if is_by number event then item_of event else []) ++ items_taken number events
items_taken number [] = []
