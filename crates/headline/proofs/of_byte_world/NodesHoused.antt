-- Each port that a node lists has its pipe, and each node's names are in order.
use Rattle.headline.proofs.of_node_group.NamesInGroups.{IsWell, all_well, each_got}
use Rattle.headline.specs.byte_world.AtNodes.{NodesAreOrderly, PortsHavePipes}
use Rattle.headline.specs.byte_world.Carried.{trace_of}
use Rattle.headline.proofs.of_byte_world.PipesInOrder.{reached_holds}

pub ports_have_pipes : PortsHavePipes
ports_have_pipes nodes config cs w trail n core d at i = (reached_holds w trail).used n core d at i

pub nodes_are_orderly : NodesAreOrderly
nodes_are_orderly nodes config cs w trail n core at =
    (each_got IsWell w.group.nodes n core (all_well nodes config w.group (trace_of trail)).0 at).orderly
