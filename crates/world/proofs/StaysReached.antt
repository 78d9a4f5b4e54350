-- Steps of nodes, one after another.
use Rattle.std.proofs.Common.{ℕ}
use Rattle.ballot_base.specs.declared.config.Config.{Config}
use Rattle.agreement.proofs.of_cut_logs.MomentsAgree.{has_agreed, nodes_agree}
use Rattle.world_base.specs.node_core.Core.{rules}
use Rattle.headline.specs.node_group.Group.{Group, moment_of_nodes}
use Rattle.headline.specs.node_group.Steps.{GroupTrace}
use Rattle.headline.specs.node_group.Steps.GroupTrace.{then_went}
use Rattle.headline.proofs.of_node_group.Ordered.{groups_keep_the_order}
use Rattle.world_nodes.specs.Nodes.{NodesState, NodesStandFor}
use Rattle.world.specs.Trace.{AreReached, StaysReached}
use Rattle.world_pipes.specs.clients.NodesGoOn.{StepsOfGroup, NodesGo}
use Rattle.world_pipes.specs.clients.NodesGoOn.StepsOfGroup.{rests, goes_on}

-- ---- agreement

pub are_reached : (nodes : ℕ) (config : Config) (g : Group) (new : NodesState) → GroupTrace nodes config g → NodesStandFor g new → AreReached nodes config new
are_reached nodes config g new went stands =
    let order = groups_keep_the_order nodes config g went in
    let list = has_agreed rules config (moment_of_nodes g) order.of.earlier order.of.moments in
    let agree = nodes_agree rules config (moment_of_nodes g) order.of.earlier list.0 order.of.moments list.1 in
    record {
      group = g;
      went = went;
      stands = stands;
      order = order;
      list = list.0;
      agreed = list.1;
      agrees = agree.0;
      holds = agree.1;
      leaves = agree.2;
    }

went_on : (nodes : ℕ) (config : Config) (g h : Group) → GroupTrace nodes config g → StepsOfGroup g h → GroupTrace nodes config h
went_on nodes config g h went rests = went
went_on nodes config g h went (goes_on goes step) = then_went (went_on nodes config g _ went goes) step

pub stays_reached : (old new : NodesState) → NodesGo old new → StaysReached old new
stays_reached old new go nodes config reached =
    let to = go reached.group reached.stands in
    are_reached nodes config to.after new (went_on nodes config reached.group to.after reached.went to.goes) to.stands
