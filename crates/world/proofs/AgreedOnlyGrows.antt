-- AgreedOnlyGrows.antt: what nodes agreed on before is a prefix of what they agree on then.
use Rattle.std.proofs.Common.{ℕ, List, ◌∷◌, ◌++◌, sym, ap, ◌∙◌, subst}
use Rattle.lists.specs.Lists.{IsPrefixOf}
use Rattle.lists.specs.Lists.In.{here}
use Rattle.lists.proofs.Prefixes.{prefix_same, prefix_then}
use Rattle.ballot_base.specs.declared.config.Config.{Config}
use Rattle.agreement.specs.cut_logs.Moments.{IsAgreed, Moment}
use Rattle.agreement.proofs.of_cut_logs.MomentsAgree.{has_agreed, nodes_agree}
use Rattle.broker_spec.specs.declared.command.Command.{Command}
use Rattle.broker_spec.specs.declared.command.Output.{Output}
use Rattle.broker_base.specs.State.{State}
use Rattle.world_base.specs.node_core.Core.{rules}
use Rattle.headline.specs.node_group.Group.{Group, moment_of_nodes}
use Rattle.headline.specs.node_group.Steps.{GroupTrace, all_proposed, groups_on_trace, put_in_step}
use Rattle.headline.specs.node_group.Steps.GroupTrace.{then_went}
use Rattle.headline.specs.node_group.Order.{KeepsOrder}
use Rattle.headline.specs.node_group.GroupMoments.{HasMoments, packets_in}
use Rattle.headline.proofs.of_node_group.GroupsHaveMoments.{goes_on as moments_go_on, seen_still}
use Rattle.headline.proofs.of_node_group.NamesInGroups.{puts_in_the_ballot_of_the_name}
use Rattle.headline.proofs.of_node_group.Ordered.{groups_keep_the_order, in_agreed}
use Rattle.headline.proofs.of_node_group.Packets.{packets_join}
use Rattle.world_nodes.specs.Nodes.{NodesState}
use Rattle.world.specs.Trace.{AgreedListGrows}
use Rattle.world_pipes.specs.clients.NodesGoOn.{StepsOfGroup, NodesGo}
use Rattle.world_pipes.specs.clients.NodesGoOn.StepsOfGroup.{rests, goes_on}
use Rattle.world.proofs.OneAgreed.{one_agreed}

-- A group that continued from another: its moments continue those of that one.
record LeadsOn (nodes : ℕ) (config : Config) (g : Group) (earlier : List (Moment State Command Output)) (h : Group) : Type 0 where
  pub went : GroupTrace nodes config h
  pub of : HasMoments config h (groups_on_trace went) (all_proposed went)
  pub grows : (xs ys : List Command) → IsAgreed config (moment_of_nodes g ∷ earlier) xs → IsAgreed config (moment_of_nodes h ∷ of.earlier) ys → IsPrefixOf xs ys

leads_on : (nodes : ℕ) (config : Config) (g h : Group) (went : GroupTrace nodes config g) (of : HasMoments config g (groups_on_trace went) (all_proposed went)) → StepsOfGroup g h
    → LeadsOn nodes config g of.earlier h
leads_on nodes config g h went of rests =
    record {
      went = went;
      of = of;
      grows = λ xs ys before after. subst (λ (l : List Command). IsPrefixOf xs l) (one_agreed config (moment_of_nodes g ∷ of.earlier) xs ys before after) (prefix_same xs);
    }
leads_on nodes config g k went of (goes_on {next = h} goes step) =
    let so_far = leads_on nodes config g h went of goes in
    let further = moments_go_on config h k step so_far.of.earlier so_far.of.moments in
    let between = has_agreed rules config (moment_of_nodes h) so_far.of.earlier so_far.of.moments in
    record {
      went = then_went so_far.went step;
      of = record {
        earlier = further.before;
        moments = further.moments;
        proposed = further.proposed ∙ ap (λ l. l ++ put_in_step step) so_far.of.proposed;
        taken = λ x.
            further.taken x ∙ ap (λ l. l ++ packets_in x (put_in_step step)) (so_far.of.taken x) ∙ sym (packets_join x (all_proposed so_far.went) (put_in_step step));
        seen = (here, seen_still (groups_on_trace so_far.went) further.kept so_far.of.seen);
      };
      grows = λ xs ys before after. prefix_then (so_far.grows xs between.0 before between.1) (further.grows between.0 ys between.1 after);
    }

pub agreed_grows : (old new : NodesState) → NodesGo old new → AgreedListGrows old new
agreed_grows old new go nodes config before =
    let to = go before.group before.stands in
    let on = leads_on nodes config before.group to.after before.went before.order.of to.goes in
    let order : KeepsOrder config to.after (groups_on_trace on.went) (all_proposed on.went) = record {
      of = on.of;
      logs = (groups_keep_the_order nodes config to.after on.went).logs;
      agreed = λ x xs is. in_agreed config to.after (groups_on_trace on.went) (all_proposed on.went) on.of (puts_in_the_ballot_of_the_name nodes config to.after on.went) x xs is;
    } in
    let list = has_agreed rules config (moment_of_nodes to.after) on.of.earlier on.of.moments in
    let agree = nodes_agree rules config (moment_of_nodes to.after) on.of.earlier list.0 on.of.moments list.1 in (
      record {
        group = to.after;
        went = on.went;
        stands = to.stands;
        order = order;
        list = list.0;
        agreed = list.1;
        agrees = agree.0;
        holds = agree.1;
        leaves = agree.2;
      },
      on.grows before.list list.0 before.agreed list.1,
    )
