-- The connection of a client that comes back opens at the new primary, and awaits its CONNECT there.
use Rattle.std.proofs.Common.{◌≡◌, ◌⊎◌, inl, inr, ◌<◌, ◌≤◌, ◌^◌, ℕ, ◌+◌, Bool, true, not, List, [], ◌++◌, map, Some, sym, ap, ◌∙◌, subst, arith}
use Rattle.std.specs.Prelude.{slice_get, slice_set, ◌&&◌}
use Rattle.std.specs.List.{find}
use Rattle.std.proofs.lemmas.Bool.{cases_eq}
use Rattle.std.proofs.lemmas.List.{append-nil}
use Rattle.lists.proofs.Places.{get_set, get_set_other}
use Rattle.ballot_base.specs.Replica.{CountedReplica, is_active}
use Rattle.broker_spec.specs.declared.command.Command.{Command}
use Rattle.broker_spec.specs.Connection.{ConnectionName}
use Rattle.broker_spec.specs.declared.command.Output.{Output}
use Rattle.broker_base.specs.State.{State}
use Rattle.recovery.specs.one_node.Delivery.{ReportsItsLosses}
use Rattle.recovery.specs.one_node.Opening.{first_name_of_node, with_first_connection}
use Rattle.recovery.specs.one_node.AwaitedAnswer.{AwaitsConnect}
use Rattle.headline.specs.node_group.Group.{replica_of}
use Rattle.headline.specs.node_moves.Moves.NodeCall.{takes, hands_out}
use Rattle.agreement.specs.cut_logs.Moments.{Moment}
use Rattle.agreement.specs.cut_logs.Whole.{whole}
use Rattle.agreement.specs.cut_logs.World.{messages}
use Rattle.world_base.specs.declared.node_core.item.Item.TheVariants.{Opened}
use Rattle.world_base.specs.declared.node_connections.port.Port.{Port}
use Rattle.world_base.specs.node_connections.Connections.{is_open_named}
use Rattle.world_base.specs.node_core.Core.{CoreState, CountedCore, StepOutcome, serves}
use Rattle.world_base.specs.node_core.PortOutput.{hands_over}
use Rattle.world_base.specs.node_core.Step.{node_step}
use Rattle.world_base.specs.node_core.Effects.{without_messages}
use Rattle.headline.proofs.of_node_moves.LossesReported.{each_loss_is_reported}
use Rattle.recovery.proofs.of_one_node.AnswerAwaited.{first_awaits_connect, handing_keeps_the_connect}
use Rattle.recovery.proofs.of_one_node.FirstOpened.{first_is_opened}
use Rattle.world_nodes.specs.ExactSteps.{after_node_call}
use Rattle.world_nodes.specs.Nodes.{NodesState, cores_of}
use Rattle.recovery.specs.replicas.LedStates.{LeadsWhole}
use Rattle.world_nodes.specs.recoveries.Deliveries.{AreCalm, Come, IsSeen}
use Rattle.world_nodes.specs.recoveries.Deliveries.Come.{all_came as none_comes, hands}
use Rattle.world_nodes.specs.recoveries.Opened.{CanOpen, ConnectionsOpenFirst, IsOpened, first_of}
use Rattle.world_nodes.proofs.of_recoveries.NodesFollow.{IsCalmOrLow, hands_calm, hands_keep, hands_seen, nodes_set, set_calm, set_same_replica, some_one}

-- a primary that leads its ballot serves clients, and each failed connection is reported to the
-- broker
calm_there : (ballot : ℕ) (node : CountedCore) → node.core.replica.state.joined ≡ ballot → IsCalmOrLow ballot node → ReportsItsLosses node.core
calm_there ballot node same (inl calm) = calm
calm_there ballot node same (inr low) = absurd (omega (arith, same, low))

module _ (a : Moment State Command Output) (n : NodesState) (ballot index : ℕ) (node : CountedCore) (others_of : List ℕ) (log : List Command) (port : Port) (now : ℕ)
    (can : CanOpen a n ballot index node others_of log port) where
  abbrev core : CoreState
  core = node.core

  joined : core.replica.state.joined ≡ ballot
  joined = can.serves.leads.joined

  named : first_name_of_node core ≡ first_of ballot
  named = ap first_of joined

  leads : serves core ≡ true
  leads = ap (λ (b : Bool). b && not core.replica.state.stopped) (ap is_active can.serves.leads.role) ∙ ap not can.serves.leads.runs

  step : node_step (Opened port now) core ≡ without_messages (with_first_connection port core)
  step =
      first_is_opened core port now leads (calm_there ballot node joined (can.calm index node can.stands))
      (subst (λ (b : ℕ). core.last_name.ballot < b) (sym joined) can.low) (subst (λ (b : ℕ). b ≤ 2 ^ 32) (sym joined) can.most) can.free

  abbrev after : CountedCore
  after = record node { core = (node_step (Opened port now) core).core }

  same : after.core.replica ≡ core.replica
  same = ap (λ (t : StepOutcome). t.core.replica) step

  pub opened_first : IsOpened a (after_node_call index node (takes (Opened port now)) n) ballot index others_of log port
  opened_first =
      record {
        seen = record {
          master = can.seen.master;
          nodes = can.seen.nodes ∙ sym (nodes_set n.nodes index after ∙ ap (λ (r : CountedReplica State Command). slice_set (map replica_of (cores_of n.nodes)) index r.state) same
              ∙ set_same_replica n index node can.stands);
          sent = can.seen.sent ∙ sym (ap (λ (t : StepOutcome). n.sent ++ messages t.messages) step ∙ append-nil n.sent);
          archive = can.seen.archive;
        };
        calm = set_calm ballot n.nodes index node after can.stands (inl (each_loss_is_reported (Opened port now) core)) can.calm;
        node = after;
        stands = get_set n.nodes index node after can.stands;
        serves = subst (λ (r : CountedReplica State Command). LeadsWhole ballot log others_of (index + 1) (whole a.world.archive r.state)) (sym same) can.serves;
        awaits = subst (λ (x : ConnectionName). AwaitsConnect port x after.core) named
            (subst (λ (t : StepOutcome). AwaitsConnect port (first_name_of_node core) t.core) (sym step)
            (first_awaits_connect port core can.free (ap (λ (x : ConnectionName). find (is_open_named x) core.connections) named ∙ can.unnamed)));
      }

-- it still awaits it when bytes are handed over
handed : (a : Moment State Command Output) (n : NodesState) (ballot index : ℕ) (others_of : List ℕ) (log : List Command) (port : Port) (at : ℕ) (other : CountedCore) (p : Port) →
    slice_get n.nodes at ≡ Some other → IsOpened a n ballot index others_of log port → IsOpened a (after_node_call at other (hands_out p) n) ballot index others_of log port
handed a n ballot index others_of log port at other p there o = by (cases_eq index at)
  where
    after : CountedCore
    after = record other { core = hands_over p other.core }

    seen : IsSeen a (after_node_call at other (hands_out p) n)
    seen = hands_seen a n at other p there o.seen

    calm : AreCalm ballot (after_node_call at other (hands_out p) n)
    calm = hands_calm ballot n at other p there o.calm

    by : (index ≡ at) ⊎ (index ≡ at → ⊥) → IsOpened a (after_node_call at other (hands_out p) n) ballot index others_of log port
    by (inr apart) =
        record { seen = seen; calm = calm; node = o.node; stands = get_set_other n.nodes at index after apart ∙ o.stands; serves = o.serves; awaits = o.awaits }
    by (inl same) =
        let one : o.node ≡ other = some_one (slice_get n.nodes at) o.node other (ap (slice_get n.nodes) (sym same) ∙ o.stands) there in
        record {
          seen = seen;
          calm = calm;
          node = after;
          stands = ap (slice_get (slice_set n.nodes at after)) same ∙ get_set n.nodes at other after there;
          serves = subst (λ (r : CountedReplica State Command). LeadsWhole ballot log others_of (index + 1) (whole a.world.archive r.state)) (sym (hands_keep p other.core).0)
              (subst (λ (c : CountedCore). LeadsWhole ballot log others_of (index + 1) (whole a.world.archive (replica_of c.core))) one o.serves);
          awaits = handing_keeps_the_connect port p (first_of ballot) other.core (subst (λ (c : CountedCore). AwaitsConnect port (first_of ballot) c.core) one o.awaits);
        }

opened_still : (a : Moment State Command Output) (n new : NodesState) (ballot index : ℕ) (others_of : List ℕ) (log : List Command) (port : Port) → Come n [] new →
    IsOpened a n ballot index others_of log port → IsOpened a new ballot index others_of log port
opened_still a n new ballot index others_of log port none_comes o = o
opened_still a n new ballot index others_of log port (hands at other p there more) o =
    opened_still a _ new ballot index others_of log port more (handed a n ballot index others_of log port at other p there o)

pub connections_open_first : ConnectionsOpenFirst
connections_open_first a n new ballot index node others_of log port now can comes =
    opened_still a _ new ballot index others_of log port comes (opened_first a n ballot index node others_of log port now can)
