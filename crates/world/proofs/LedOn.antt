-- Nodes to which messages come, or that hand over bytes, run on; the primary of a ballot stands at
-- its index and leads on.
use Rattle.std.proofs.Common.{◌≡◌, ◌⊎◌, inl, inr, ◌+◌, ℕ, zero, suc, Bool, true, false, not, List, [], ◌∷◌, Some, refl, sym, ap, ◌∙◌, subst, arith}
use Rattle.std.specs.Prelude.{slice_get, slice_set, ◌&&◌}
use Rattle.std.specs.List.{list_all}
use Rattle.std.proofs.lemmas.Bool.{and_from, cases_eq}
use Rattle.agreement.specs.cut_logs.Moments.{Moment, whole_moment}
use Rattle.agreement.specs.cut_logs.Whole.{whole}
use Rattle.agreement.specs.whole_logs.Replica.{ReplicaState as WholeState}
use Rattle.ballot_base.specs.declared.message.Body.TheVariants.{Held}
use Rattle.ballot_base.specs.declared.message.Message.{Message}
use Rattle.ballot_base.specs.Replica.{CountedReplica, ReplicaState, is_active}
use Rattle.broker_base.specs.State.{State}
use Rattle.broker_spec.specs.declared.command.Command.{Command}
use Rattle.broker_spec.specs.declared.command.Output.{Output}
use Rattle.headline.specs.node_group.Group.{replica_of}
use Rattle.headline.specs.node_moves.Moves.NodeCall.{takes, hands_out}
use Rattle.lists.specs.Lists.{In}
use Rattle.lists.specs.Lists.In.{here, there}
use Rattle.lists.proofs.Places.{get_set, get_set_other}
use Rattle.recovery.specs.replicas.Deliveries.{NodeIs}
use Rattle.recovery.specs.replicas.LedStates.{Follows}
use Rattle.world_base.specs.declared.node_connections.port.Port.{Port}
use Rattle.world_base.specs.declared.node_core.item.Item.TheVariants.{Bytes, Peer}
use Rattle.world_base.specs.node_core.Core.{CoreState, CountedCore, serves}
use Rattle.world_base.specs.node_core.PortOutput.{hands_over}
use Rattle.world_base.specs.node_core.Step.{node_step}
use Rattle.world_nodes.specs.ExactSteps.{after_node_call}
use Rattle.world_nodes.specs.Nodes.{NodesState, cores_of}
use Rattle.world_nodes.specs.recoveries.Deliveries.{Come, IsSeen}
use Rattle.world_nodes.specs.recoveries.Deliveries.Come.{all_came as none_comes, to_node as comes_to_node, to_master as comes_to_master, hands}
use Rattle.world_nodes.specs.RunningNodes.{is_running, is_up}
use Rattle.world_nodes.proofs.of_recoveries.NodesFollow.{hands_keep, some_one}
use Rattle.world_pipes.proofs.of_clients.Turned.{mapped_from}
use Rattle.world.proofs.RunsOn.{IsLeading, bytes_same, heard_keeps, leading_held, leading_same}

-- ---- whoever ran runs on

abbrev pub RunOn : NodesState → NodesState → Type 0
RunOn old new = (m : ℕ) → is_running old.nodes m ≡ true → is_running new.nodes m ≡ true

running_set : (nodes : List CountedCore) (at : ℕ) (old new : CountedCore) → slice_get nodes at ≡ Some old → new.core.replica.state.stopped ≡ old.core.replica.state.stopped → (m : ℕ) →
    is_running nodes m ≡ true → is_running (slice_set nodes at new) m ≡ true
running_set nodes at old new found kept zero e = cc
running_set nodes at old new found kept (suc i) e = by (cases_eq i at)
  where
    by : (i ≡ at) ⊎ (i ≡ at → ⊥) → is_running (slice_set nodes at new) (suc i) ≡ true
    by (inl same) =
        ap is_up (ap (slice_get (slice_set nodes at new)) same ∙ get_set nodes at old new found)
        ∙ ap not kept
        ∙ sym (ap is_up (ap (slice_get nodes) same ∙ found))
        ∙ e
    by (inr other) = ap is_up (get_set_other nodes at i new other) ∙ e

pub come_runs : (n new : NodesState) (ks : List ℕ) → Come n ks new → RunOn n new
come_runs n new ks none_comes m e = e
come_runs n new ks (comes_to_node k at node message came found going more) m e =
    come_runs _ new _ more m
    (running_set n.nodes at node (record node { core = (node_step (Peer message) node.core).core }) found (heard_keeps message node.core going) m e)
come_runs n new ks (comes_to_master k from asked came more) m e = come_runs _ new _ more m e
come_runs n new ks (hands at node port found more) m e =
    come_runs _ new _ more m
    (running_set n.nodes at node (record node { core = hands_over port node.core }) found
    (ap (λ (r : CountedReplica State Command). r.state.stopped) (hands_keep port node.core).0) m e)

pub bytes_run_on : (n : NodesState) (at : ℕ) (node : CountedCore) (port : Port) (piece : List ℕ) (now : ℕ) → slice_get n.nodes at ≡ Some node →
    RunOn n (after_node_call at node (takes (Bytes port piece now)) n)
bytes_run_on n at node port piece now found m e =
    running_set n.nodes at node (record node { core = (node_step (Bytes port piece now) node.core).core }) found (bytes_same port piece now node.core).stopped m e

-- who follows in the model runs
pub follower_runs : (a : Moment State Command Output) (n : NodesState) → IsSeen a n → (ballot : ℕ) (log : List Command) (m : ℕ) →
    NodeIs (Follows ballot log) (whole_moment a).world.nodes m → is_running n.nodes m ≡ true
follower_runs a n seen ballot log m f =
    let q = mapped_from (whole a.world.archive) a.world.nodes f.index f.replica f.stands in
    let core = mapped_from replica_of (cores_of n.nodes) f.index q.x
    (ap (λ (xs : List (ReplicaState State Command)). slice_get xs f.index) (sym seen.nodes) ∙ q.found) in
    let node = mapped_from (λ (c : CountedCore). c.core) n.nodes f.index core.x core.found in
    let runs : node.x.core.replica.state.stopped ≡ false =
    ap (λ (c : CoreState). c.replica.state.stopped) node.is
    ∙ ap (λ (r : ReplicaState State Command). r.stopped) core.is
    ∙ ap (λ (r : WholeState State Command). r.stopped) q.is
    ∙ f.is.runs in
    subst (λ (k : ℕ). is_running n.nodes k ≡ true) (sym (f.number ∙ (let e : f.index + 1 ≡ suc f.index = omega arith in e))) (ap is_up node.found ∙ ap not runs)

pub all_pass : (test : ℕ → Bool) (xs : List ℕ) → ((x : ℕ) → In x xs → test x ≡ true) → list_all test xs ≡ true
all_pass test [] each = refl
all_pass test (x ∷ xs) each = and_from (test x) (list_all test xs) (each x here) (all_pass test xs (λ y i. each y (there i)))

-- ---- the primary

-- the node at an index leads the ballot
pub record IsLedAt (ballot place : ℕ) (n : NodesState) : Type 0 where
  pub node : CountedCore
  pub stands : slice_get n.nodes place ≡ Some node
  pub leads : IsLeading ballot node.core.replica.state

pub led_serves : (ballot place : ℕ) (n : NodesState) (l : IsLedAt ballot place n) → serves l.node.core ≡ true
led_serves ballot place n l =
    ap (λ (b : Bool). b && not l.node.core.replica.state.stopped) (ap is_active l.leads.role) ∙ ap not l.leads.runs

pub led_runs : (ballot place : ℕ) (n : NodesState) → IsLedAt ballot place n → is_running n.nodes (suc place) ≡ true
led_runs ballot place n l = ap is_up l.stands ∙ ap not l.leads.runs

pub led_handed : (ballot place : ℕ) (n new : NodesState) → Come n [] new → IsLedAt ballot place n → IsLedAt ballot place new
led_handed ballot place n new none_comes l = l
led_handed ballot place n new (hands at node port found more) l = led_handed ballot place _ new more (by (cases_eq place at))
  where
    after : CountedCore
    after = record node { core = hands_over port node.core }

    by : (place ≡ at) ⊎ (place ≡ at → ⊥) → IsLedAt ballot place (after_node_call at node (hands_out port) n)
    by (inr other) = record { node = l.node; stands = get_set_other n.nodes at place after other ∙ l.stands; leads = l.leads }
    by (inl same) =
        let one : l.node ≡ node = some_one (slice_get n.nodes at) l.node node (ap (slice_get n.nodes) (sym same) ∙ l.stands) found in
        record {
          node = after;
          stands = ap (slice_get (slice_set n.nodes at after)) same ∙ get_set n.nodes at node after found;
          leads = subst (λ (r : CountedReplica State Command). IsLeading ballot r.state) (sym (hands_keep port node.core).0)
              (subst (λ (c : CountedCore). IsLeading ballot c.core.replica.state) one l.leads);
        }

pub led_bytes : (ballot place : ℕ) (n : NodesState) (node : CountedCore) (port : Port) (piece : List ℕ) (now : ℕ) → slice_get n.nodes place ≡ Some node → IsLeading ballot node.core.replica.state →
    IsLedAt ballot place (after_node_call place node (takes (Bytes port piece now)) n)
led_bytes ballot place n node port piece now found l =
    let after : CountedCore = record node { core = (node_step (Bytes port piece now) node.core).core } in
    record {
      node = after;
      stands = get_set n.nodes place node after found;
      leads = leading_same ballot node.core.replica.state after.core.replica.state (bytes_same port piece now node.core) l;
    }

pub led_held : (ballot place : ℕ) (n : NodesState) (node : CountedCore) (from b held : ℕ) → slice_get n.nodes place ≡ Some node → IsLedAt ballot place n →
    IsLedAt ballot place (after_node_call place node (takes (Peer (record { from = from; body = Held b held }))) n)
led_held ballot place n node from b held found l =
    let message : Message Command = record { from = from; body = Held b held } in
    let after : CountedCore = record node { core = (node_step (Peer message) node.core).core } in
    let one : l.node ≡ node = some_one (slice_get n.nodes place) l.node node l.stands found in
    record {
      node = after;
      stands = get_set n.nodes place node after found;
      leads = leading_held ballot from b held node.core (subst (λ (c : CountedCore). IsLeading ballot c.core.replica.state) one l.leads);
    }
