-- A client's connection waits for its answer while messages come to others, and then the answer goes down first.
use Rattle.std.proofs.Common.{◌≡◌, ◌⊎◌, inl, inr, ◌<◌, ◌+◌, ℕ, suc, Bool, true, false, not, if◌then◌else◌, List, [], ◌∷◌, Option, Some, map, refl, sym, ap, ◌∙◌, subst, arith}
use Rattle.std.specs.Prelude.{slice_get}
use Rattle.std.proofs.lemmas.Bool.{and_parts, cases_eq}
use Rattle.ballot_base.specs.declared.message.Body.TheVariants.{Activate}
use Rattle.ballot_base.specs.declared.message.Message.{Message}
use Rattle.ballot_base.specs.Protocol.{received}
use Rattle.broker_spec.specs.declared.command.Command.{Command}
use Rattle.broker_spec.specs.Connection.{ConnectionName, same_connection}
use Rattle.broker_spec.specs.declared.command.Output.{Output}
use Rattle.broker_base.specs.State.{State}
use Rattle.client.specs.Core.{Core}
use Rattle.recovery.specs.replicas.CutDeliveries.{Delivered, after_activate, after_outcome}
use Rattle.recovery.specs.replicas.CutDeliveries.Delivered.{all_came, to_node, to_master}
use Rattle.recovery.specs.one_node.AwaitedAnswer.{AwaitsAnswer}
use Rattle.world_nodes.specs.recoveries.Deliveries.{AreCalm, IsSeen}
use Rattle.world_nodes.specs.recoveries.Deliveries.Come.{all_came as none_comes, to_node as comes_to_node}
use Rattle.world_nodes.proofs.of_recoveries.ClientAnswered.{StillWaits, waits_on}
use Rattle.world_nodes.proofs.of_recoveries.NodesFollow.{deliveries_are_followed}
use Rattle.agreement.specs.cut_logs.Moments.{Moment}
use Rattle.headline.specs.node_moves.Moves.NodeCall.{takes}
use Rattle.headline.proofs.of_node_moves.Views.{found_passes}
use Rattle.world_base.specs.declared.node_connections.connection.Connection.{Connection}
use Rattle.world_base.specs.declared.node_connections.handed.Handed.{Handed}
use Rattle.world_base.specs.declared.node_connections.handed.Handed.TheVariants as answers
use Rattle.world_base.specs.declared.node_connections.port.Port.{Port}
use Rattle.world_base.specs.declared.node_core.item.Item.TheVariants.{Peer}
use Rattle.world_base.specs.node_connections.Connections.{is_open_named, is_closed}
use Rattle.world_base.specs.node_core.Core.{CountedCore, rules}
use Rattle.world_base.specs.node_connections.PendingOutput.{handed_after, pending_bytes}
use Rattle.world_nodes.specs.ExactSteps.{after_answer, after_node_call}
use Rattle.world_nodes.specs.RunningNodes.{numbered_node}
use Rattle.world_nodes.specs.Nodes.{NodesState}
use Rattle.world_pipes.specs.declared.events.event.Event.TheVariants as events
use Rattle.world.specs.Found.{port_at_node}
use Rattle.world.specs.NodeOutput.{Gathers}
use Rattle.world_pipes.specs.clients.NodeOutput.{is_more, is_reported_open, bytes_put_out}
use Rattle.world.specs.Trace.{WorldLosesNothing}
use Rattle.world.specs.Events.{EventsHappen}
use Rattle.world_pipes.specs.clients.SlotsAreValid.{SlotsAreValid, targets_of_clients}
use Rattle.world.specs.World.{WorldState}
use Rattle.world.proofs.DeliversOn.{at_master, at_master_is, at_node, can_ask, can_reach, sent_to}
use Rattle.world.proofs.ExactRuns.{first_done}
use Rattle.world.proofs.GroupGoes.{with_nodes}
use Rattle.world.proofs.PassesOn.{Passes, passes_join, passes_rest}
use Rattle.world.proofs.StandsOn.{IsNewest, elsewhere_gathered, own_gathered}

-- ---- a node that awaits an answer has nothing to hand over, and its end is open

open_stage : (x : ConnectionName) (c : Connection) → is_open_named x c ≡ true → is_closed c.stage ≡ false
open_stage x c e = by (is_closed c.stage) (and_parts (not (is_closed c.stage)) (same_connection c.name x) e).0
  where
    by : (b : Bool) → not b ≡ true → b ≡ false
    by true f = cc
    by false f = refl

module _ (port : Port) (x : ConnectionName) (node : CountedCore) (w : AwaitsAnswer port x node.core) where
  pub nothing_out : bytes_put_out port (Some node) ≡ []
  nothing_out = ap pending_bytes w.listed ∙ w.none

  pub told_open : is_reported_open port (Some node) ≡ true
  told_open =
      ap (λ (o : Option Connection). is_more (handed_after o)) w.listed
      ∙ ap (λ (b : Bool). is_more (let h : Handed = if b then answers.Closed else answers.Open in h))
      (open_stage x w.connection (found_passes (is_open_named x) node.core.connections w.connection w.named))

-- ---- the world with other nodes has the same connections

pub newest_with : (i at number node : ℕ) (core : Core) (up down : List ℕ) (is_open : Bool) (old : WorldState) (nodes : NodesState) → IsNewest i at number node core up down is_open old →
    IsNewest i at number node core up down is_open (with_nodes nodes old)
newest_with i at number node core up down is_open old nodes s =
    record {
      client = s.client;
      found = s.found;
      core_is = s.core_is;
      pair = s.pair;
      stands = s.stands;
      many = s.many;
      up_is = s.up_is;
      down_is = s.down_is;
      place = s.place;
      last = s.last;
    }

-- what its own node hands over while it waits is nothing
pub own_waits : (i at number place : ℕ) (core : Core) (up : List ℕ) (x : ConnectionName) (old new : WorldState) (node : CountedCore) → 0 < number →
    slice_get old.nodes.nodes place ≡ Some node → AwaitsAnswer (port_at_node number) x node.core → Gathers true (suc place) old new →
    SlotsAreValid (targets_of_clients old.clients) old.connections → IsNewest i at number (suc place) core up [] true old → IsNewest i at number (suc place) core up [] true new
own_waits i at number place core up x old new node positive there w g housed s =
    subst (λ (l : List ℕ). IsNewest i at number (suc place) core up l true new) (ap (bytes_put_out (port_at_node number)) there ∙ nothing_out (port_at_node number) x node w)
    (subst (λ (b : Bool). IsNewest i at number (suc place) core up (bytes_put_out (port_at_node number) (numbered_node old.nodes.nodes (suc place))) b new)
    (ap (is_reported_open (port_at_node number)) there ∙ told_open (port_at_node number) x node w)
    (own_gathered i at number (suc place) core up positive [] old new (omega arith) g housed s))

-- ---- while messages come

pub record Waits (ballot place : ℕ) (x : ConnectionName) (i at number : ℕ) (core : Core) (up : List ℕ) (ks : List ℕ) (old new : WorldState) : Type 0 where
  pub passes : Passes ks old new
  pub waits : StillWaits ballot place (port_at_node number) x new.nodes
  pub newest : IsNewest i at number (suc place) core up [] true new

module _ (ballot place : ℕ) (x : ConnectionName) (i at number : ℕ) (core : Core) (up : List ℕ) (positive : 0 < number) where
  -- one comes to a node
  one_waits : (a : Moment State Command Output) (k to : ℕ) (m : Message Command) (c : Moment State Command Output) → Delivered rules ballot a (k ∷ []) c → (old new : WorldState)
      (node : CountedCore) → slice_get old.nodes.sent k ≡ Some (to + 1, m) → slice_get old.nodes.nodes to ≡ Some node → node.core.replica.state.stopped ≡ false →
      Gathers true (suc to) (with_nodes (after_node_call to node (takes (Peer m)) old.nodes) old) new → IsSeen a old.nodes → AreCalm ballot old.nodes →
      SlotsAreValid (targets_of_clients old.clients) old.connections → StillWaits ballot place (port_at_node number) x old.nodes → IsNewest i at number (suc place) core up [] true old →
      IsNewest i at number (suc place) core up [] true new
  one_waits a k to m c d old new node came there runs g seen calm housed w s =
      by (cases_eq place to) (waits_on ballot place (port_at_node number) x a c (k ∷ []) d old.nodes after (comes_to_node k to node m came there runs none_comes) seen calm w)
    where
      after : NodesState
      after = after_node_call to node (takes (Peer m)) old.nodes

      by : (place ≡ to) ⊎ (place ≡ to → ⊥) → StillWaits ballot place (port_at_node number) x after → IsNewest i at number (suc place) core up [] true new
      by (inl same) v =
          own_waits i at number place core up x (with_nodes after old) new v.node positive v.stands v.waits
          (subst (λ (n : ℕ). Gathers true (suc n) (with_nodes after old) new) (sym same) g) housed (newest_with i at number (suc place) core up [] true old after s)
      by (inr apart) v =
          elsewhere_gathered i at number (suc place) core up positive (suc to) [] true (with_nodes after old) new (λ e. apart (omega (arith, e))) g housed
          (newest_with i at number (suc place) core up [] true old after s)

  pub walk_waiting : (a b : Moment State Command Output) (ks : List ℕ) → Delivered rules ballot a ks b → (old new : WorldState) → EventsHappen (map events.Deliver ks) old new →
      WorldLosesNothing old new → IsSeen a old.nodes → AreCalm ballot old.nodes → SlotsAreValid (targets_of_clients old.clients) old.connections →
      StillWaits ballot place (port_at_node number) x old.nodes → IsNewest i at number (suc place) core up [] true old → Waits ballot place x i at number core up ks old new
  walk_waiting a b ks all_came old new run none seen calm housed w s =
      subst (Waits ballot place x i at number core up [] old) (sym run) (record { passes = passes_rest old housed; waits = w; newest = s })
  walk_waiting a b ks (to_node {ks = rest} k to r m sent stands runs silent joined d) old new run none seen calm housed w s =
      let f = first_done (events.Deliver k) (map events.Deliver rest) old new run none (can_reach a old seen k to r m sent stands runs) in
      let came = sent_to a old seen k (to + 1) m sent in
      let n = at_node k to m old f.after came f.does housed in
      let c = after_outcome to (received rules r m.from m.body) a in
      let one : Delivered rules ballot a (k ∷ []) c = to_node k to r m sent stands runs silent joined all_came in
      let z = deliveries_are_followed ballot a c (k ∷ []) one old.nodes f.after.nodes n.passes.come seen calm in
      let more = walk_waiting c b rest d f.after new f.rest f.whole z.seen z.calm n.passes.housed
      (waits_on ballot place (port_at_node number) x a c (k ∷ []) one old.nodes f.after.nodes n.passes.come seen calm w)
      (one_waits a k to m c one old f.after n.node came n.there n.runs n.gathers seen calm housed w s) in
      record { passes = passes_join (k ∷ []) rest old f.after new n.passes more.passes; waits = more.waits; newest = more.newest }
  walk_waiting a b ks (to_master {ks = rest} k from asked sent d) old new run none seen calm housed w s =
      let f = first_done (events.Deliver k) (map events.Deliver rest) old new run none (can_ask a old seen k from asked sent) in
      let came = sent_to a old seen k 0 (record { from = from; body = Activate asked }) sent in
      let n = at_master k from asked old f.after came f.does housed in
      let c = after_activate from asked a in
      let one : Delivered rules ballot a (k ∷ []) c = to_master k from asked sent all_came in
      let z = deliveries_are_followed ballot a c (k ∷ []) one old.nodes f.after.nodes n.come seen calm in
      let more = walk_waiting c b rest d f.after new f.rest f.whole z.seen z.calm n.housed
      (waits_on ballot place (port_at_node number) x a c (k ∷ []) one old.nodes f.after.nodes n.come seen calm w)
      (subst (IsNewest i at number (suc place) core up [] true) (sym (at_master_is k from asked old f.after came f.does))
      (newest_with i at number (suc place) core up [] true old (after_answer from asked old.nodes) s)) in
      record { passes = passes_join (k ∷ []) rest old f.after new n more.passes; waits = more.waits; newest = more.newest }
