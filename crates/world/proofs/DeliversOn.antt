-- Messages come to their receivers exactly, one after another, as a way out of the model has them.
use Rattle.std.proofs.Common.{◌≡◌, ◌-◌, ◌+◌, ℕ, suc, Bool, true, false, if◌then◌else◌, List, [], ◌∷◌, Option, Some, None, map, refl, sym, ap, ◌∙◌, subst, arith}
use Rattle.std.specs.Prelude.{slice_get}
use Rattle.std.proofs.lemmas.Option.{none-some, same_Some}
use Rattle.ballot_base.specs.declared.message.Body.TheVariants.{Activate}
use Rattle.ballot_base.specs.declared.message.Message.{Message}
use Rattle.ballot_base.specs.Protocol.{received}
use Rattle.ballot_base.specs.Replica.{ReplicaState}
use Rattle.broker_spec.specs.declared.command.Command.{Command}
use Rattle.broker_spec.specs.declared.command.Output.{Output}
use Rattle.broker_base.specs.State.{State}
use Rattle.recovery.specs.replicas.CutDeliveries.{Delivered, after_activate, after_outcome}
use Rattle.recovery.specs.replicas.CutDeliveries.Delivered.{all_came, to_node, to_master}
use Rattle.world_nodes.specs.recoveries.Deliveries.{AreCalm, Come, IsSeen}
use Rattle.world_nodes.specs.recoveries.Deliveries.Come.{all_came as none_comes, to_node as comes_to_node, to_master as comes_to_master}
use Rattle.world_nodes.proofs.of_recoveries.NodesFollow.{deliveries_are_followed}
use Rattle.headline.specs.node_group.Group.{replica_of}
use Rattle.agreement.specs.cut_logs.Moments.{Moment}
use Rattle.headline.specs.node_moves.Moves.NodeCall.{takes}
use Rattle.lists.specs.Lists.{In}
use Rattle.lists.proofs.Members.{in_at}
use Rattle.world_base.specs.node_core.Core.{CoreState, CountedCore, rules}
use Rattle.world_base.specs.declared.node_core.item.Item.TheVariants.{Peer}
use Rattle.world_nodes.specs.ExactSteps.{MessageArrives, ComesToNobody, TakesExactly, after_answer, after_node_call}
use Rattle.world_nodes.specs.RunningNodes.{running, unless_stopped}
use Rattle.world_nodes.specs.Nodes.{NodesState, cores_of}
use Rattle.world_nodes.proofs.Acts.{acts}
use Rattle.world_nodes.proofs.MasterActs.{answers_exactly}
use Rattle.world_pipes.specs.declared.events.event.Event.TheVariants as events
use Rattle.world.specs.Cannot.{CannotHappen}
use Rattle.world.specs.EventSteps.{DoesEvent, receiver_of}
use Rattle.world.specs.NodeOutput.{Gathers}
use Rattle.world.specs.Trace.{WorldLosesNothing}
use Rattle.world.specs.Events.{EventsHappen}
use Rattle.world_pipes.specs.clients.SlotsAreValid.{SlotsAreValid, targets_of_clients}
use Rattle.world.specs.World.{WorldState}
use Rattle.world.proofs.ExactRuns.{first_done}
use Rattle.world.proofs.GroupGoes.{GoesApart, goes_apart, with_nodes}
use Rattle.world.proofs.GroupGoes.GoesApart.{acts as goes_by}
use Rattle.world.proofs.PassesOn.{Passes, gathers_passes, passes_join, passes_rest}
use Rattle.world_pipes.proofs.of_clients.Turned.{mapped_from}

-- ---- the nodes change, by a call in which connections have no part

pub passes_apart : (ks : List ℕ) (old : WorldState) (new : NodesState) → SlotsAreValid (targets_of_clients old.clients) old.connections → new.losses ≡ old.nodes.losses → GoesApart old.nodes new →
    Come old.nodes ks new → Passes ks old (with_nodes new old)
passes_apart ks old new housed same apart comes =
    let on = goes_apart old new (omega (arith, same)) apart in
    record { nodes = on.nodes.goes; world = on.goes; housed = housed; clients = refl; many = refl; come = comes }

-- ---- to a node

pub runs_there : (o : Option CountedCore) (c : CountedCore) → unless_stopped o ≡ Some c → (o ≡ Some c) × (c.core.replica.state.stopped ≡ false)
runs_there None c e = absurd (none-some c e)
runs_there (Some d) c e = by d.core.replica.state.stopped refl e
  where
    by : (b : Bool) → d.core.replica.state.stopped ≡ b → (if b then None else Some d) ≡ Some c → ((let o : Option CountedCore = Some d in o) ≡ Some c) × (c.core.replica.state.stopped ≡ false)
    by true f g = absurd (none-some c g)
    by false f g = (g, sym (ap (λ (z : CountedCore). z.core.replica.state.stopped) (same_Some d c g)) ∙ f)

-- a node took a message, and what it queued then went down
pub record AtNode (k at : ℕ) (message : Message Command) (old new : WorldState) : Type 0 where
  pub node : CountedCore
  pub there : slice_get old.nodes.nodes at ≡ Some node
  pub runs : node.core.replica.state.stopped ≡ false
  pub gathers : Gathers true (suc at) (with_nodes (after_node_call at node (takes (Peer message)) old.nodes) old) new
  pub passes : Passes (k ∷ []) old new

pub at_node : (k at : ℕ) (message : Message Command) (old new : WorldState) → slice_get old.nodes.sent k ≡ Some (at + 1, message) → DoesEvent true (events.Deliver k) old new →
    SlotsAreValid (targets_of_clients old.clients) old.connections → AtNode k at message old new
at_node k at message old new came d housed =
    record {
      node = t.core;
      there = runs.0;
      runs = runs.1;
      gathers = gathers;
      passes = passes_join (k ∷ []) [] old mid new
          (passes_apart (k ∷ []) old (after_node_call at t.core (takes (Peer message)) old.nodes) housed refl
          (goes_by (Some (at, takes (Peer message))) refl
          (acts old.nodes at t.core (takes (Peer message)) runs.0 (λ g s. subst (λ (l : List (ℕ × Message Command)). In (at + 1, message) l) (sym s.sent) (in_at old.nodes.sent k (at + 1, message) came))))
          (comes_to_node k at t.core message came runs.0 runs.1 none_comes))
          (gathers_passes (suc at) mid new gathers housed);
    }
  where
    here : slice_get old.nodes.sent k ≡ Some (suc at, message)
    here = came ∙ ap (λ (n : ℕ). let o : Option (ℕ × Message Command) = Some (n, message) in o) (let e : at + 1 ≡ suc at = omega arith in e)

    t : TakesExactly (suc at) (Peer message) old.nodes d.0
    t = subst (λ (o : Option (ℕ × Message Command)). MessageArrives o old.nodes d.0) here d.1

    runs : (slice_get old.nodes.nodes at ≡ Some t.core) × (t.core.core.replica.state.stopped ≡ false)
    runs = runs_there (slice_get old.nodes.nodes at) t.core t.runs

    mid : WorldState
    mid = with_nodes (after_node_call at t.core (takes (Peer message)) old.nodes) old

    is : d.0 ≡ after_node_call at t.core (takes (Peer message)) old.nodes
    is = t.is ∙ ap (λ (n : ℕ). after_node_call n t.core (takes (Peer message)) old.nodes) (let e : suc at - 1 ≡ at = omega arith in e)

    gathers : Gathers true (suc at) mid new
    gathers = subst (λ (n : NodesState). Gathers true (suc at) (with_nodes n old) new) is
        (subst (λ (o : Option (ℕ × Message Command)). Gathers true (receiver_of o) (with_nodes d.0 old) new) here d.2)

-- ---- to the master

pub at_master_is : (k from asked : ℕ) (old new : WorldState) → slice_get old.nodes.sent k ≡ Some (0, record { from = from; body = Activate asked }) → DoesEvent true (events.Deliver k) old new →
    new ≡ with_nodes (after_answer from asked old.nodes) old
at_master_is k from asked old new came d = gathers ∙ ap (λ (n : NodesState). with_nodes n old) is
  where
    is : d.0 ≡ after_answer from asked old.nodes
    is = subst (λ (o : Option (ℕ × Message Command)). MessageArrives o old.nodes d.0) came d.1

    gathers : new ≡ with_nodes d.0 old
    gathers = subst (λ (o : Option (ℕ × Message Command)). Gathers true (receiver_of o) (with_nodes d.0 old) new) came d.2

pub at_master : (k from asked : ℕ) (old new : WorldState) → slice_get old.nodes.sent k ≡ Some (0, record { from = from; body = Activate asked }) → DoesEvent true (events.Deliver k) old new →
    SlotsAreValid (targets_of_clients old.clients) old.connections → Passes (k ∷ []) old new
at_master k from asked old new came d housed =
    subst (Passes (k ∷ []) old) (sym (at_master_is k from asked old new came d))
    (passes_apart (k ∷ []) old (after_answer from asked old.nodes) housed refl
    (goes_by None refl (λ g s. (answers_exactly old.nodes from asked (in_at old.nodes.sent k (0, record { from = from; body = Activate asked }) came) g s).0))
    (comes_to_master k from asked came none_comes))

-- ---- a message of the model can come

module _ (a : Moment State Command Output) (w : WorldState) (seen : IsSeen a w.nodes) (k : ℕ) where
  pub sent_to : (to : ℕ) (m : Message Command) → slice_get a.world.sent k ≡ Some (to, m) → slice_get w.nodes.sent k ≡ Some (to, m)
  sent_to to m e = ap (λ (l : List (ℕ × Message Command)). slice_get l k) (sym seen.sent) ∙ e

  pub can_reach : (at : ℕ) (r : ReplicaState State Command) (m : Message Command) → slice_get a.world.sent k ≡ Some (at + 1, m) → slice_get a.world.nodes at ≡ Some r → r.stopped ≡ false →
      CannotHappen (events.Deliver k) w → ⊥
  can_reach at r m sent stands runs cannot =
      let core = mapped_from replica_of (cores_of w.nodes.nodes) at r (ap (λ (l : List (ReplicaState State Command)). slice_get l at) (sym seen.nodes) ∙ stands) in
      let node = mapped_from (λ (c : CountedCore). c.core) w.nodes.nodes at core.x core.found in
      let still : node.x.core.replica.state.stopped ≡ false = ap (λ (c : CoreState). c.replica.state.stopped) node.is ∙ ap (λ (q : ReplicaState State Command). q.stopped) core.is ∙ runs in
      let here : slice_get w.nodes.sent k ≡ Some (suc at, m) =
      sent_to (at + 1) m sent ∙ ap (λ (n : ℕ). let o : Option (ℕ × Message Command) = Some (n, m) in o) (let e : at + 1 ≡ suc at = omega arith in e) in
      let nobody : running w.nodes.nodes (suc at) ≡ None = subst (λ (o : Option (ℕ × Message Command)). ComesToNobody o w.nodes) here cannot in
      none-some node.x (sym nobody ∙ ap unless_stopped node.found ∙ ap (λ (b : Bool). if b then None else Some node.x) still)

  pub can_ask : (from asked : ℕ) → slice_get a.world.sent k ≡ Some (0, record { from = from; body = Activate asked }) → CannotHappen (events.Deliver k) w → ⊥
  can_ask from asked sent cannot =
      subst (λ (o : Option (ℕ × Message Command)). ComesToNobody o w.nodes) (sent_to 0 (record { from = from; body = Activate asked }) sent) cannot

-- ---- one after another

pub walk : (ballot : ℕ) (a b : Moment State Command Output) (ks : List ℕ) → Delivered rules ballot a ks b → (old new : WorldState) → EventsHappen (map events.Deliver ks) old new →
    WorldLosesNothing old new → IsSeen a old.nodes → AreCalm ballot old.nodes → SlotsAreValid (targets_of_clients old.clients) old.connections → Passes ks old new
walk ballot a b ks all_came old new run none seen calm housed = subst (Passes [] old) (sym run) (passes_rest old housed)
walk ballot a b ks (to_node {ks = rest} k at r m sent stands runs silent joined d) old new run none seen calm housed =
    let f = first_done (events.Deliver k) (map events.Deliver rest) old new run none (can_reach a old seen k at r m sent stands runs) in
    let p = (at_node k at m old f.after (sent_to a old seen k (at + 1) m sent) f.does housed).passes in
    let s = deliveries_are_followed ballot a (after_outcome at (received rules r m.from m.body) a) (k ∷ []) (to_node k at r m sent stands runs silent joined all_came) old.nodes f.after.nodes
    p.come seen calm in
    passes_join (k ∷ []) rest old f.after new p (walk ballot (after_outcome at (received rules r m.from m.body) a) b rest d f.after new f.rest f.whole s.seen s.calm p.housed)
walk ballot a b ks (to_master {ks = rest} k from asked sent d) old new run none seen calm housed =
    let f = first_done (events.Deliver k) (map events.Deliver rest) old new run none (can_ask a old seen k from asked sent) in
    let p = at_master k from asked old f.after (sent_to a old seen k 0 (record { from = from; body = Activate asked }) sent) f.does housed in
    let s = deliveries_are_followed ballot a (after_activate from asked a) (k ∷ []) (to_master k from asked sent all_came) old.nodes f.after.nodes p.come seen calm in
    passes_join (k ∷ []) rest old f.after new p (walk ballot (after_activate from asked a) b rest d f.after new f.rest f.whole s.seen s.calm p.housed)
