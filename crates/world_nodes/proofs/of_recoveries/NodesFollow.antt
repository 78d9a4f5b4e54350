-- Nodes to which the messages of a way out come go through what it says about their replicas.
use Rattle.std.proofs.Common.{◌≡◌, ◌⊎◌, inl, inr, ◌<◌, ℕ, ◌+◌, false, List, [], ◌∷◌, ◌++◌, map, Option, Some, None, refl, sym, ap, ◌∙◌, subst, arith}
use Rattle.std.specs.Prelude.{slice_get, slice_set}
use Rattle.std.proofs.lemmas.Bool.{cases_eq}
use Rattle.std.proofs.lemmas.List.{append-nil}
use Rattle.lists.proofs.Places.{get_set, get_set_other}
use Rattle.ballot_base.specs.declared.message.Body.{Body}
use Rattle.ballot_base.specs.declared.message.Body.TheVariants.{Activate}
use Rattle.ballot_base.specs.declared.message.Effect.{Effect}
use Rattle.ballot_base.specs.declared.message.Message.{Message}
use Rattle.ballot_base.specs.Protocol.{received}
use Rattle.ballot_base.specs.Protocol.Input.{Receives}
use Rattle.ballot_base.specs.Replica.{CountedReplica, ReplicaState, is_active}
use Rattle.ballot_base.specs.StepOutcome.{Outcome}
use Rattle.broker_spec.specs.declared.command.Command.{Command}
use Rattle.broker_spec.specs.declared.command.Output.{Output}
use Rattle.broker_base.specs.State.{State}
use Rattle.headline.specs.node_group.Group.{replica_of}
use Rattle.headline.specs.node_moves.Moves.{NodeCall, done}
use Rattle.headline.specs.node_moves.Moves.NodeCall.{takes, hands_out}
use Rattle.agreement.specs.MasterState.{MasterState}
use Rattle.agreement.specs.cut_logs.Masters.{activated}
use Rattle.agreement.specs.cut_logs.Moments.{Moment}
use Rattle.agreement.specs.cut_logs.World.{messages, outputs}
use Rattle.world_base.specs.declared.node_connections.connection.Connection.{Connection}
use Rattle.world_base.specs.declared.node_core.item.Item.TheVariants.{Peer}
use Rattle.world_base.specs.declared.node_connections.port.Port.{Port}
use Rattle.world_base.specs.node_connections.Connections.{has_failed, is_at, is_listed}
use Rattle.world_base.specs.node_connections.ConnectionChanges.{changed_where, nothing_pending}
use Rattle.world_base.specs.node_core.Core.{CoreState, CountedCore, rules}
use Rattle.world_base.specs.node_core.PortOutput.{hands_over, left_by, listed_at}
use Rattle.world_base.specs.node_core.Step.{node_step}
use Rattle.headline.proofs.of_node_group.Placed.{get_mapped, set_mapped, set_same}
use Rattle.headline.proofs.of_node_moves.ReplicaLeads.{StaysOr, step_stays}
use Rattle.headline.proofs.of_node_moves.Views.{each_filtered, each_kept}
use Rattle.world_nodes.specs.ExactSteps.{after_answer, after_node_call}
use Rattle.world_nodes.specs.Nodes.{NodesState, cores_of}
use Rattle.recovery.specs.replicas.CutDeliveries.{Delivered, after_activate, after_outcome}
use Rattle.recovery.specs.replicas.CutDeliveries.Delivered.{all_came, to_master, to_node}
use Rattle.world_nodes.specs.recoveries.Deliveries.Come.{all_came as none_comes, to_node as comes_to_node, to_master as comes_to_master, hands}
use Rattle.world_nodes.specs.recoveries.Deliveries.{AreCalm, AreFollowed, Come, DeliveriesAreFollowed, IsSeen, KeepNames}
use Rattle.recovery.specs.one_node.Delivery.{ReportsItsLosses, IsDelivery, heard_by}
use Rattle.recovery.proofs.of_one_node.OneDelivery.{a_step_is_a_delivery}

-- ---- places

abbrev pub core_of : CountedCore → CoreState
core_of c = c.core

-- the replica at an index, as the moment has it
pub replica_at : (a : Moment State Command Output) (n : NodesState) → IsSeen a n → (at : ℕ) (node : CountedCore) → slice_get n.nodes at ≡ Some node →
    slice_get a.world.nodes at ≡ Some (replica_of node.core)
replica_at a n s at node there =
    ap (λ (l : List (ReplicaState State Command)). slice_get l at) s.nodes ∙ get_mapped replica_of (cores_of n.nodes) at node.core (get_mapped core_of n.nodes at node there)

-- the replicas, if a node becomes another
pub nodes_set : (nodes : List CountedCore) (at : ℕ) (new : CountedCore) →
    map replica_of (cores_of (slice_set nodes at new)) ≡ slice_set (map replica_of (cores_of nodes)) at (replica_of new.core)
nodes_set nodes at new = ap (map replica_of) (set_mapped core_of nodes at new) ∙ set_mapped replica_of (cores_of nodes) at new.core

not_below : (x y : ℕ) → x < y → x ≡ y → ⊥
not_below x y low same = omega (arith, low, same)

pub some_one : {X : Type 0} (o : Option X) (x y : X) → o ≡ Some x → o ≡ Some y → x ≡ y
some_one o x y e f = cc

abbrev pub IsCalmOrLow : ℕ → CountedCore → Type 0
IsCalmOrLow ballot node = ReportsItsLosses node.core ⊎ (node.core.replica.state.joined < ballot)

-- if one becomes another that is calm, or has not joined the ballot, all are so still
pub set_calm : (ballot : ℕ) (nodes : List CountedCore) (at : ℕ) (node new : CountedCore) → slice_get nodes at ≡ Some node → IsCalmOrLow ballot new →
    ((i : ℕ) (x : CountedCore) → slice_get nodes i ≡ Some x → IsCalmOrLow ballot x) → (i : ℕ) (x : CountedCore) → slice_get (slice_set nodes at new) i ≡ Some x →
    IsCalmOrLow ballot x
set_calm ballot nodes at node new there now before i x e = by (cases_eq i at)
  where
    by : (i ≡ at) ⊎ (i ≡ at → ⊥) → IsCalmOrLow ballot x
    by (inl same) =
        subst (IsCalmOrLow ballot)
        (some_one (slice_get (slice_set nodes at new) at) new x (get_set nodes at node new there) (ap (slice_get (slice_set nodes at new)) (sym same) ∙ e)) now
    by (inr other) = before i x (sym (get_set_other nodes at i new other) ∙ e)

-- the replicas, if one becomes what it was
pub set_same_replica : (n : NodesState) (at : ℕ) (node : CountedCore) → slice_get n.nodes at ≡ Some node →
    slice_set (map replica_of (cores_of n.nodes)) at (replica_of node.core) ≡ map replica_of (cores_of n.nodes)
set_same_replica n at node there =
    set_same (map replica_of (cores_of n.nodes)) at (replica_of node.core) (get_mapped replica_of (cores_of n.nodes) at node.core (get_mapped core_of n.nodes at node there))

-- ---- bytes are handed over

pub hands_keep : (port : Port) (core : CoreState) → ((hands_over port core).replica ≡ core.replica) × (ReportsItsLosses core → ReportsItsLosses (hands_over port core))
unfolding hands_over
hands_keep port core = by (listed_at port core)
  where
    by : (o : Option Connection) → ((left_by port core o).replica ≡ core.replica) × (ReportsItsLosses core → ReportsItsLosses (left_by port core o))
    by None = (refl, λ calm. calm)
    by (Some c) = (
      refl,
      λ calm. each_filtered (λ (d : Connection). has_failed d ≡ false) is_listed (changed_where (is_at port) nothing_pending core.connections)
          (each_kept (λ (d : Connection). has_failed d ≡ false) (is_at port) nothing_pending core.connections (λ d e. e) calm),
    )

pub hands_seen : (a : Moment State Command Output) (n : NodesState) (at : ℕ) (node : CountedCore) (port : Port) → slice_get n.nodes at ≡ Some node → IsSeen a n →
    IsSeen a (after_node_call at node (hands_out port) n)
hands_seen a n at node port there s =
    record {
      master = s.master;
      nodes = s.nodes ∙ sym (nodes_set n.nodes at (record node { core = hands_over port node.core })
          ∙ ap (λ (r : CountedReplica State Command). slice_set (map replica_of (cores_of n.nodes)) at r.state) (hands_keep port node.core).0
          ∙ set_same (map replica_of (cores_of n.nodes)) at (replica_of node.core)
          (get_mapped replica_of (cores_of n.nodes) at node.core (get_mapped core_of n.nodes at node there)));
      sent = s.sent ∙ sym (append-nil n.sent);
      archive = s.archive;
    }

pub hands_calm : (ballot : ℕ) (n : NodesState) (at : ℕ) (node : CountedCore) (port : Port) → slice_get n.nodes at ≡ Some node → AreCalm ballot n →
    AreCalm ballot (after_node_call at node (hands_out port) n)
hands_calm ballot n at node port there calm =
    set_calm ballot n.nodes at node (record node { core = hands_over port node.core }) there (now (calm at node there)) calm
  where
    now : IsCalmOrLow ballot node → ReportsItsLosses (hands_over port node.core) ⊎ ((hands_over port node.core).replica.state.joined < ballot)
    now (inl quiet) = inl ((hands_keep port node.core).1 quiet)
    now (inr low) = inr (subst (λ (r : CountedReplica State Command). r.state.joined < ballot) (sym (hands_keep port node.core).0) low)

-- ---- a message comes

-- who was below the ballot and joins it is no active primary then
not_active : (ballot : ℕ) (core : CoreState) (m : Message Command) → (heard_by core m).state.joined ≡ ballot → core.replica.state.joined < ballot →
    is_active (heard_by core m).state.role ≡ false
not_active ballot core m joined low = by (step_stays rules core.replica.state (Receives m))
  where
    by : StaysOr core.replica.state (heard_by core m).state → is_active (heard_by core m).state.role ≡ false
    by (inl same) = absurd (not_below core.replica.state.joined ballot low (sym same ∙ joined))
    by (inr idle) = idle

step_seen : (a : Moment State Command Output) (n : NodesState) (at : ℕ) (node : CountedCore) (m : Message Command) → IsSeen a n →
    IsDelivery node.core (heard_by node.core m) (node_step (Peer m) node.core) → IsSeen (after_outcome at (heard_by node.core m) a) (after_node_call at node (takes (Peer m)) n)
step_seen a n at node m s d =
    record {
      master = s.master;
      nodes = ap (λ (l : List (ReplicaState State Command)). slice_set l at (heard_by node.core m).state) s.nodes
          ∙ sym (nodes_set n.nodes at (record node { core = (node_step (Peer m) node.core).core })
          ∙ ap (λ (r : CountedReplica State Command). slice_set (map replica_of (cores_of n.nodes)) at r.state) d.replica);
      sent = ap (λ (l : List (ℕ × Message Command)). l ++ messages (heard_by node.core m).effects) s.sent
          ∙ ap (λ (l : List (Effect Command Output)). n.sent ++ messages l) (sym d.messages);
      archive = s.archive;
    }

-- the moment after a message, as it is seen
pub record Next (ballot : ℕ) (ks : List ℕ) (b : Moment State Command Output) (n : NodesState) : Type 0 where
  pub moment : Moment State Command Output
  pub rest : Delivered rules ballot moment ks b
  pub seen : IsSeen moment n
  pub calm : AreCalm ballot n

-- and the node that takes it gives no name
pub record NextAt (ballot : ℕ) (ks : List ℕ) (b : Moment State Command Output) (node : CountedCore) (message : Message Command) (n : NodesState) : Type 0 where
  pub moment : Moment State Command Output
  pub rest : Delivered rules ballot moment ks b
  pub seen : IsSeen moment n
  pub calm : AreCalm ballot n
  pub named : (node_step (Peer message) node.core).core.last_name ≡ node.core.last_name
  -- of its replica it makes what the message does, which gives nothing and leaves it in the ballot
  pub replica : (node_step (Peer message) node.core).core.replica ≡ record node.core.replica { state = (heard_by node.core message).state }
  pub silent : outputs (heard_by node.core message).effects ≡ []
  pub joined : (heard_by node.core message).state.joined ≡ ballot

same_message : {X : Type 0} (o : Option (ℕ × X)) (i j : ℕ) (m l : X) → o ≡ Some (i, m) → o ≡ Some (j, l) → (i ≡ j) × (m ≡ l)
same_message {X = X} o i j m l e f = let both = some_one o (i, m) (j, l) e f in (ap (λ (z : ℕ × X). z.0) both, ap (λ (z : ℕ × X). z.1) both)

next_same : (x y : ℕ) → x + 1 ≡ y + 1 → x ≡ y
next_same x y e = omega (arith, e)

never_next : (x : ℕ) → x + 1 ≡ 0 → ⊥
never_next x e = omega (arith, e)

asked_same : (x y : ℕ) → ◌≡◌ {A = Body Command} (Activate x) (Activate y) → x ≡ y
asked_same x y e = cc

module _ (ballot : ℕ) (b : Moment State Command Output) (n : NodesState) (calm : AreCalm ballot n) where
  -- at a node
  pub node_comes : (a : Moment State Command Output) (k : ℕ) (ks : List ℕ) → Delivered rules ballot a (k ∷ ks) b → IsSeen a n → (at : ℕ) (node : CountedCore) (message : Message Command) →
      slice_get n.sent k ≡ Some (at + 1, message) → slice_get n.nodes at ≡ Some node → node.core.replica.state.stopped ≡ false →
      NextAt ballot ks b node message (after_node_call at node (takes (Peer message)) n)
  node_comes a k ks (to_node j index r m sent stands runs silent joined d) s at node message came there going =
      by (let same = same_message (slice_get n.sent k) (index + 1) (at + 1) m message (ap (λ l. slice_get l k) (sym s.sent) ∙ sent) came in same)
    where
      by : (index + 1 ≡ at + 1) × (m ≡ message) → NextAt ballot ks b node message (after_node_call at node (takes (Peer message)) n)
      by (e, f) =
          let at_place : index ≡ at = next_same index at e in
          let one : r ≡ replica_of node.core = some_one (slice_get a.world.nodes at) r (replica_of node.core) (ap (slice_get a.world.nodes) (sym at_place) ∙ stands) (replica_at a n s at node there) in
          let heard : received rules r m.from m.body ≡ heard_by node.core message =
          ap (λ (x : ReplicaState State Command). received rules x m.from m.body) one ∙ ap (λ (x : Message Command). received rules (replica_of node.core) x.from x.body) f in
          let quiet = sym (ap (λ (o : Outcome State Command Output). outputs o.effects) heard) ∙ silent in
          let in_ballot = sym (ap (λ (o : Outcome State Command Output). o.state.joined) heard) ∙ joined in
          let does = a_step_is_a_delivery node.core message going quiet (may in_ballot (calm at node there)) in
          record {
            moment = after_outcome at (heard_by node.core message) a;
            rest = subst (λ (x : Moment State Command Output). Delivered rules ballot x ks b)
                (ap (λ i. after_outcome i (received rules r m.from m.body) a) at_place ∙ ap (λ (o : Outcome State Command Output). after_outcome at o a) heard) d;
            seen = step_seen a n at node message s does;
            calm = set_calm ballot n.nodes at node (record node { core = (node_step (Peer message) node.core).core }) there (inl does.calm) calm;
            named = does.last_name;
            replica = does.replica;
            silent = quiet;
            joined = in_ballot;
          }
        where
          may : (heard_by node.core message).state.joined ≡ ballot → IsCalmOrLow ballot node → ReportsItsLosses node.core ⊎ (is_active (heard_by node.core message).state.role ≡ false)
          may in_ballot (inl quiet) = inl quiet
          may in_ballot (inr low) = inr (not_active ballot node.core message in_ballot low)
  node_comes a k ks (to_master j from asked sent d) s at node message came there going =
      absurd (never_next at (sym (same_message (slice_get n.sent k) 0 (at + 1) (record { from = from; body = Activate asked }) message (ap (λ l. slice_get l k) (sym s.sent) ∙ sent) came).0))

  -- at the master
  pub master_comes : (a : Moment State Command Output) (k : ℕ) (ks : List ℕ) → Delivered rules ballot a (k ∷ ks) b → IsSeen a n → (from asked : ℕ) →
      slice_get n.sent k ≡ Some (0, record { from = from; body = Activate asked }) → Next ballot ks b (after_answer from asked n)
  master_comes a k ks (to_node j index r m sent stands runs silent joined d) s from asked came =
      absurd (never_next index (same_message (slice_get n.sent k) (index + 1) 0 m (record { from = from; body = Activate asked }) (ap (λ l. slice_get l k) (sym s.sent) ∙ sent) came).0)
  master_comes a k ks (to_master j other ballot_asked sent d) s from asked came =
      by (same_message (slice_get n.sent k) 0 0 (record { from = other; body = Activate ballot_asked }) (record { from = from; body = Activate asked }) (ap (λ l. slice_get l k) (sym s.sent) ∙ sent) came).1
    where
      by : ◌≡◌ {A = Message Command} (record { from = other; body = Activate ballot_asked }) (record { from = from; body = Activate asked }) → Next ballot ks b (after_answer from asked n)
      by e =
          let f : other ≡ from = ap (λ (m : Message Command). m.from) e in
          let g : ballot_asked ≡ asked = asked_same ballot_asked asked (ap (λ (m : Message Command). m.body) e) in
          record {
            moment = after_activate from asked a;
            rest = subst (λ (x : Moment State Command Output). Delivered rules ballot x ks b)
                (ap (λ i. after_activate i ballot_asked a) f ∙ ap (λ i. after_activate from i a) g) d;
            seen = record {
              master = ap (λ (m : MasterState). (activated Command m asked from m.waiting).state) s.master;
              nodes = s.nodes;
              sent = ap (λ (l : List (ℕ × Message Command)). l ++ (
                (activated Command a.master asked from a.master.waiting).receiver,
                record { from = 0; body = (activated Command a.master asked from a.master.waiting).body },
              ) ∷ []) s.sent
                  ∙ ap (λ (m : MasterState). n.sent ++ (
                    (activated Command m asked from m.waiting).receiver,
                    record { from = 0; body = (activated Command m asked from m.waiting).body },
                  ) ∷ []) s.master;
              archive = s.archive;
            };
            calm = calm;
          }

nothing_comes : (ballot : ℕ) (a b : Moment State Command Output) → Delivered rules ballot a [] b → (n : NodesState) → IsSeen a n → IsSeen b n
nothing_comes ballot a b all_came n s = s

-- ---- names

-- a call that gives no name, and more that give none
names_then : (n : NodesState) (at : ℕ) (node : CountedCore) (node_call : NodeCall) (new : NodesState) → slice_get n.nodes at ≡ Some node →
    (done node_call node.core).core.last_name ≡ node.core.last_name → KeepNames (after_node_call at node node_call n) new → KeepNames n new
names_then n at node node_call new there same more i x later e f = by (cases_eq i at)
  where
    after : CountedCore
    after = record node { core = (done node_call node.core).core }

    by : (i ≡ at) ⊎ (i ≡ at → ⊥) → later.core.last_name ≡ x.core.last_name
    by (inl one) =
        more i after later (ap (slice_get (slice_set n.nodes at after)) one ∙ get_set n.nodes at node after there) f
        ∙ same ∙ ap (λ (c : CountedCore). c.core.last_name) (some_one (slice_get n.nodes at) node x there (ap (slice_get n.nodes) (sym one) ∙ e))
    by (inr other) = more i x later (get_set_other n.nodes at i after other ∙ e) f

hands_names : (port : Port) (core : CoreState) → (hands_over port core).last_name ≡ core.last_name
unfolding hands_over
hands_names port core = by (listed_at port core)
  where
    by : (o : Option Connection) → (left_by port core o).last_name ≡ core.last_name
    by None = refl
    by (Some c) = refl

follows : (ballot : ℕ) (a b : Moment State Command Output) (ks : List ℕ) → Delivered rules ballot a ks b → (n new : NodesState) → Come n ks new → IsSeen a n → AreCalm ballot n →
    AreFollowed ballot b n new
follows ballot a b ks d n new none_comes s calm =
    record { seen = nothing_comes ballot a b d n s; calm = calm; names = λ i x later e f. ap (λ (c : CountedCore). c.core.last_name) (some_one (slice_get n.nodes i) later x f e) }
follows ballot a b ks d n new (comes_to_node k at node message came there going more) s calm =
    let z = node_comes ballot b n calm a k _ d s at node message came there going in
    let y = follows ballot z.moment b _ z.rest _ new more z.seen z.calm in
    record { seen = y.seen; calm = y.calm; names = names_then n at node (takes (Peer message)) new there z.named y.names }
follows ballot a b ks d n new (comes_to_master k from asked came more) s calm =
    let z = master_comes ballot b n calm a k _ d s from asked came in
    let y = follows ballot z.moment b _ z.rest _ new more z.seen z.calm in
    record { seen = y.seen; calm = y.calm; names = y.names }
follows ballot a b ks d n new (hands at node port there more) s calm =
    let y = follows ballot a b ks d _ new more (hands_seen a n at node port there s) (hands_calm ballot n at node port there calm) in
    record { seen = y.seen; calm = y.calm; names = names_then n at node (hands_out port) new there (hands_names port node.core) y.names }

pub deliveries_are_followed : DeliveriesAreFollowed
deliveries_are_followed ballot a b ks d n new comes s calm = follows ballot a b ks d n new comes s calm
