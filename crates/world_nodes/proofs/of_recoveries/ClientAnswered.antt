-- A client that comes back at the new primary is answered first of all.
use Rattle.std.proofs.Common.{◌≡◌, ◌⊎◌, inl, inr, ◌<◌, ◌≤◌, ℕ, ◌+◌, ◌*◌, Bool, true, false, not, List, [], ◌∷◌, ◌++◌, length, map, Some, refl, sym, ap, ◌∙◌, subst, arith}
use Rattle.std.specs.Prelude.{nat_lt, slice_get, slice_set, ◌&&◌}
use Rattle.std.specs.List.{find}
use Rattle.std.proofs.lemmas.Bool.{and_from, cases_eq, lt-ltb}
use Rattle.lists.proofs.Places.{get_set, get_set_other}
use Rattle.ballot_base.specs.declared.message.Effect.{Effect}
use Rattle.ballot_base.specs.Logs.{places}
use Rattle.machine.specs.Machine.{replay}
use Rattle.ballot_base.specs.declared.message.Message.{Message}
use Rattle.ballot_base.specs.Protocol.{received, replica_step}
use Rattle.ballot_base.specs.Protocol.Input.{Proposes}
use Rattle.ballot_base.specs.Replica.{CountedReplica, ReplicaState, is_active}
use Rattle.ballot_base.specs.StepOutcome.{Outcome}
use Rattle.ballot_base.specs.Service.{max_places}
use Rattle.packet.specs.declared.connect.Connect.{Connect}
use Rattle.packet.specs.Spelling.{spelling}
use Rattle.broker_spec.specs.declared.command.Command.{Command}
use Rattle.broker_spec.specs.declared.command.Command.TheVariants as commands
use Rattle.broker_spec.specs.Connection.{ConnectionName}
use Rattle.broker_spec.specs.declared.command.Output.{Output}
use Rattle.broker_spec.specs.declared.command.Output.TheVariants.{Send}
use Rattle.ballot_base.specs.declared.message.Effect.TheVariants.{Out}
use Rattle.broker_base.specs.State.{State}
use Rattle.ballot_base.specs.declared.config.Config.{Config}
use Rattle.recovery.specs.one_node.FirstAnswer.{PutsOutFirst}
use Rattle.recovery.specs.one_node.ConnectRequest.{proposal_at, with_asked_connect}
use Rattle.recovery.specs.one_node.Delivery.{ReportsItsLosses, heard_by}
use Rattle.recovery.specs.one_node.AwaitedAnswer.{AwaitsAnswer}
use Rattle.recovery.specs.one_node.Welcome.{IsWelcomedBack}
use Rattle.headline.specs.node_group.Group.{replica_of}
use Rattle.headline.specs.node_moves.Moves.NodeCall.{takes, hands_out}
use Rattle.agreement.specs.cut_logs.Moments.{Moment, Moments, whole_moment}
use Rattle.agreement.specs.cut_logs.World.{messages, outputs}
use Rattle.world_base.specs.declared.node_connections.connection.Connection.{Connection}
use Rattle.world_base.specs.declared.node_core.item.Item.TheVariants.{Bytes, Peer}
use Rattle.world_base.specs.declared.node_connections.port.Port.{Port}
use Rattle.world_base.specs.node_connections.Connections.{is_open_named}
use Rattle.world_base.specs.node_connections.ConnectionChanges.{max_pending}
use Rattle.world_base.specs.node_core.Core.{CoreState, CountedCore, StepOutcome, rules, serves}
use Rattle.world_base.specs.node_core.PortOutput.{hands_over}
use Rattle.world_base.specs.node_core.Step.{node_step}
use Rattle.world_base.specs.node_core.Effects.{has_room}
use Rattle.headline.proofs.of_node_moves.LossesReported.{each_loss_is_reported}
use Rattle.agreement.proofs.of_cut_logs.Fronts.{whole_long}
use Rattle.agreement.proofs.of_cut_logs.MomentsKept.{StandsFor, moments_stand}
use Rattle.recovery.proofs.of_one_node.AnswerAlone.{answer_alone_is_put_out}
use Rattle.recovery.proofs.of_one_node.AnswerAwaited.{asked_awaits_answer, handing_keeps_it_waiting, messages_keep_it_waiting}
use Rattle.recovery.proofs.of_one_node.AnswerPutOut.{answer_is_put_out}
use Rattle.recovery.proofs.of_one_node.ComesBack.{kept_sessions_are_welcomed}
use Rattle.recovery.proofs.of_one_node.ConnectProposed.{connect_is_proposed}
use Rattle.world_nodes.specs.ExactSteps.{after_node_call}
use Rattle.world_nodes.specs.Nodes.{NodesState, cores_of}
use Rattle.recovery.specs.replicas.CutDeliveries.{Delivered, after_outcome}
use Rattle.recovery.specs.replicas.Deliveries.{NumbersAreApart, NodeIs, numbers_from}
use Rattle.recovery.specs.replicas.LedStates.{Follows}
use Rattle.lists.specs.Lists.{In}
use Rattle.recovery.specs.replicas.NextAnswer.{AnswersCommand, IsHeldByAll}
use Rattle.recovery.proofs.of_replicas.CutGroupsAnswer.{cut_groups_answer}
use Rattle.world_nodes.specs.recoveries.Answered.{CanAsk, OthersLetTheClientBeAnswered, PutsOutAtLast, SoleMemberAnswersTheClient, begun_log, last_answer, session_present}
use Rattle.world_nodes.specs.recoveries.Deliveries.{AreCalm, Come, IsSeen}
use Rattle.world_nodes.specs.recoveries.Deliveries.Come.{all_came as none_comes, to_node as comes_to_node, to_master as comes_to_master, hands}
use Rattle.world_nodes.proofs.of_recoveries.LeadsOn.{LeadsAt, leads_on, leads_proposing}
use Rattle.world_nodes.proofs.of_recoveries.NodesFollow.{IsCalmOrLow, deliveries_are_followed, hands_calm, hands_keep, hands_seen, master_comes, node_comes, nodes_set, replica_at, set_calm, some_one}

-- ---- the connection waits while messages come

-- the node at an index, which leads on, and its connection
pub record StillWaits (ballot index : ℕ) (port : Port) (x : ConnectionName) (n : NodesState) : Type 0 where
  pub node : CountedCore
  pub stands : slice_get n.nodes index ≡ Some node
  pub leads : LeadsAt ballot (replica_of node.core)
  pub waits : AwaitsAnswer port x node.core

-- so it waits while these messages come, which bring the moment to another and leave the master as it is
pub record AwaitsOthers (ballot index : ℕ) (port : Port) (x : ConnectionName) (ks : List ℕ) (n : NodesState) : Type 0 where
  pub moment : Moment State Command Output
  pub before : Moment State Command Output
  pub delivered : Delivered rules ballot moment ks before
  pub master : before.master ≡ n.master
  pub seen : IsSeen moment n
  pub calm : AreCalm ballot n
  pub waits : StillWaits ballot index port x n

-- .. if another node changes
elsewhere : (ballot index : ℕ) (port : Port) (x : ConnectionName) (n v : NodesState) (at : ℕ) (new : CountedCore) → (index ≡ at → ⊥) → v.nodes ≡ slice_set n.nodes at new →
    StillWaits ballot index port x n → StillWaits ballot index port x v
elsewhere ballot index port x n v at new other is s =
    record { node = s.node; stands = ap (λ l. slice_get l index) is ∙ get_set_other n.nodes at index new other ∙ s.stands; leads = s.leads; waits = s.waits }

-- .. if it does itself
itself : (ballot index : ℕ) (port : Port) (x : ConnectionName) (n v : NodesState) (old new : CountedCore) → slice_get n.nodes index ≡ Some old → v.nodes ≡ slice_set n.nodes index new →
    LeadsAt ballot (replica_of new.core) → AwaitsAnswer port x new.core → StillWaits ballot index port x v
itself ballot index port x n v old new there is leads waits =
    record { node = new; stands = ap (λ l. slice_get l index) is ∙ get_set n.nodes index old new there; leads = leads; waits = waits }

leads_with : (ballot : ℕ) (r s : CountedReplica State Command) → s ≡ r → LeadsAt ballot r.state → LeadsAt ballot s.state
leads_with ballot r s same l = subst (λ (q : CountedReplica State Command). LeadsAt ballot q.state) (sym same) l

calm_now : (ballot : ℕ) (node : CountedCore) → LeadsAt ballot (replica_of node.core) → IsCalmOrLow ballot node → ReportsItsLosses node.core
calm_now ballot node l (inl calm) = calm
calm_now ballot node l (inr low) = absurd (let e = l.joined in omega (arith, e, low))

-- a message comes to it
message_kept : (ballot index : ℕ) (port : Port) (x : ConnectionName) (n : NodesState) (node : CountedCore) (m : Message Command) → slice_get n.nodes index ≡ Some node →
    ReportsItsLosses node.core → outputs (heard_by node.core m).effects ≡ [] → (heard_by node.core m).state.joined ≡ ballot →
    (node_step (Peer m) node.core).core.replica ≡ record node.core.replica { state = (heard_by node.core m).state } → LeadsAt ballot (replica_of node.core) → AwaitsAnswer port x node.core →
    StillWaits ballot index port x (after_node_call index node (takes (Peer m)) n)
message_kept ballot index port x n node m there calm silent joined replica leads waits =
    let on = leads_on {O = Output} rules ballot (replica_of node.core) leads m.from m.body joined in
    itself ballot index port x n (after_node_call index node (takes (Peer m)) n) node (record node { core = (node_step (Peer m) node.core).core }) there refl
    (leads_with ballot (record node.core.replica { state = (heard_by node.core m).state }) (node_step (Peer m) node.core).core.replica replica on)
    (messages_keep_it_waiting port x node.core m waits calm leads.runs silent (ap is_active on.role) on.runs)

pub waits_on : (ballot index : ℕ) (port : Port) (x : ConnectionName) (a b : Moment State Command Output) (ks : List ℕ) → Delivered rules ballot a ks b → (n new : NodesState) → Come n ks new → IsSeen a n →
    AreCalm ballot n → StillWaits ballot index port x n → StillWaits ballot index port x new
waits_on ballot index port x a b ks d n new none_comes s calm w = w
waits_on ballot index port x a b ks d n new (comes_to_node k at node message came there going more) s calm w =
    let z = node_comes ballot b n calm a k _ d s at node message came there going in
    waits_on ballot index port x z.moment b _ z.rest _ new more z.seen z.calm (by (cases_eq index at) z.silent z.joined z.replica)
  where
    by : (index ≡ at) ⊎ (index ≡ at → ⊥) → outputs (heard_by node.core message).effects ≡ [] → (heard_by node.core message).state.joined ≡ ballot →
        (node_step (Peer message) node.core).core.replica ≡ record node.core.replica { state = (heard_by node.core message).state } →
        StillWaits ballot index port x (after_node_call at node (takes (Peer message)) n)
    by (inr other) silent joined replica = elsewhere ballot index port x n (after_node_call at node (takes (Peer message)) n) at (record node { core = (node_step (Peer message) node.core).core }) other refl w
    by (inl same) silent joined replica =
        subst (λ i. StillWaits ballot index port x (after_node_call i node (takes (Peer message)) n)) same
        (message_kept ballot index port x n node message here (calm_now ballot node leads (calm at node there)) silent joined replica leads
        (subst (λ (c : CountedCore). AwaitsAnswer port x c.core) one w.waits))
      where
        here : slice_get n.nodes index ≡ Some node
        here = ap (slice_get n.nodes) same ∙ there

        one : w.node ≡ node
        one = some_one (slice_get n.nodes index) w.node node w.stands here

        leads : LeadsAt ballot (replica_of node.core)
        leads = subst (λ (c : CountedCore). LeadsAt ballot (replica_of c.core)) one w.leads
waits_on ballot index port x a b ks d n new (comes_to_master k from asked came more) s calm w =
    let z = master_comes ballot b n calm a k _ d s from asked came in
    waits_on ballot index port x z.moment b _ z.rest _ new more z.seen z.calm (record { node = w.node; stands = w.stands; leads = w.leads; waits = w.waits })
waits_on ballot index port x a b ks d n new (hands at node other there more) s calm w =
    waits_on ballot index port x a b ks d _ new more (hands_seen a n at node other there s) (hands_calm ballot n at node other there calm) (by (cases_eq index at))
  where
    by : (index ≡ at) ⊎ (index ≡ at → ⊥) → StillWaits ballot index port x (after_node_call at node (hands_out other) n)
    by (inr apart) = elsewhere ballot index port x n (after_node_call at node (hands_out other) n) at (record node { core = hands_over other node.core }) apart refl w
    by (inl same) =
        subst (λ i. StillWaits ballot index port x (after_node_call i node (hands_out other) n)) same
        (itself ballot index port x n (after_node_call index node (hands_out other) n) node (record node { core = hands_over other node.core }) here refl
        (leads_with ballot node.core.replica (hands_over other node.core).replica (hands_keep other node.core).0 (subst (λ (c : CountedCore). LeadsAt ballot (replica_of c.core)) one w.leads))
        (handing_keeps_it_waiting port other x node.core (subst (λ (c : CountedCore). AwaitsAnswer port x c.core) one w.waits)))
      where
        here : slice_get n.nodes index ≡ Some node
        here = ap (slice_get n.nodes) same ∙ there

        one : w.node ≡ node
        one = some_one (slice_get n.nodes index) w.node node w.stands here

-- ---- the CONNECT

some_spelled : 0 < length (spelling session_present)
unfolding spelling
some_spelled = omega arith

short_spelled : length (spelling session_present) ≤ max_pending
unfolding spelling
short_spelled = omega arith

module _ (config : Config) (a : Moment State Command Output) (moments : List (Moment State Command Output)) (came : Moments rules config (a ∷ moments)) (n : NodesState) (ballot index : ℕ) (node : CountedCore)
    (os : List ℕ) (port : Port) (x : ConnectionName) (list : List Command) (start now : ℕ) (piece : List ℕ) (connect : Connect)
    (can : CanAsk a n ballot index node os port x list start piece connect) where
  abbrev core : CoreState
  core = node.core

  abbrev r : ReplicaState State Command
  r = replica_of core

  abbrev log : List Command
  log = begun_log list start

  abbrev c : Command
  c = commands.Connect x connect.client false

  abbrev connection : Connection
  connection = can.awaits.waits.connection

  q : StandsFor rules config a moments
  q = moments_stand rules config a moments came

  stands : slice_get a.world.nodes index ≡ Some r
  stands = replica_at a n can.seen index node can.stands

  leads : LeadsAt ballot r
  leads = record { joined = can.serves.leads.joined; held = can.serves.held; role = can.serves.leads.role; runs = can.serves.leads.runs }

  calm : ReportsItsLosses core
  calm = calm_now ballot node leads (can.calm index node can.stands)

  long : places r.log ≡ length log
  long = sym (whole_long a.world.archive r.log (q.kept.nodes index r stands).0.within) ∙ ap length can.serves.log_is

  room : has_room core ≡ true
  room =
      and_from (serves core) (nat_lt (places r.log) max_places)
      (ap (λ (b : Bool). b && not r.stopped) (ap is_active leads.role) ∙ ap not leads.runs)
      (lt-ltb (places r.log) max_places (subst (λ k. k < max_places) (sym long) can.room))

  proposes_c : commands.Connect connection.name connect.client connect.clean ≡ c
  proposes_c = ap (λ (y : ConnectionName). commands.Connect y connect.client connect.clean) can.awaits.name ∙ ap (λ (b : Bool). commands.Connect x connect.client b) can.kept

  welcomed : IsWelcomedBack list start x connect.client
  welcomed = kept_sessions_are_welcomed list start x connect.client can.session

  -- what answers the command begins with the CONNACK
  begins : (es more : List (Effect Command Output)) → es ≡ map (Out (length log)) (rules.gives (replay rules log) c) ++ more →
      es ≡ map (Out (length log)) (Send x session_present ∷ welcomed.rest) ++ more
  begins es more is = is ∙ ap (λ (os : List Output). map (Out (length log)) os ++ more) welcomed.gives

  -- ---- as the sole member

  pub alone : AnswersCommand rules a.world.archive ballot log c [] (index + 1) (replica_step rules r (Proposes c)) →
      PutsOutFirst port (spelling session_present) (node_step (Bytes port piece now) core).core
  alone z =
      answer_alone_is_put_out core port now piece connection connect (length log) session_present welcomed.rest z.rest room can.awaits.opened can.awaits.waits.listed
      (subst (λ (y : ConnectionName). find (is_open_named y) core.connections ≡ Some connection) (sym can.awaits.name) can.awaits.waits.named) can.awaits.first can.awaits.unread can.awaits.waits.none
      can.is_connect
      (ap (λ (d : Command). (proposal_at core d).effects) proposes_c ∙ begins (proposal_at core c).effects z.rest z.gives
      ∙ ap (λ (y : ConnectionName). map (Out (length log)) (Send y session_present ∷ welcomed.rest) ++ z.rest) (sym can.awaits.name)) some_spelled short_spelled

  -- ---- with others

  module _ (front : List ℕ) (last : ℕ) (h : IsHeldByAll rules a index ballot r log c front last) where
    abbrev outcome : StepOutcome
    outcome = node_step (Bytes port piece now) core

    abbrev o : Outcome State Command Output
    o = replica_step rules r (Proposes c)

    abbrev first : NodesState
    first = after_node_call index node (takes (Bytes port piece now)) n

    stepped : outcome ≡ record { core = with_asked_connect now port connect c core; messages = (proposal_at core c).effects }
    stepped =
        connect_is_proposed core port now piece connection connect room calm can.awaits.opened can.awaits.first can.awaits.unread can.is_connect
        (ap (λ (d : Command). outputs (proposal_at core d).effects) proposes_c ∙ h.no_outputs)
        ∙ ap (λ (d : Command). let t : StepOutcome = record { core = with_asked_connect now port connect d core; messages = (proposal_at core d).effects } in t) proposes_c

    seen_first : IsSeen (after_outcome index o a) first
    seen_first =
        record {
          master = can.seen.master;
          nodes = ap (λ (l : List (ReplicaState State Command)). slice_set l index o.state) can.seen.nodes
              ∙ sym (nodes_set n.nodes index (record node { core = outcome.core })
              ∙ ap (λ (t : StepOutcome). slice_set (map replica_of (cores_of n.nodes)) index (replica_of t.core)) stepped);
          sent = ap (λ (l : List (ℕ × Message Command)). l ++ messages o.effects) can.seen.sent ∙ ap (λ (t : StepOutcome). n.sent ++ messages t.messages) (sym stepped);
          archive = can.seen.archive;
        }

    calm_first : AreCalm ballot first
    calm_first = set_calm ballot n.nodes index node (record node { core = outcome.core }) can.stands (inl (each_loss_is_reported (Bytes port piece now) core)) can.calm

    waits_first : StillWaits ballot index port x first
    waits_first =
        itself ballot index port x n first node (record node { core = outcome.core }) can.stands refl
        (subst (λ (t : StepOutcome). LeadsAt ballot (replica_of t.core)) (sym stepped) (leads_proposing {O = Output} rules ballot r leads c))
        (subst (λ (t : StepOutcome). AwaitsAnswer port x t.core) (sym stepped) (asked_awaits_answer port x core now connect c can.awaits))

    delivered : Delivered rules ballot (after_outcome index o a) (numbers_from (length n.sent) (length front + 1) ++ numbers_from (length n.sent + (length front + 1)) (length front)) h.before
    delivered = subst (λ (l : List (ℕ × Message Command)). Delivered rules ballot (after_outcome index o a)
        (numbers_from (length l) (length front + 1) ++ numbers_from (length l + (length front + 1)) (length front)) h.before) can.seen.sent h.delivered

    pub awaits_others : AwaitsOthers ballot index port x
        (numbers_from (length n.sent) (length front + 1) ++ numbers_from (length n.sent + (length front + 1)) (length front)) first
    awaits_others =
        record {
          moment = after_outcome index o a;
          before = h.before;
          delivered = delivered;
          master = h.master ∙ can.seen.master;
          seen = seen_first;
          calm = calm_first;
          waits = waits_first;
        }

    module _ (new : NodesState)
        (comes : Come first (numbers_from (length n.sent) (length front + 1) ++ numbers_from (length n.sent + (length front + 1)) (length front)) new) where
      seen_last : IsSeen h.before new
      seen_last = (deliveries_are_followed ballot (after_outcome index o a) h.before _ delivered first new comes seen_first calm_first).seen

      pub with_others : PutsOutAtLast index (length n.sent + 2 * length front + 1) port (last_answer last ballot log) new
      with_others = by (waits_on ballot index port x (after_outcome index o a) h.before _ delivered first new comes seen_first calm_first waits_first)
        where
          by : StillWaits ballot index port x new → PutsOutAtLast index (length n.sent + 2 * length front + 1) port (last_answer last ballot log) new
          by w =
              record {
                node = w.node;
                stands = w.stands;
                runs = w.leads.runs;
                comes = ap (λ (l : List (ℕ × Message Command)). slice_get l (length n.sent + 2 * length front + 1)) (sym seen_last.sent)
                    ∙ subst (λ (l : List (ℕ × Message Command)). slice_get h.before.world.sent (length l + 2 * length front + 1) ≡ Some (index + 1, last_answer last ballot log)) can.seen.sent h.comes;
                puts = answer_is_put_out w.node.core (last_answer last ballot log) port x w.waits.connection (length log) session_present welcomed.rest h.primary.answers.rest w.leads.runs
                    w.waits.listed w.waits.named w.waits.none
                    (subst (λ (s : ReplicaState State Command). (received rules s last (last_answer last ballot log).body).effects ≡ map (Out (length log)) (Send x session_present ∷ welcomed.rest) ++ h.primary.answers.rest)
                    (some_one (slice_get h.before.world.nodes index) h.primary.replica (replica_of w.node.core) h.primary.stands (replica_at h.before new seen_last index w.node w.stands))
                    (begins _ h.primary.answers.rest h.primary.answers.gives)) some_spelled short_spelled;
              }

pub sole_member_answers_the_client : SoleMemberAnswersTheClient
sole_member_answers_the_client config a moments came n ballot index node port x list start now piece connect can =
    alone config a moments came n ballot index node [] port x list start now piece connect can
    ((cut_groups_answer rules config a moments came ballot index (replica_of node.core) (begun_log list start) [] (commands.Connect x connect.client false)
    (replica_at a n can.seen index node can.stands) can.serves can.room).0 refl)

pub others_let_the_client_be_answered : OthersLetTheClientBeAnswered
others_let_the_client_be_answered config a moments came n new ballot index node front last port x list start now piece connect can apart out each comes =
    let h =
    (cut_groups_answer rules config a moments came ballot index (replica_of node.core) (begun_log list start) (front ++ last ∷ []) (commands.Connect x connect.client false)
    (replica_at a n can.seen index node can.stands) can.serves can.room).1 front last refl apart out each in
    with_others config a moments came n ballot index node (front ++ last ∷ []) port x list start now piece connect can front last h new comes

-- and meanwhile the connection waits
pub others_are_awaited : (config : Config) (a : Moment State Command Output) (moments : List (Moment State Command Output)) → Moments rules config (a ∷ moments) → (n : NodesState) (ballot index : ℕ)
    (node : CountedCore) (front : List ℕ) (last : ℕ) (port : Port) (x : ConnectionName) (list : List Command) (start now : ℕ) (piece : List ℕ) (connect : Connect) →
    CanAsk a n ballot index node (front ++ last ∷ []) port x list start piece connect → NumbersAreApart (front ++ last ∷ []) → (In (index + 1) (front ++ last ∷ []) → ⊥) →
    ((m : ℕ) → In m (front ++ last ∷ []) → NodeIs (Follows ballot (begun_log list start)) (whole_moment a).world.nodes m) →
    AwaitsOthers ballot index port x (numbers_from (length n.sent) (length front + 1) ++ numbers_from (length n.sent + (length front + 1)) (length front))
    (after_node_call index node (takes (Bytes port piece now)) n)
others_are_awaited config a moments came n ballot index node front last port x list start now piece connect can apart out each =
    let h =
    (cut_groups_answer rules config a moments came ballot index (replica_of node.core) (begun_log list start) (front ++ last ∷ []) (commands.Connect x connect.client false)
    (replica_at a n can.seen index node can.stands) can.serves can.room).1 front last refl apart out each in
    awaits_others config a moments came n ballot index node (front ++ last ∷ []) port x list start now piece connect can front last h
