-- Each move of a node is one event among replicas, or none.
use Rattle.std.proofs.Common.{inl, inr, ◌⊎◌, ◌≡◌, ℕ, Bool, true, false, ◌&&◌, if◌then◌else◌, nat_lt, List, [], ◌∷◌, ◌++◌, Option, Some, slice_get, slice_set, map, refl, sym, ap, ◌∙◌, subst, arith}
use Rattle.std.proofs.lemmas.List.{append-nil, length-take-le}
use Rattle.lists.specs.Lists.{In, IsPrefixOf}
use Rattle.lists.proofs.Prefixes.{prefix_length}
use Rattle.lists.proofs.Tests.{eq_same}
use Rattle.agreement.specs.whole_logs.Application.{outputs_between}
use Rattle.lists.specs.Lists.In.{there}
use Rattle.ballot_base.specs.declared.config.Config.{Config}
use Rattle.ballot_base.specs.Logs.{places}
use Rattle.ballot_base.specs.Losses.{Loses, Thinned, halted}
use Rattle.ballot_base.specs.declared.message.Message.{Message}
use Rattle.ballot_base.specs.Protocol.{Input, replica_step}
use Rattle.ballot_base.specs.Protocol.Input.{Receives, Proposes, Ticks}
use Rattle.ballot_base.specs.Replica.{CountedReplica, ReplicaState}
use Rattle.ballot_base.specs.StepOutcome.{Outcome, nothing_done}
use Rattle.ballot_base.specs.Service.{max_places, proposed}
use Rattle.broker_base.specs.State.{State}
use Rattle.broker_spec.specs.declared.command.Command.{Command}
use Rattle.broker_spec.specs.declared.command.Command.TheVariants as commands
use Rattle.broker_spec.specs.declared.command.Output.{Output}
use Rattle.broker_spec.specs.Connection.{ConnectionName}
use Rattle.exactly_once.specs.StoryCommands.{is_packet_of}
use Rattle.agreement.specs.MasterState.{MasterState}
use Rattle.agreement.specs.NodeOutputs.{GivesNext}
use Rattle.agreement.specs.cut_logs.NodeOutputs.{given_in as gives_in}
use Rattle.agreement.specs.World.{outputs as whole_outputs}
use Rattle.agreement.specs.cut_logs.Moments.{Moment, Moments, IsAgreed, whole_moment}
use Rattle.agreement.specs.cut_logs.Whole.{whole, whole_log}
use Rattle.agreement.proofs.of_cut_logs.MomentsKept.{moments_stand}
use Rattle.agreement.proofs.of_cut_logs.Views.{get_whole}
use Rattle.agreement.specs.Moments.{IsChosen, WasActive}
use Rattle.agreement.specs.cut_logs.Moments.Moments.{went_on}
use Rattle.agreement.specs.cut_logs.Proposals.{proposal_by, proposal_of, proposals_of, taken_in, taken_of}
use Rattle.agreement.specs.cut_logs.Steps.{MayHappen}
use Rattle.agreement.specs.cut_logs.World.{MayTake}
use Rattle.agreement.specs.cut_logs.Steps.MayHappen.{node_goes}
use Rattle.agreement.specs.cut_logs.World.{NodeGoes as goes}
use Rattle.agreement.specs.cut_logs.World.{CutGroupWorld, messages, outputs}
use Rattle.agreement.specs.cut_logs.World.{moved as moved_world}
use Rattle.agreement.proofs.of_cut_logs.MomentsAgree.{nodes_agree}
use Rattle.agreement.proofs.of_cut_logs.MomentsAgree.{agreed_grows}
use Rattle.agreement.proofs.Agreed.MomentsKnown.{moments_known}
use Rattle.agreement.proofs.of_cut_logs.NextPlaces.{answers_at_the_next_places}
use Rattle.agreement.proofs.Given.Places.{none_between}
use Rattle.agreement.proofs.Given.StepGives.{from_active}
use Rattle.world_base.specs.declared.node_connections.connection.Connection.{Connection}
use Rattle.world_base.specs.declared.node_connections.port.Port.{Port}
use Rattle.world_base.specs.node_core.Core.{CoreState, StepOutcome, rules, serves}
use Rattle.world_base.specs.node_core.FailedConnections.{closes_failed}
use Rattle.world_base.specs.node_core.PacketInput.{changes}
use Rattle.world_base.specs.node_core.Effects.{drives, has_room, outcome_of_input, after_replica_step, proposes, without_messages}
use Rattle.world_base.specs.node_connections.ConnectionChanges.{noted_proposed, closed_connection, with_unread, left_with}
use Rattle.world_base.specs.node_core.PortOutput.{hands_over}
use Rattle.world_base.specs.node_connections.Refusals.{connect_refused}
use Rattle.world_base.specs.node_core.Step.{with_next_connection, settled, with_cut}
use Rattle.headline.specs.node_moves.Moves.{NodeMove, is_proposal}
use Rattle.headline.specs.node_moves.Moves.NodeMove.{hears, opens_one, holds, reads_first, reads_later, closes, refuses, loses_one, loses_next, expels_one, cuts_log, crashes, settles, hands}
use Rattle.headline.specs.node_moves.Puts.{move_effects}
use Rattle.ballot_base.specs.Compaction.{can_cut, cut}
use Rattle.agreement.specs.cut_logs.World.{recorded}
use Rattle.std.specs.Prelude.{not}
use Rattle.std.proofs.lemmas.Bool.{and_parts, ltb-true}
use Rattle.headline.specs.node_group.Group.{Group, group_after_outcome, moment_of_nodes, replica_of, with_record}
use Rattle.headline.specs.node_group.Steps.{InputWasSent, WasSent, with_messages, put_in_move}
use Rattle.headline.specs.node_group.GroupMoments.{packets_in}
use Rattle.headline.specs.node_group.Proposals.{recorded_by}
use Rattle.headline.proofs.of_node_group.Packets.{AreTaken, HasRoomFor, none_taken, packets_join, proposal_taken}
use Rattle.headline.proofs.of_node_group.Placed.{get_mapped, set_mapped, set_same}
use Rattle.headline.proofs.of_node_group.Thinning.{Given, KeptOf, kept_of_all, nothing_kept}
use Rattle.headline.proofs.of_node_group.Replicas.{changes_keep, hands_keeps, moved_replica, opens_keeps, room_serves, serving_runs, settles_keeps}

-- Moments continue to this moment, by events in which these commands were proposed; what is agreed
-- grows.
pub record Further {config : Config} {a : Moment State Command Output} {earlier : List (Moment State Command Output)} (came : Moments rules config (a ∷ earlier))
    (b : Moment State Command Output) (put : List (ℕ × Command)) : Type 0 where
  pub before : List (Moment State Command Output)
  pub moments : Moments rules config (b ∷ before)
  pub proposed : proposals_of moments ≡ proposals_of came ++ put
  pub taken : (x : ConnectionName) → packets_in x (taken_of moments) ≡ packets_in x (taken_of came) ++ packets_in x put
  pub kept : (z : Moment State Command Output) → In z (a ∷ earlier) → In z (b ∷ before)
  pub grows : (xs ys : List Command) → IsAgreed config (a ∷ earlier) xs → IsAgreed config (b ∷ before) ys → IsPrefixOf xs ys

-- By no event or by one, in which the node at this index gave these outputs, each with its place in the list.
pub record Once {config : Config} {a : Moment State Command Output} {earlier : List (Moment State Command Output)} (came : Moments rules config (a ∷ earlier))
    (b : Moment State Command Output) (put : List (ℕ × Command)) (n : ℕ) (given : List (ℕ × Output)) : Type 0 where
  pub further : Further came b put
  pub gives : (xs : List Command) → IsAgreed config (b ∷ further.before) xs → (old new : ReplicaState State Command) → slice_get a.world.nodes n ≡ Some old
      → slice_get b.world.nodes n ≡ Some new → GivesNext rules (whole a.world.archive old) (whole b.world.archive new) xs given

-- one more event, in which the node at an index gave this
pub by_event : {config : Config} {a : Moment State Command Output} {earlier : List (Moment State Command Output)} (came : Moments rules config (a ∷ earlier))
    (b : Moment State Command Output) (step : MayHappen rules a.master a.world b.master b.world) (put : List (ℕ × Command)) (n : ℕ) (given : List (ℕ × Output))
    → proposal_of step ≡ put → ((x : ConnectionName) → packets_in x (taken_in step) ≡ packets_in x put) → gives_in n step ≡ given → Once came b put n given
by_event {config = config} {a = a} {earlier = earlier} came b step put n given proposed taken is =
    record {
      further = record {
        before = a ∷ earlier;
        moments = went_on came step;
        proposed = ap (λ l. proposals_of came ++ l) proposed;
        taken = λ x. packets_join x (taken_of came) (taken_in step) ∙ ap (λ l. packets_in x (taken_of came) ++ l) (taken x);
        kept = λ z i. there i;
        grows = λ xs ys before after. agreed_grows rules config b (a ∷ earlier) xs ys before after;
      };
      gives = λ xs after old new stood stands.
          subst (GivesNext rules (whole a.world.archive old) (whole b.world.archive new) xs) is (answers_at_the_next_places rules config a b earlier xs came after step n old new stood stands);
    }

-- ---- moments of groups

same_world : (archive : List Command) {nodes later_nodes : List (ReplicaState State Command)} {sent later_sent : List (ℕ × Message Command)} {left later_left : List (ℕ × Output)}
    → nodes ≡ later_nodes → sent ≡ later_sent → left ≡ later_left
    → (let w : CutGroupWorld State Command Output = record { nodes = nodes; sent = sent; left = left; archive = archive } in w)
    ≡ (let v : CutGroupWorld State Command Output = record { nodes = later_nodes; sent = later_sent; left = later_left; archive = archive } in v)
same_world archive a b c = rw (a, b, c) refl

abbrev with_world : MasterState → CutGroupWorld State Command Output → Moment State Command Output
with_world m w = record { master = m; world = w }

-- after a turn the replica at the index is this one
after_is : (g : Group) (n : ℕ) (outcome : StepOutcome) (given effects : Given) (new : ReplicaState State Command) → replica_of outcome.core ≡ new
    → messages outcome.messages ≡ messages effects → outputs given ≡ outputs effects
    → with_world g.master (let w : CutGroupWorld State Command Output = record { nodes = slice_set (map replica_of g.nodes) n new; sent = g.sent ++ messages effects; left = g.left ++ outputs effects; archive = g.archive } in w)
    ≡ moment_of_nodes (group_after_outcome g n outcome given)
after_is g n outcome given effects new replica sent left =
    ap (with_world g.master)
    (sym (same_world g.archive (set_mapped replica_of g.nodes n outcome.core ∙ ap (λ r. slice_set (map replica_of g.nodes) n r) replica)
    (ap (λ l. g.sent ++ l) sent) (ap (λ l. g.left ++ l) left)))

-- ---- no event

-- a turn that leaves the replica as it is, and hands out nothing
stays_as_it_is : (g : Group) (n : ℕ) (core : CoreState) (outcome : StepOutcome) (given : Given) → slice_get g.nodes n ≡ Some core → replica_of outcome.core ≡ replica_of core
    → messages outcome.messages ≡ [] → outputs given ≡ [] → moment_of_nodes g ≡ moment_of_nodes (group_after_outcome g n outcome given)
stays_as_it_is g n core outcome given at same none_sent none_left =
    ap (with_world g.master)
    (same_world g.archive
    (sym (set_mapped replica_of g.nodes n outcome.core ∙ ap (λ r. slice_set (map replica_of g.nodes) n r) same
    ∙ set_same (map replica_of g.nodes) n (replica_of core) (get_mapped replica_of g.nodes n core at)))
    (sym (ap (λ l. g.sent ++ l) none_sent ∙ append-nil g.sent)) (sym (ap (λ l. g.left ++ l) none_left ∙ append-nil g.left)))

-- what is agreed at one moment is one list
pub one_agreed : (config : Config) (moments : List (Moment State Command Output)) (xs ys : List Command) → IsAgreed config moments xs → IsAgreed config moments ys → IsPrefixOf xs ys
one_agreed config moments xs ys first other = by first.chosen
  where
    by : (xs ≡ []) ⊎ ((b : ℕ) × WasActive (map whole_moment moments) b × IsChosen config (map whole_moment moments) b xs) → IsPrefixOf xs ys
    by (inl empty) = record { rest = ys; is = ap (λ l. l ++ ys) (sym empty) }
    by (inr (b, active, chosen)) = other.longest b xs active chosen

-- a node that does nothing gives nothing
gives_none : (config : Config) (a : Moment State Command Output) (earlier : List (Moment State Command Output)) → Moments rules config (a ∷ earlier) → (xs : List Command)
    → IsAgreed config (a ∷ earlier) xs → (n : ℕ) (r : ReplicaState State Command) → slice_get a.world.nodes n ≡ Some r → GivesNext rules (whole a.world.archive r) (whole a.world.archive r) xs []
gives_none config a earlier came xs is n r stands =
    let q = moments_stand rules config a earlier came in
    let there' = get_whole (whole a.world.archive) a.world.nodes n r stands in
    let within = ((moments_known rules config (whole_moment a) q.earlier q.kept.came).serves.sound.nodes n (whole a.world.archive r) there').within in
    let short = prefix_length ((nodes_agree rules config a earlier xs came is).0.applied n (whole a.world.archive r) there') in
    let long = length-take-le r.committed (whole_log a.world.archive r.log) within in
    record {
      idle = λ other. refl;
      rising = λ active. let from = from_active (whole a.world.archive r) active in omega (arith, from);
      inside = omega (arith, short, long);
      next = λ active. sym (ap (λ k. whole_outputs (outputs_between rules xs k r.committed)) (from_active (whole a.world.archive r) active) ∙ none_between rules xs r.committed);
    }

-- nothing happens
abbrev pub unchanged : {config : Config} {a : Moment State Command Output} {earlier : List (Moment State Command Output)} (came : Moments rules config (a ∷ earlier)) → Further came a []
unchanged {config = config} {a = a} {earlier = earlier} came =
    record {
      before = earlier;
      moments = came;
      proposed = sym (append-nil (proposals_of came));
      taken = λ x. sym (append-nil (packets_in x (taken_of came)));
      kept = λ z i. i;
      grows = one_agreed config (a ∷ earlier);
    }

no_event : (config : Config) (a b : Moment State Command Output) (earlier : List (Moment State Command Output)) (came : Moments rules config (a ∷ earlier)) (n : ℕ) → a ≡ b
    → Once came b [] n []
no_event config a b earlier came n same =
    subst (λ z. Once came z [] n []) same (record {
      further = unchanged came;
      gives = λ xs is old new stood stands.
          subst (λ (r : ReplicaState State Command). GivesNext rules (whole a.world.archive old) (whole a.world.archive r) xs []) (one_replica old new (sym stood ∙ stands))
          (gives_none config a earlier came xs is n old stood);
    })
  where
    one_replica : (r s : ReplicaState State Command) → (let o : Option (ReplicaState State Command) = Some r in o) ≡ Some s → r ≡ s
    one_replica r s e = cc

-- ---- one step of a replica

-- the replica takes a step on this, perhaps with losses; these messages and these outputs are what it gave
pub one_step : (g : Group) (n : ℕ) (core : CoreState) (outcome : StepOutcome) (input : Input Command) (new : ReplicaState State Command) (given thin : Given) (config : Config)
    (earlier : List (Moment State Command Output)) (came : Moments rules config (moment_of_nodes g ∷ earlier)) → slice_get g.nodes n ≡ Some core
    → (replica_of core).stopped ≡ false → MayTake (moment_of_nodes g).world n input → replica_of outcome.core ≡ new
    → Loses rules (replica_of core) (replica_step rules (replica_of core) input) new thin → messages outcome.messages ≡ messages thin → outputs given ≡ outputs thin
    → AreTaken (replica_of core) new input → Once came (moment_of_nodes (group_after_outcome g n outcome given)) (proposal_by (replica_of core) input) n (outputs given)
one_step g n core outcome input new given thin config earlier came at runs may replica lost sent left took =
    subst (λ z. Once came z (proposal_by (replica_of core) input) n (outputs given)) (after_is g n outcome given thin new replica sent left)
    (by_event came _ step (proposal_by (replica_of core) input) n (outputs given) refl took
    (ap (λ b. if b then outputs thin else []) (eq_same n) ∙ sym left))
  where
    step : MayHappen rules g.master (moment_of_nodes g).world g.master (moved_world (moment_of_nodes g).world n new thin)
    step = node_goes (goes.takes n (replica_of core) input (get_mapped replica_of g.nodes n core at) runs may lost)

-- a crash
pub one_stop : (g : Group) (n : ℕ) (core : CoreState) (outcome : StepOutcome) (given : Given) (config : Config) (earlier : List (Moment State Command Output))
    (came : Moments rules config (moment_of_nodes g ∷ earlier)) → slice_get g.nodes n ≡ Some core → replica_of outcome.core ≡ halted rules (replica_of core)
    → messages outcome.messages ≡ [] → outputs given ≡ [] → Once came (moment_of_nodes (group_after_outcome g n outcome given)) [] n (outputs given)
one_stop g n core outcome given config earlier came at replica none_sent none_left =
    subst (λ z. Once came z [] n (outputs given)) (after_is g n outcome given [] (halted rules (replica_of core)) replica none_sent none_left)
    (by_event came _ step [] n (outputs given) refl (λ x. refl) (sym none_left))
  where
    step : MayHappen rules g.master (moment_of_nodes g).world g.master (moved_world (moment_of_nodes g).world n (halted rules (replica_of core)) [])
    step = node_goes (goes.stops n (replica_of core) (get_mapped replica_of g.nodes n core at))

-- a cut, after which the record has the places that the replica applied
pub one_cut : (g : Group) (n : ℕ) (core : CoreState) (config : Config) (earlier : List (Moment State Command Output))
    (came : Moments rules config (moment_of_nodes g ∷ earlier)) → slice_get g.nodes n ≡ Some core → can_cut (replica_of core) ≡ true
    → rules.thawed (rules.frozen (replica_of core).machine) ≡ Some (replica_of core).machine
    → Once came (moment_of_nodes (group_after_outcome (with_record g (recorded g.archive (replica_of core))) n (without_messages (with_cut core)) [])) [] n []
one_cut g n core config earlier came at can reads =
    subst (λ z. Once came z [] n []) (after_is (with_record g (recorded g.archive (replica_of core))) n (without_messages (with_cut core)) [] [] (cut rules (replica_of core)) refl refl refl)
    (by_event came _ step [] n [] refl (λ x. refl) refl)
  where
    going : (b : Bool) → not b ≡ true → b ≡ false
    going true e = cc
    going false e = refl

    parts : ((not (replica_of core).stopped) ≡ true) × (nat_lt (replica_of core).log.base (replica_of core).committed ≡ true)
    parts = and_parts (not (replica_of core).stopped) (nat_lt (replica_of core).log.base (replica_of core).committed) can

    step : MayHappen rules g.master (moment_of_nodes g).world g.master
        (record (moved_world (moment_of_nodes g).world n (cut rules (replica_of core)) []) { archive = recorded g.archive (replica_of core) })
    step =
        node_goes (goes.cuts n (replica_of core) (get_mapped replica_of g.nodes n core at) (going (replica_of core).stopped parts.0)
        (ltb-true (replica_of core).log.base (replica_of core).committed parts.1) reads)

-- nothing happens to the replica
pub no_step : (g : Group) (n : ℕ) (core : CoreState) (outcome : StepOutcome) (given : Given) (config : Config) (earlier : List (Moment State Command Output))
    (came : Moments rules config (moment_of_nodes g ∷ earlier)) → slice_get g.nodes n ≡ Some core → replica_of outcome.core ≡ replica_of core
    → messages outcome.messages ≡ [] → outputs given ≡ [] → Once came (moment_of_nodes (group_after_outcome g n outcome given)) [] n (outputs given)
no_step g n core outcome given config earlier came at replica none_sent none_left =
    subst (λ (l : List (ℕ × Output)). Once came (moment_of_nodes (group_after_outcome g n outcome given)) [] n l) (sym none_left)
    (no_event config (moment_of_nodes g) _ earlier came n (stays_as_it_is g n core outcome given at replica none_sent none_left))

-- ---- moves

-- what must hold for each move, of which these messages are kept
abbrev Happens : Group → ℕ → (core : CoreState) (outcome : StepOutcome) → NodeMove core outcome → Given → Type 0
Happens g n core outcome m kept = (config : Config) (earlier : List (Moment State Command Output)) (came : Moments rules config (moment_of_nodes g ∷ earlier))
    → Once came (moment_of_nodes (group_after_outcome (with_record g (recorded_by g.archive m)) n (with_messages kept outcome) (move_effects m))) (put_in_move m) n (outputs (move_effects m))

pub happens_without_messages : (g : Group) (n : ℕ) (core later : CoreState) (kept : Given) → slice_get g.nodes n ≡ Some core → replica_of later ≡ replica_of core → Thinned kept []
    → (config : Config) (earlier : List (Moment State Command Output)) (came : Moments rules config (moment_of_nodes g ∷ earlier))
    → Once came (moment_of_nodes (group_after_outcome g n (with_messages kept (without_messages later)) [])) [] n []
happens_without_messages g n core later kept at same t config earlier came =
    no_step g n core (with_messages kept (without_messages later)) [] config earlier came at same (ap messages (nothing_kept kept t)) refl

pub state_of : (a b : CoreState) → a.replica ≡ b.replica → replica_of a ≡ replica_of b
state_of a b same = ap (λ (r : CountedReplica State Command). r.state) same

pub changed_state : (port : Port) (f : Connection → Connection) (core : CoreState) → replica_of (changes port f core) ≡ replica_of core
changed_state port f core = state_of (changes port f core) core (changes_keep port f core)

pub serves_as : (a b : CoreState) → a.replica ≡ b.replica → serves a ≡ serves b
serves_as a b same =
    ap (λ (r : CountedReplica State Command). serves (let k : CoreState = record { replica = r; last_name = record { ballot = 0; count = 0 }; connections = [] } in k)) same

-- a step of only the replica, of which these messages are kept
moved_happens : (g : Group) (n : ℕ) (core between : CoreState) (input : Input Command) (kept : Given) → slice_get g.nodes n ≡ Some core
    → (replica_of core).stopped ≡ false → MayTake (moment_of_nodes g).world n input → AreTaken (replica_of core) (replica_step rules (replica_of core) input).state input
    → KeptOf kept (replica_step rules (replica_of core) input).effects → (config : Config) (earlier : List (Moment State Command Output))
    (came : Moments rules config (moment_of_nodes g ∷ earlier))
    → Once came (moment_of_nodes (group_after_outcome g n (with_messages kept (after_replica_step (replica_step rules (replica_of core) input) between)) (replica_step rules (replica_of core) input).effects))
    (proposal_by (replica_of core) input) n (outputs (replica_step rules (replica_of core) input).effects)
moved_happens g n core between input kept at runs may took k config earlier came =
    one_step g n core (with_messages kept (after_replica_step (replica_step rules (replica_of core) input) between)) input (replica_step rules (replica_of core) input).state
    (replica_step rules (replica_of core) input).effects k.thin config earlier came at runs may (moved_replica (replica_step rules (replica_of core) input) between)
    (inl (refl, k.thinned)) k.sent k.left took

-- a command is put to the replica of a node that serves
put_happens : (g : Group) (n : ℕ) (core between : CoreState) (command : Command) (kept : Given) → slice_get g.nodes n ≡ Some core → between.replica ≡ core.replica
    → serves core ≡ true → HasRoomFor core command → Thinned kept (proposes command between).messages → (config : Config) (earlier : List (Moment State Command Output))
    (came : Moments rules config (moment_of_nodes g ∷ earlier))
    → Once came (moment_of_nodes (group_after_outcome g n (with_messages kept (proposes command between)) (proposed rules (replica_of core) command).effects)) (((replica_of core).joined, command) ∷ []) n
    (outputs (proposed rules (replica_of core) command).effects)
unfolding proposes
put_happens g n core between command kept at same serving room t config earlier came =
    subst (λ (c : CoreState). Once came (moment_of_nodes (group_after_outcome g n (let u : StepOutcome = record { core = c; messages = kept } in u) (proposed rules (replica_of core) command).effects))
    (((replica_of core).joined, command) ∷ []) n (outputs (proposed rules (replica_of core) command).effects)) (sym is)
    (moved_happens g n core between (Proposes command) kept at (serving_runs core serving) tt (proposal_taken core command serving room)
    (kept_of_all (proposed rules (replica_of core) command).effects kept (by serving_between t)) config earlier came)
  where
    serving_between : serves between ≡ true
    serving_between = serves_as between core same ∙ serving

    core_if : Bool → CoreState
    core_if b = (let u : StepOutcome = if b then after_replica_step (proposed rules (replica_of between) command) between else without_messages between in u).core

    is : core_if (serves between) ≡ (after_replica_step (proposed rules (replica_of core) command) between).core
    is = ap core_if serving_between ∙ ap (λ (r : ReplicaState State Command). (after_replica_step (proposed rules r command) between).core) (state_of between core same)

    by : {b : Bool} → b ≡ true → Thinned kept (let u : StepOutcome = if b then after_replica_step (proposed rules (replica_of between) command) between else without_messages between in u).messages
        → Thinned kept (after_replica_step (proposed rules (replica_of core) command) between).messages
    by {b = true} e f = subst (λ (r : ReplicaState State Command). Thinned kept (after_replica_step (proposed rules r command) between).messages) (state_of between core same) f
    by {b = false} e f = absurd cc

-- a replica that has stopped does nothing
heard_stopped : (b : Bool) (r : ReplicaState State Command) (input : Input Command) → b ≡ true
    → (if b then nothing_done Output r else replica_step rules r input) ≡ nothing_done Output r
heard_stopped true r input e = refl
heard_stopped false r input e = absurd cc

heard_running : (b : Bool) (r : ReplicaState State Command) (input : Input Command) → b ≡ false
    → (if b then nothing_done Output r else replica_step rules r input) ≡ replica_step rules r input
heard_running true r input e = absurd cc
heard_running false r input e = refl

pub heard_as_stopped : (r : ReplicaState State Command) (input : Input Command) → r.stopped ≡ true → outcome_of_input input r ≡ nothing_done Output r
heard_as_stopped r input e = heard_stopped r.stopped r input e

pub heard_as_running : (r : ReplicaState State Command) (input : Input Command) → r.stopped ≡ false → outcome_of_input input r ≡ replica_step rules r input
heard_as_running r input e = heard_running r.stopped r input e

pub may_take : (g : Group) (n : ℕ) (i : Input Command) → is_proposal i ≡ false → InputWasSent g n i → MayTake (moment_of_nodes g).world n i
may_take g n (Receives message) e s = s
may_take g n (Proposes command) e s = absurd cc
may_take g n Ticks e s = tt

pub none_put : (core : CoreState) (i : Input Command) → is_proposal i ≡ false → proposal_by (replica_of core) i ≡ []
none_put core (Receives message) e = refl
none_put core (Proposes command) e = absurd cc
none_put core Ticks e = refl

heard_happens : (g : Group) (n : ℕ) (core : CoreState) (input : Input Command) (kept : Given) → slice_get g.nodes n ≡ Some core → is_proposal input ≡ false
    → InputWasSent g n input → Thinned kept (drives input core).messages → (config : Config) (earlier : List (Moment State Command Output))
    (came : Moments rules config (moment_of_nodes g ∷ earlier))
    → Once came (moment_of_nodes (group_after_outcome g n (with_messages kept (drives input core)) (outcome_of_input input (replica_of core)).effects)) [] n (outputs (outcome_of_input input (replica_of core)).effects)
unfolding drives
heard_happens g n core input kept at other sent t config earlier came = by (replica_of core).stopped refl t
  where
    after : Outcome State Command Output → Type 0
    after o = Thinned kept (after_replica_step o core).messages → Once came (moment_of_nodes (group_after_outcome g n (with_messages kept (after_replica_step o core)) o.effects)) [] n (outputs o.effects)

    by : (b : Bool) → (replica_of core).stopped ≡ b → after (outcome_of_input input (replica_of core))
    by true e =
        subst after (sym (heard_as_stopped (replica_of core) input e))
        (λ f.
        no_step g n core (with_messages kept (after_replica_step (nothing_done Output (replica_of core)) core)) [] config earlier came at
        (moved_replica (nothing_done Output (replica_of core)) core) (ap messages (nothing_kept kept f)) refl)
    by false e =
        subst after (sym (heard_as_running (replica_of core) input e))
        (λ f.
        subst (λ l. Once came (moment_of_nodes (group_after_outcome g n (with_messages kept (after_replica_step (replica_step rules (replica_of core) input) core)) (replica_step rules (replica_of core) input).effects)) l n
        (outputs (replica_step rules (replica_of core) input).effects))
        (none_put core input other)
        (moved_happens g n core core input kept at e (may_take g n input other sent) (none_taken (replica_of core) (replica_step rules (replica_of core) input).state input other)
        (kept_of_all (replica_step rules (replica_of core) input).effects kept f) config earlier came))

-- if the node does not serve, it is not reported that a connection is lost
lost_unheard : (g : Group) (n : ℕ) (core between : CoreState) (command : Command) (kept : Given) → slice_get g.nodes n ≡ Some core → between.replica ≡ core.replica
    → serves core ≡ false → Thinned kept (proposes command between).messages → (config : Config) (earlier : List (Moment State Command Output))
    (came : Moments rules config (moment_of_nodes g ∷ earlier)) → Once came (moment_of_nodes (group_after_outcome g n (with_messages kept (proposes command between)) [])) [] n []
unfolding proposes
lost_unheard g n core between command kept at same none_served t config earlier came = by (serves between) (serves_as between core same ∙ none_served) t
  where
    by : (b : Bool) → b ≡ false → Thinned kept (let u : StepOutcome = if b then after_replica_step (proposed rules (replica_of between) command) between else without_messages between in u).messages
        → Once came (moment_of_nodes (group_after_outcome g n (with_messages kept (let u : StepOutcome = if b then after_replica_step (proposed rules (replica_of between) command) between else without_messages between in u)) [])) [] n []
    by true e f = absurd cc
    by false e f = happens_without_messages g n core between kept at (state_of between core same) f config earlier came

-- if it serves, that is reported to the broker
lost_happens : (g : Group) (n : ℕ) (core between : CoreState) (command : Command) (kept : Given) → slice_get g.nodes n ≡ Some core → between.replica ≡ core.replica
    → HasRoomFor core command → (b : Bool) → serves core ≡ b → Thinned kept (proposes command between).messages → (config : Config)
    (earlier : List (Moment State Command Output)) (came : Moments rules config (moment_of_nodes g ∷ earlier))
    → Once came (moment_of_nodes (group_after_outcome g n (with_messages kept (proposes command between)) (if b then (proposed rules (replica_of core) command).effects else [])))
    (map (λ put. ((replica_of core).joined, put)) (if b then command ∷ [] else [])) n (outputs (if b then (proposed rules (replica_of core) command).effects else []))
lost_happens g n core between command kept at same room true e t = put_happens g n core between command kept at same e room t
lost_happens g n core between command kept at same room false e t = lost_unheard g n core between command kept at same e t

pub room_is : (core : CoreState) → has_room core ≡ true → nat_lt (places (replica_of core).log) max_places ≡ true
room_is core room = right_true (serves core) (nat_lt (places (replica_of core).log) max_places) room
  where
    right_true : (a b : Bool) → (a && b) ≡ true → b ≡ true
    right_true true b e = e
    right_true false b e = absurd cc

-- a loss is no packet
lost_is_none : (core : CoreState) (name : ConnectionName) → HasRoomFor core (commands.Lost name)
lost_is_none core name x is = let e : is_packet_of (commands.Lost name) x ≡ true = is in absurd cc

expel_is_none : (core : CoreState) (client : List ℕ) → HasRoomFor core (commands.Expel client)
expel_is_none core client x is = let e : is_packet_of (commands.Expel client) x ≡ true = is in absurd cc

-- the log is cut
cut_happens : (g : Group) (n : ℕ) (core : CoreState) (kept : Given) → slice_get g.nodes n ≡ Some core → can_cut (replica_of core) ≡ true
    → rules.thawed (rules.frozen (replica_of core).machine) ≡ Some (replica_of core).machine → Thinned kept []
    → (config : Config) (earlier : List (Moment State Command Output)) (came : Moments rules config (moment_of_nodes g ∷ earlier))
    → Once came (moment_of_nodes (group_after_outcome (with_record g (recorded g.archive (replica_of core))) n (with_messages kept (without_messages (with_cut core))) [])) [] n []
cut_happens g n core kept at can reads t config earlier came =
    subst (λ (l : Given). Once came (moment_of_nodes (group_after_outcome (with_record g (recorded g.archive (replica_of core))) n (with_messages l (without_messages (with_cut core))) [])) [] n [])
    (sym (nothing_kept kept t)) (one_cut g n core config earlier came at can reads)

pub moves_happen : (g : Group) (n : ℕ) (core : CoreState) (outcome : StepOutcome) (m : NodeMove core outcome) (kept : Given) → slice_get g.nodes n ≡ Some core → WasSent g n m
    → Thinned kept outcome.messages → Happens g n core outcome m kept
moves_happen g n core outcome (hears input other) kept at sent t = heard_happens g n core input kept at other sent t
moves_happen g n core outcome (opens_one port) kept at sent t = happens_without_messages g n core _ kept at (state_of (with_next_connection port core) core (opens_keeps port core)) t
moves_happen g n core outcome (holds port piece) kept at sent t = happens_without_messages g n core _ kept at (changed_state port (with_unread piece) core) t
moves_happen g n core outcome (reads_first now port c connect rest is_at first is room) kept at sent t =
    put_happens g n core (changes port (noted_proposed connect.keep_alive) (changes port (left_with now rest) core)) _ kept at
    (changes_keep port (noted_proposed connect.keep_alive) (changes port (left_with now rest) core) ∙ changes_keep port (left_with now rest) core)
    (room_serves core (nat_lt (places (replica_of core).log) max_places) room) (λ x is_one. room_is core room) t
moves_happen g n core outcome (reads_later now port c packet rest is_at later is room) kept at sent t =
    put_happens g n core (changes port (left_with now rest) core) _ kept at (changes_keep port (left_with now rest) core)
    (room_serves core (nat_lt (places (replica_of core).log) max_places) room) (λ x is_one. room_is core room) t
moves_happen g n core outcome (closes port) kept at sent t = happens_without_messages g n core _ kept at (changed_state port closed_connection core) t
moves_happen g n core outcome (refuses port c code is_at first is) kept at sent t = happens_without_messages g n core _ kept at (changed_state port (connect_refused code) core) t
moves_happen g n core outcome (loses_one port c is_at was_asked) kept at sent t =
    lost_happens g n core (changes port closed_connection core) (commands.Lost c.name) kept at (changes_keep port closed_connection core) (lost_is_none core c.name) (serves core) refl t
moves_happen g n core outcome (loses_next c is_at) kept at sent t =
    lost_happens g n core (closes_failed core) (commands.Lost c.name) kept at refl (lost_is_none core c.name) (serves core) refl t
moves_happen g n core outcome (expels_one client) kept at sent t =
    lost_happens g n core core (commands.Expel client) kept at refl (expel_is_none core client) (serves core) refl t
moves_happen g n core outcome (cuts_log can) kept at sent t = cut_happens g n core kept at can sent t
moves_happen g n core outcome crashes kept at sent t =
    λ config earlier came. one_stop g n core (with_messages kept outcome) [] config earlier came at refl (ap messages (nothing_kept kept t)) refl
moves_happen g n core outcome settles kept at sent t = happens_without_messages g n core _ kept at (state_of (settled core) core (settles_keeps core)) t
moves_happen g n core outcome (hands port) kept at sent t = happens_without_messages g n core _ kept at (state_of (hands_over port core) core (hands_keeps port core)) t
