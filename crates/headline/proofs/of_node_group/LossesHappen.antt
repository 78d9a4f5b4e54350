-- Each move of a node in which something may be lost is one event among replicas, or none.
use Rattle.std.proofs.Common.{inl, inr, ◌≡◌, ℕ, Bool, true, false, not, ◌&&◌, nat_lt, List, [], ◌∷◌, Some, slice_get, refl, sym, ap, ◌∙◌, subst}
use Rattle.std.proofs.lemmas.Bool.{ltb-true}
use Rattle.ballot_base.specs.declared.config.Config.{Config}
use Rattle.ballot_base.specs.Logs.{places}
use Rattle.ballot_base.specs.Losses.{Loses, Thinned}
use Rattle.ballot_base.specs.Protocol.{Input}
use Rattle.ballot_base.specs.Protocol.Input.{Proposes}
use Rattle.ballot_base.specs.Replica.{CountedReplica, ReplicaState, is_active}
use Rattle.ballot_base.specs.StepOutcome.{Outcome, nothing_done}
use Rattle.ballot_base.specs.Service.{added, max_places, proposed}
use Rattle.ballot_base.proofs.StepRows.{proposed-adds}
use Rattle.broker_base.specs.State.{State}
use Rattle.broker_spec.specs.declared.command.Command.{Command}
use Rattle.broker_spec.specs.declared.command.Command.TheVariants as commands
use Rattle.broker_spec.specs.declared.command.Output.{Output}
use Rattle.agreement.specs.cut_logs.Moments.{Moment, Moments}
use Rattle.agreement.specs.cut_logs.World.{messages, outputs}
use Rattle.world_base.specs.node_connections.ConnectionChanges.{noted_proposed, closed_connection, failing, left_with}
use Rattle.world_base.specs.node_core.Core.{CoreState, StepOutcome, rules, serves}
use Rattle.world_base.specs.node_core.Lossy.{Account, Drives, TakesCommand}
use Rattle.world_base.specs.node_core.PacketInput.{changes}
use Rattle.world_base.specs.node_core.Effects.{has_room, outcome_of_input}
use Rattle.headline.specs.node_moves.LossyMoves.{NodeMoveOrLost, outcome_in}
use Rattle.headline.specs.node_moves.LossyParts.{move_effects, inputs_in}
use Rattle.headline.specs.node_moves.LossyRuns.{CutsThaw}
use Rattle.headline.specs.node_moves.LossyMoves.NodeMoveOrLost.{exactly, hears_losing, first_losing, later_losing, tells_losing, expels_losing, forgets, halts, fails, unheard, drops}
use Rattle.headline.specs.node_moves.Moves.{is_proposal}
use Rattle.headline.proofs.of_node_moves.LossyOutputs.{delivers_replica}
use Rattle.headline.specs.node_group.Group.{Group, group_after_outcome, moment_of_nodes, replica_of, with_record}
use Rattle.headline.specs.node_group.Steps.{InputWasSent, with_messages}
use Rattle.headline.specs.node_group.Losses.{WereSent, put_in_move, recorded_by}
use Rattle.headline.proofs.of_node_group.LosingNone.{sent_by}
use Rattle.headline.proofs.of_node_group.MovesHappen.{Once, changed_state, heard_as_running, heard_as_stopped, may_take, moves_happen, no_step, none_put, one_step, one_stop, happens_without_messages, room_is, state_of}
use Rattle.headline.proofs.of_node_group.Packets.{AreTaken, none_taken, proposal_taken}
use Rattle.headline.proofs.of_node_group.Replicas.{changes_keep, room_serves, serving_runs}
use Rattle.headline.proofs.of_node_group.Thinning.{Given, KeptOf, kept_of_told, loses_more, nothing_kept, steps_lose, thinned_more}

-- ---- the replica receives something

-- a replica that has stopped stays as it is, or stops again
stopped_happens : (g : Group) (n : ℕ) (core : CoreState) (turn : StepOutcome) (new : ReplicaState State Command) (given thin : Given) → slice_get g.nodes n ≡ Some core → replica_of turn.core ≡ new
    → messages turn.messages ≡ messages thin → outputs given ≡ outputs thin → Loses rules (replica_of core) (nothing_done Output (replica_of core)) new thin
    → (config : Config) (earlier : List (Moment State Command Output)) (came : Moments rules config (moment_of_nodes g ∷ earlier))
    → Once came (moment_of_nodes (group_after_outcome g n turn given)) [] n (outputs given)
stopped_happens g n core turn new given thin at replica sent left (inl (is, t)) config earlier came =
    let empty = nothing_kept thin t in no_step g n core turn given config earlier came at (replica ∙ is) (sent ∙ ap messages empty) (left ∙ ap outputs empty)
stopped_happens g n core turn new given thin at replica sent left (inr (inl (is, empty))) config earlier came =
    no_step g n core turn given config earlier came at (replica ∙ is) (sent ∙ ap messages empty) (left ∙ ap outputs empty)
stopped_happens g n core turn new given thin at replica sent left (inr (inr (is, empty))) config earlier came =
    one_stop g n core turn given config earlier came at (replica ∙ is) (sent ∙ ap messages empty) (left ∙ ap outputs empty)

drives_happen : (g : Group) (n : ℕ) (core : CoreState) (input : Input Command) (account : Account) (kept : Given) → slice_get g.nodes n ≡ Some core → is_proposal input ≡ false
    → InputWasSent g n input → Drives input core account → Thinned kept account.messages → (config : Config) (earlier : List (Moment State Command Output))
    (came : Moments rules config (moment_of_nodes g ∷ earlier)) → Once came (moment_of_nodes (group_after_outcome g n (with_messages kept (outcome_in account)) account.given)) [] n (outputs account.given)
drives_happen g n core input account kept at other sent m t config earlier came = by (replica_of core).stopped refl
  where
    k : KeptOf kept account.given
    k = kept_of_told account.given (record core { replica = m.replica }) account.core account.messages kept m.handles t

    new : ReplicaState State Command
    new = m.replica.state

    replica : replica_of account.core ≡ new
    replica = state_of account.core (record core { replica = m.replica }) (delivers_replica account.given (record core { replica = m.replica }) account.core account.messages m.handles)

    lost : Loses rules (replica_of core) (outcome_of_input input (replica_of core)) new k.thin
    lost =
        loses_more (replica_of core) new (outcome_of_input input (replica_of core)) account.given k.thin (steps_lose core.replica m.replica (outcome_of_input input (replica_of core)) account.given m.steps)
        k.thinned

    by : (b : Bool) → (replica_of core).stopped ≡ b → Once came (moment_of_nodes (group_after_outcome g n (with_messages kept (outcome_in account)) account.given)) [] n (outputs account.given)
    by true e =
        stopped_happens g n core (with_messages kept (outcome_in account)) new account.given k.thin at replica k.sent k.left
        (subst (λ (o : Outcome State Command Output). Loses rules (replica_of core) o new k.thin) (heard_as_stopped (replica_of core) input e) lost) config earlier came
    by false e =
        subst (λ l. Once came (moment_of_nodes (group_after_outcome g n (with_messages kept (outcome_in account)) account.given)) l n (outputs account.given)) (none_put core input other)
        (one_step g n core (with_messages kept (outcome_in account)) input new account.given k.thin config earlier came at e (may_take g n input other sent) replica
        (subst (λ (o : Outcome State Command Output). Loses rules (replica_of core) o new k.thin) (heard_as_running (replica_of core) input e) lost) k.sent k.left
        (none_taken (replica_of core) new input other))

-- ---- a command is taken

left_true : (a b : Bool) → (a && b) ≡ true → a ≡ true
left_true true b e = refl
left_true false b e = absurd cc

-- after a change of connections
takes_happen : (g : Group) (n : ℕ) (core between : CoreState) (command : Command) (account : Account) (kept : Given) → slice_get g.nodes n ≡ Some core → between.replica ≡ core.replica
    → TakesCommand command between account → Thinned kept account.messages → (config : Config) (earlier : List (Moment State Command Output)) (came : Moments rules config (moment_of_nodes g ∷ earlier))
    → Once came (moment_of_nodes (group_after_outcome g n (with_messages kept (outcome_in account)) account.given)) (((replica_of core).joined, command) ∷ []) n (outputs account.given)
takes_happen g n core between command account kept at same taken t config earlier came =
    one_step g n core (with_messages kept (outcome_in account)) (Proposes command) new account.given k.thin config earlier came at (serving_runs core serving) tt replica
    (inl (is, subst (λ (o : Outcome State Command Output). Thinned k.thin o.effects) outcome thinner))
    k.sent k.left (subst (λ (s : ReplicaState State Command). AreTaken (replica_of core) s (Proposes command)) (sym is) (proposal_taken core command serving (λ x is_one. fits)))
  where
    k : KeptOf kept account.given
    k = kept_of_told account.given (record between { replica = taken.replica }) account.core account.messages kept taken.handles t

    new : ReplicaState State Command
    new = taken.replica.state

    replica : replica_of account.core ≡ new
    replica = state_of account.core (record between { replica = taken.replica }) (delivers_replica account.given (record between { replica = taken.replica }) account.core account.messages taken.handles)

    room : has_room core ≡ true
    room =
        ap (λ (r : CountedReplica State Command). has_room (let c : CoreState = record { replica = r; last_name = record { ballot = 0; count = 0 }; connections = [] } in c)) (sym same)
        ∙ taken.room

    serving : serves core ≡ true
    serving = room_serves core (nat_lt (places (replica_of core).log) max_places) room

    fits : nat_lt (places (replica_of core).log) max_places ≡ true
    fits = room_is core room

    active : is_active (replica_of core).role ≡ true
    active = left_true (is_active (replica_of core).role) (not (replica_of core).stopped) serving

    outcome : added rules (replica_of between) command ≡ proposed rules (replica_of core) command
    outcome =
        ap (λ (r : ReplicaState State Command). added rules r command) (state_of between core same)
        ∙ sym (proposed-adds rules (replica_of core) command active (ltb-true (places (replica_of core).log) max_places fits))

    is : new ≡ (proposed rules (replica_of core) command).state
    is = taken.done.state ∙ ap (λ (o : Outcome State Command Output). o.state) outcome

    thinner : Thinned k.thin (added rules (replica_of between) command).effects
    thinner =
        thinned_more k.thinned
        (subst (λ (l : Given). Thinned l (added rules (replica_of between) command).effects) (sym taken.done.appended) taken.done.thinned)

-- ---- each move

pub losses_happen : (g : Group) (n : ℕ) (core : CoreState) (turn : StepOutcome) (m : NodeMoveOrLost core turn) (kept : Given) → slice_get g.nodes n ≡ Some core → WereSent g n (inputs_in m)
    → CutsThaw m → Thinned kept turn.messages → (config : Config) (earlier : List (Moment State Command Output)) (came : Moments rules config (moment_of_nodes g ∷ earlier))
    → Once came (moment_of_nodes (group_after_outcome (with_record g (recorded_by g.archive m)) n (with_messages kept turn) (move_effects m))) (put_in_move m) n (outputs (move_effects m))
losses_happen g n core turn (exactly m) kept at sent frozen t = moves_happen g n core turn m kept at (sent_by g n m sent frozen) t
losses_happen g n core turn (hears_losing input account other drives) kept at sent frozen t = drives_happen g n core input account kept at other sent.0 drives t
losses_happen g n core turn (first_losing now port c connect rest account is_at first is taken) kept at sent frozen t =
    takes_happen g n core (changes port (noted_proposed connect.keep_alive) (changes port (left_with now rest) core)) _ account kept at
    (changes_keep port (noted_proposed connect.keep_alive) (changes port (left_with now rest) core) ∙ changes_keep port (left_with now rest) core) taken t
losses_happen g n core turn (later_losing now port c packet rest account is_at later is taken) kept at sent frozen t =
    takes_happen g n core (changes port (left_with now rest) core) _ account kept at (changes_keep port (left_with now rest) core) taken t
losses_happen g n core turn (tells_losing name account taken) kept at sent frozen t = takes_happen g n core core (commands.Lost name) account kept at refl taken t
losses_happen g n core turn (expels_losing client account taken) kept at sent frozen t = takes_happen g n core core (commands.Expel client) account kept at refl taken t
losses_happen g n core turn forgets kept at sent frozen t = happens_without_messages g n core turn.core kept at refl t
losses_happen g n core turn halts kept at sent frozen t =
    λ config earlier came. one_stop g n core (with_messages kept turn) [] config earlier came at refl (ap messages (nothing_kept kept t)) refl
losses_happen g n core turn (fails port) kept at sent frozen t = happens_without_messages g n core turn.core kept at (changed_state port failing core) t
losses_happen g n core turn unheard kept at sent frozen t = happens_without_messages g n core turn.core kept at refl t
losses_happen g n core turn (drops port piece) kept at sent frozen t = happens_without_messages g n core turn.core kept at (changed_state port closed_connection core) t
