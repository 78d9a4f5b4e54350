-- What a move leaves of the replica, if it receives nothing and does not stop.
use Rattle.std.proofs.Common.{◌≡◌, Bool, true, false, not, ◌&&◌, if◌then◌else◌, List, [], ◌∷◌, ◌++◌, Option, Some, None, refl, sym, ap, ◌∙◌, subst}
use Rattle.std.specs.List.{find, fold, list_any}
use Rattle.packet.specs.Spelling.{spelling}
use Rattle.ballot_base.specs.declared.message.Effect.{Effect}
use Rattle.ballot_base.specs.declared.message.Effect.TheVariants.{To, Out}
use Rattle.ballot_base.specs.Replica.{CountedReplica, ReplicaState, is_active}
use Rattle.ballot_base.specs.StepOutcome.{Outcome}
use Rattle.ballot_base.specs.Service.{proposed}
use Rattle.broker_base.specs.State.{State}
use Rattle.broker_spec.specs.declared.command.Command.{Command}
use Rattle.broker_spec.specs.Connection.{ConnectionName, is_connection_name}
use Rattle.broker_spec.specs.declared.command.Output.{Output}
use Rattle.broker_spec.specs.declared.command.Output.TheVariants as outputs
use Rattle.world_base.specs.declared.node_connections.port.Port.{Port}
use Rattle.world_base.specs.declared.node_connections.connection.Connection.{Connection}
use Rattle.world_base.specs.node_connections.Connections.{fresh, is_at}
use Rattle.world_base.specs.node_connections.ConnectionChanges.{noted_proposed, closed_connection, left_with, with_queued}
use Rattle.world_base.specs.node_core.Core.{CoreState, StepOutcome, rules, serves}
use Rattle.world_base.specs.node_core.FailedConnections.{closes_failed}
use Rattle.world_base.specs.node_core.PortOutput.{hands_over, left_by}
use Rattle.world_base.specs.node_core.PacketInput.{changes}
use Rattle.world_base.specs.node_core.Step.{next_name, with_next_connection, settled}
use Rattle.world_base.specs.node_core.Effects.{changes_named, after_replica_step, proposes, without_messages, with_effect}
use Rattle.headline.specs.node_moves.BallotNames.{moves_replica}
use Rattle.headline.specs.node_moves.Moves.{NodeMove}
use Rattle.headline.specs.node_moves.Moves.NodeMove.{hears, opens_one, holds, reads_first, reads_later, closes, refuses, loses_one, loses_next, expels_one, cuts_log, crashes, settles, hands}
use Rattle.headline.proofs.of_node_moves.ReplicaStays.{Same, proposed_same}
use Rattle.headline.proofs.of_node_moves.ShutByChanges.{at_replica}

named_replica : (name : ConnectionName) (f : Connection → Connection) (core : CoreState) → (changes_named name f core).replica ≡ core.replica
unfolding changes_named
named_replica name f core = refl

handled_replica : (core : CoreState) (e : Effect Command Output) → (with_effect core e).replica ≡ core.replica
handled_replica core (Out place (outputs.Send name packet)) = named_replica name (with_queued (spelling packet)) core
handled_replica core (Out place (outputs.Close name)) = named_replica name closed_connection core
handled_replica core (To receiver message) = refl

fold_replica : (core : CoreState) (effects : List (Effect Command Output)) → (fold with_effect core effects).replica ≡ core.replica
fold_replica core [] = refl
fold_replica core (e ∷ effects) = fold_replica (with_effect core e) effects ∙ handled_replica core e

pub moved_replica : (outcome : Outcome State Command Output) (core : CoreState) → (after_replica_step outcome core).core.replica.state ≡ outcome.state
moved_replica outcome core =
    ap (λ (r : CountedReplica State Command). r.state)
    (fold_replica (let k : CoreState = record core { replica = record core.replica { state = outcome.state } } in k) outcome.effects)

same_replica : (core later : CoreState) → later.replica ≡ core.replica → Same core.replica.state later.replica.state
same_replica core later e =
    record {
      role = ap (λ (r : CountedReplica State Command). r.state.role) e;
      joined = ap (λ (r : CountedReplica State Command). r.state.joined) e;
      stopped = ap (λ (r : CountedReplica State Command). r.state.stopped) e;
      base = ap (λ (r : CountedReplica State Command). r.state.log.base) e;
    }

proposes_same : (command : Command) (core : CoreState) → Same core.replica.state (proposes command core).core.replica.state
unfolding proposes
proposes_same command core = by (serves core)
  where
    by : (b : Bool) → Same core.replica.state (let t : StepOutcome = if b then after_replica_step (proposed rules core.replica.state command) core else without_messages core in t).core.replica.state
    by true =
        subst (λ (r : ReplicaState State Command). Same core.replica.state r) (sym (moved_replica (proposed rules core.replica.state command) core))
        (proposed_same rules core.replica.state command)
    by false = record { role = refl; joined = refl; stopped = refl; base = refl }

after_same : (command : Command) (core between : CoreState) → between.replica ≡ core.replica → Same core.replica.state (proposes command between).core.replica.state
after_same command core between e =
    let s = proposes_same command between in
    let t = same_replica core between e in
    record { role = s.role ∙ t.role; joined = s.joined ∙ t.joined; stopped = s.stopped ∙ t.stopped; base = s.base ∙ t.base }

opens_replica : (port : Port) (core : CoreState) → (with_next_connection port core).replica ≡ core.replica
unfolding with_next_connection
opens_replica port core = by ((serves core && not (list_any (is_at port) core.connections)) && is_connection_name (next_name core))
  where
    by : (b : Bool) → (let k : CoreState = if b then record core { last_name = next_name core; connections = core.connections ++ fresh port (next_name core) ∷ [] } else core in k).replica ≡ core.replica
    by true = refl
    by false = refl

pub settled_replica : (core : CoreState) → (settled core).replica ≡ core.replica
unfolding settled
settled_replica core = refl

hands_replica : (port : Port) (core : CoreState) → (hands_over port core).replica ≡ core.replica
unfolding hands_over
hands_replica port core = by (find (is_at port) core.connections)
  where
    by : (o : Option Connection) → (left_by port core o).replica ≡ core.replica
    by None = refl
    by (Some c) = refl

pub move_same : (core : CoreState) (turn : StepOutcome) (m : NodeMove core turn) → moves_replica m ≡ false → Same core.replica.state turn.core.replica.state
move_same core turn (hears input other) calm = absurd cc
move_same core turn (cuts_log can) calm = absurd cc
move_same core turn crashes calm = absurd cc
move_same core turn (opens_one port) calm = same_replica core (with_next_connection port core) (opens_replica port core)
move_same core turn (holds port piece) calm = same_replica core turn.core (at_replica port _ core)
move_same core turn (reads_first now port c connect rest at first is room) calm =
    after_same _ core (changes port (noted_proposed connect.keep_alive) (changes port (left_with now rest) core)) (at_replica port (noted_proposed connect.keep_alive) (changes port (left_with now rest) core) ∙ at_replica port (left_with now rest) core)
move_same core turn (reads_later now port c packet rest at later is room) calm = after_same _ core (changes port (left_with now rest) core) (at_replica port (left_with now rest) core)
move_same core turn (closes port) calm = same_replica core turn.core (at_replica port closed_connection core)
move_same core turn (refuses port c code at first is) calm = same_replica core turn.core (at_replica port _ core)
move_same core turn (loses_one port c at asked_before) calm = after_same _ core (changes port closed_connection core) (at_replica port closed_connection core)
move_same core turn (loses_next c at) calm = after_same _ core (closes_failed core) refl
move_same core turn (expels_one client) calm = after_same _ core core refl
move_same core turn settles calm = same_replica core (settled core) (settled_replica core)
move_same core turn (hands port) calm = same_replica core (hands_over port core) (hands_replica port core)

pub serves_same : (core later : CoreState) → Same core.replica.state later.replica.state → serves later ≡ serves core
serves_same core later s =
    ap (λ role. is_active role && not later.replica.state.stopped) s.role ∙ ap (λ b. is_active core.replica.state.role && not b) s.stopped
