-- What a node reads is taken into its log.
use Rattle.std.proofs.Common.{◌≡◌, Bool, true, false, ◌&&◌, nat_lt, List, [], ◌∷◌, refl, ap, ◌∙◌}
use Rattle.std.specs.List.{fold}
use Rattle.packet.specs.Spelling.{spelling}
use Rattle.ballot_base.specs.declared.message.Effect.{Effect}
use Rattle.ballot_base.specs.declared.message.Effect.TheVariants.{To, Out}
use Rattle.ballot_base.specs.Logs.{places, pushed}
use Rattle.ballot_base.specs.Replica.{CountedReplica, ReplicaState, is_active}
use Rattle.ballot_base.specs.StepOutcome.{Outcome}
use Rattle.ballot_base.specs.Service.{max_places, proposed}
use Rattle.ballot_base.proofs.StepRows.{added-log}
use Rattle.broker_base.specs.State.{State}
use Rattle.broker_spec.specs.declared.command.Command.{Command}
use Rattle.broker_spec.specs.declared.command.Output.{Output}
use Rattle.broker_spec.specs.declared.command.Output.TheVariants as outputs
use Rattle.broker_spec.specs.Connection.{ConnectionName}
use Rattle.world_base.specs.declared.node_connections.port.Port.{Port}
use Rattle.world_base.specs.declared.node_connections.connection.Connection.{Connection}
use Rattle.world_base.specs.node_connections.ConnectionChanges.{noted_proposed, left_with, closed_connection, with_queued}
use Rattle.world_base.specs.node_core.Core.{CoreState, rules, serves}
use Rattle.world_base.specs.node_core.PacketInput.{changes}
use Rattle.world_base.specs.node_core.Effects.{after_replica_step, with_effect, proposes, has_room, changes_named}
use Rattle.headline.specs.node_moves.Moves.NodeMove.{hears, opens_one, holds, reads_first, reads_later, closes, refuses, loses_one, loses_next, expels_one, cuts_log, crashes, settles, hands}
use Rattle.headline.specs.node_moves.RunProposals.{ReadsAreTaken}
use Rattle.headline.proofs.of_node_moves.Kept.{left_true}

right_true : (a b : Bool) → (a && b) ≡ true → b ≡ true
right_true true b e = e
right_true false b e = absurd cc

pub proposed_log : (r : ReplicaState State Command) (command : Command) → is_active r.role ≡ true → nat_lt (places r.log) max_places ≡ true
    → (proposed rules r command).state.log ≡ pushed r.log command
unfolding proposed
proposed_log r command active room = rw (active, room) (added-log rules r command)

-- outputs leave the replica as it is
named_replica : (name : ConnectionName) (f : Connection → Connection) (core : CoreState) → (changes_named name f core).replica ≡ core.replica
unfolding changes_named
named_replica name f core = refl

handled_replica : (core : CoreState) (e : Effect Command Output) → (with_effect core e).replica ≡ core.replica
handled_replica core (Out place (outputs.Send name packet)) = named_replica name (with_queued (spelling packet)) core
handled_replica core (Out place (outputs.Close name)) = named_replica name closed_connection core
handled_replica core (To receiver message) = refl

fold_replica : (core : CoreState) (effects : List (Effect Command Output)) → (fold with_effect core effects).replica ≡ core.replica
fold_replica core [] = refl
fold_replica core (e ∷ effects) = fold_replica (with_effect core e) effects ∙ handled_replica core e

moved_log : (outcome : Outcome State Command Output) (core : CoreState) → (after_replica_step outcome core).core.replica.state.log ≡ outcome.state.log
moved_log outcome core =
    ap (λ (r : CountedReplica State Command). r.state.log)
    (fold_replica (let k : CoreState = record core { replica = record core.replica { state = outcome.state } } in k) outcome.effects)

proposes_log : (command : Command) (core : CoreState) → has_room core ≡ true → (proposes command core).core.replica.state.log ≡ pushed core.replica.state.log command
unfolding proposes
proposes_log command core room =
    let serving : serves core ≡ true = left_true (serves core) (nat_lt (places core.replica.state.log) max_places) room in
    let active : is_active core.replica.state.role ≡ true = left_true (is_active core.replica.state.role) _ serving in
    rw serving
    (moved_log (proposed rules core.replica.state command) core
    ∙ proposed_log core.replica.state command active (right_true (serves core) (nat_lt (places core.replica.state.log) max_places) room))

changed_replica : (port : Port) (f : Connection → Connection) (core : CoreState) → (changes port f core).replica ≡ core.replica
unfolding changes
changed_replica port f core = refl

-- a command is taken after a change of a connection
taken_after : (command : Command) (core between : CoreState) → between.replica ≡ core.replica → has_room core ≡ true
    → (proposes command between).core.replica.state.log ≡ pushed core.replica.state.log command
taken_after command core between same room =
    proposes_log command between (ap room_of same ∙ room) ∙ ap (λ (r : CountedReplica State Command). pushed r.state.log command) same
  where
    room_of : CountedReplica State Command → Bool
    room_of r = has_room (let k : CoreState = record { replica = r; last_name = record { ballot = 0; count = 0 }; connections = [] } in k)

pub reads_are_taken : ReadsAreTaken
reads_are_taken core turn (reads_first now port c connect rest at first is room) read =
    taken_after _ core (changes port (noted_proposed connect.keep_alive) (changes port (left_with now rest) core))
    (changed_replica port (noted_proposed connect.keep_alive) (changes port (left_with now rest) core) ∙ changed_replica port (left_with now rest) core) room
reads_are_taken core turn (reads_later now port c packet rest at later is room) read =
    taken_after _ core (changes port (left_with now rest) core) (changed_replica port (left_with now rest) core) room
reads_are_taken core turn (hears input other) read = absurd cc
reads_are_taken core turn (opens_one port) read = absurd cc
reads_are_taken core turn (holds port piece) read = absurd cc
reads_are_taken core turn (closes port) read = absurd cc
reads_are_taken core turn (refuses port c code at first is) read = absurd cc
reads_are_taken core turn (loses_one port c at proposed) read = absurd cc
reads_are_taken core turn (loses_next c at) read = absurd cc
reads_are_taken core turn (expels_one client) read = absurd cc
reads_are_taken core turn (cuts_log can) read = absurd cc
reads_are_taken core turn crashes read = absurd cc
reads_are_taken core turn settles read = absurd cc
reads_are_taken core turn (hands port) read = absurd cc
