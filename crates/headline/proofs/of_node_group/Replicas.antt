-- What moves do to a node's replica: one step of it at most.
use Rattle.std.proofs.Common.{◌≡◌, Bool, true, false, not, ◌&&◌, if◌then◌else◌, List, [], ◌∷◌, Option, Some, None, refl, ap, ◌∙◌}
use Rattle.std.specs.List.{fold}
use Rattle.packet.specs.Spelling.{spelling}
use Rattle.ballot_base.specs.declared.message.Effect.{Effect}
use Rattle.ballot_base.specs.declared.message.Effect.TheVariants.{To, Out}
use Rattle.ballot_base.specs.Replica.{CountedReplica, is_active}
use Rattle.ballot_base.specs.StepOutcome.{Outcome}
use Rattle.broker_base.specs.State.{State}
use Rattle.broker_spec.specs.declared.command.Command.{Command}
use Rattle.broker_spec.specs.declared.command.Output.{Output}
use Rattle.broker_spec.specs.declared.command.Output.TheVariants as outputs
use Rattle.broker_spec.specs.Connection.{ConnectionName}
use Rattle.world_base.specs.declared.node_connections.port.Port.{Port}
use Rattle.world_base.specs.declared.node_connections.connection.Connection.{Connection}
use Rattle.world_base.specs.node_connections.ConnectionChanges.{closed_connection, with_queued}
use Rattle.world_base.specs.node_core.Core.{CoreState, serves}
use Rattle.world_base.specs.node_core.PortOutput.{hands_over, left_by, listed_at}
use Rattle.world_base.specs.node_core.PacketInput.{changes}
use Rattle.world_base.specs.node_core.Step.{with_next_connection, settled}
use Rattle.world_base.specs.node_core.Effects.{changes_named, after_replica_step, with_effect}
use Rattle.headline.specs.node_group.Group.{replica_of}

-- ---- moves that leave it as it is

pub changes_keep : (port : Port) (f : Connection → Connection) (core : CoreState) → (changes port f core).replica ≡ core.replica
unfolding changes
changes_keep port f core = refl

pub opens_keeps : (port : Port) (core : CoreState) → (with_next_connection port core).replica ≡ core.replica
unfolding with_next_connection
opens_keeps port core = by _ _ _
  where
    by : (b : Bool) (name : ConnectionName) (cs : List Connection)
        → (let k : CoreState = if b then record core { last_name = name; connections = cs } else core in k).replica ≡ core.replica
    by true name cs = refl
    by false name cs = refl

pub settles_keeps : (core : CoreState) → (settled core).replica ≡ core.replica
unfolding settled
settles_keeps core = refl

pub hands_keeps : (port : Port) (core : CoreState) → (hands_over port core).replica ≡ core.replica
unfolding hands_over
hands_keeps port core = by (listed_at port core)
  where
    by : (o : Option Connection) → (left_by port core o).replica ≡ core.replica
    by None = refl
    by (Some c) = refl

-- ---- what its own step does to it

named_keeps : (name : ConnectionName) (f : Connection → Connection) (core : CoreState) → (changes_named name f core).replica ≡ core.replica
unfolding changes_named
named_keeps name f core = refl

handled_keeps : (core : CoreState) (e : Effect Command Output) → (with_effect core e).replica ≡ core.replica
handled_keeps core (Out place (outputs.Send name packet)) = named_keeps name (with_queued (spelling packet)) core
handled_keeps core (Out place (outputs.Close name)) = named_keeps name closed_connection core
handled_keeps core (To receiver message) = refl

folded_keeps : (core : CoreState) (effects : List (Effect Command Output)) → (fold with_effect core effects).replica ≡ core.replica
folded_keeps core [] = refl
folded_keeps core (e ∷ effects) = folded_keeps (with_effect core e) effects ∙ handled_keeps core e

pub moved_replica : (outcome : Outcome State Command Output) (core : CoreState) → replica_of (after_replica_step outcome core).core ≡ outcome.state
moved_replica outcome core =
    ap (λ (r : CountedReplica State Command). r.state)
    (folded_keeps (let k : CoreState = record core { replica = record core.replica { state = outcome.state } } in k) outcome.effects)

-- ---- a node that serves

left_true : (a b : Bool) → (a && b) ≡ true → a ≡ true
left_true true b e = refl
left_true false b e = absurd cc

not_stopped : (a b : Bool) → (a && not b) ≡ true → b ≡ false
not_stopped true false e = refl
not_stopped true true e = absurd cc
not_stopped false b e = absurd cc

pub room_serves : (core : CoreState) (b : Bool) → (serves core && b) ≡ true → serves core ≡ true
room_serves core b e = left_true (serves core) b e

pub serving_runs : (core : CoreState) → serves core ≡ true → (replica_of core).stopped ≡ false
serving_runs core e = not_stopped (is_active (replica_of core).role) (replica_of core).stopped e
