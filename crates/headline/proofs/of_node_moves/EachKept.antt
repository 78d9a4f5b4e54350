-- What closing a connection and putting out on it keep holds for each connection still, whatever is
-- proposed.
use Rattle.std.proofs.Common.{ℕ, zero, suc, Bool, true, false, if◌then◌else◌, List, [], ◌∷◌, Option, Some, None, map, filter}
use Rattle.std.specs.List.{find, fold}
use Rattle.packet.specs.Spelling.{spelling}
use Rattle.ballot_base.specs.declared.message.Effect.{Effect}
use Rattle.ballot_base.specs.declared.message.Effect.TheVariants.{To, Out}
use Rattle.ballot_base.specs.StepOutcome.{Outcome}
use Rattle.ballot_base.specs.Service.{proposed}
use Rattle.broker_base.specs.State.{State}
use Rattle.broker_spec.specs.declared.command.Command.{Command}
use Rattle.broker_spec.specs.declared.command.Command.TheVariants as commands
use Rattle.broker_spec.specs.declared.command.Output.{Output}
use Rattle.broker_spec.specs.declared.command.Output.TheVariants as outputs
use Rattle.broker_spec.specs.Connection.{ConnectionName}
use Rattle.lists.specs.Lists.{Each}
use Rattle.world_base.specs.declared.node_connections.connection.Connection.{Connection}
use Rattle.world_base.specs.node_connections.Connections.{has_failed, is_listed, is_open_named}
use Rattle.world_base.specs.node_connections.ConnectionChanges.{closed_connection, with_queued}
use Rattle.world_base.specs.node_core.Core.{CoreState, StepOutcome, rules, serves}
use Rattle.world_base.specs.node_core.FailedConnections.{closes_failed, reports_failed, reports_if}
use Rattle.world_base.specs.node_core.Step.{settled}
use Rattle.world_base.specs.node_core.Effects.{without_messages, repeated, with_effect, after_replica_step, proposes, changes_named}
use Rattle.headline.proofs.of_node_moves.Views.{each_kept, each_mapped, each_filtered}

pub record IsKept (P : Connection → Type 0) : Type 0 where
  pub shut : (c : Connection) → P c → P (closed_connection c)
  pub put : (bytes : List ℕ) (c : Connection) → P c → P (with_queued bytes c)

module _ (P : Connection → Type 0) (kept : IsKept P) where
  each_named : (name : ConnectionName) (f : Connection → Connection) (core : CoreState) → ((c : Connection) → P c → P (f c)) → Each P core.connections
      → Each P (changes_named name f core).connections
  unfolding changes_named
  each_named name f core low all = each_kept P (is_open_named name) f core.connections low all

  each_handled : (core : CoreState) (e : Effect Command Output) → Each P core.connections → Each P (with_effect core e).connections
  each_handled core (Out place (outputs.Send name packet)) all = each_named name (with_queued (spelling packet)) core (kept.put (spelling packet)) all
  each_handled core (Out place (outputs.Close name)) all = each_named name closed_connection core kept.shut all
  each_handled core (To receiver message) all = all

  each_delivered : (core : CoreState) (effects : List (Effect Command Output)) → Each P core.connections → Each P (fold with_effect core effects).connections
  each_delivered core [] all = all
  each_delivered core (e ∷ effects) all = each_delivered (with_effect core e) effects (each_handled core e all)

  each_moved : (outcome : Outcome State Command Output) (core : CoreState) → Each P core.connections → Each P (after_replica_step outcome core).core.connections
  each_moved outcome core all =
      each_delivered (let k : CoreState = record core { replica = record core.replica { state = outcome.state } } in k) outcome.effects all

  pub each_proposed : (command : Command) (core : CoreState) → Each P core.connections → Each P (proposes command core).core.connections
  unfolding proposes
  each_proposed command core all = by (serves core)
    where
      by : (b : Bool) → Each P (let t : StepOutcome = if b then after_replica_step (proposed rules core.replica.state command) core else without_messages core in t).core.connections
      by true = each_moved (proposed rules core.replica.state command) core all
      by false = all

  each_lost : (core : CoreState) (o : Option Connection) → Each P core.connections → Each P (reports_if o core).core.connections
  each_lost core None all = all
  each_lost core (Some c) all = each_proposed (commands.Lost c.name) (closes_failed core) (each_kept P has_failed closed_connection core.connections kept.shut all)

  each_failed : (core : CoreState) → Each P core.connections → Each P (reports_failed core).core.connections
  unfolding reports_failed
  each_failed core all = each_lost core (find has_failed core.connections) all

  pub each_repeated : (n : ℕ) (core : CoreState) → Each P core.connections → Each P (repeated n reports_failed core).core.connections
  unfolding repeated
  each_repeated zero core all = all
  each_repeated (suc n) core all = each_repeated n (reports_failed core).core (each_failed core all)

pub each_settled : (P : Connection → Type 0) → ((c : Connection) → P c → P (closed_connection c)) → (core : CoreState) → Each P core.connections → Each P (settled core).connections
unfolding settled
each_settled P shut core all = by (serves core)
  where
    by : (b : Bool) → Each P (filter is_listed (if b then core.connections else map closed_connection core.connections))
    by true = each_filtered P is_listed core.connections all
    by false = each_filtered P is_listed (map closed_connection core.connections) (each_mapped P closed_connection core.connections shut all)
