-- A node's step on a message of which its replica gives nothing does to the replica what the message does.
use Rattle.std.proofs.Common.{◌≡◌, ◌⊎◌, inl, inr, ℕ, zero, suc, Bool, false, if◌then◌else◌, not, List, [], ◌∷◌, ◌++◌, filter, length, Option, Some, None, refl, sym, ap, ◌∙◌, subst}
use Rattle.std.specs.Prelude.{◌&&◌}
use Rattle.std.specs.List.{find, fold}
use Rattle.std.proofs.lemmas.List.{append-nil}
use Rattle.lists.specs.Lists.{Each}
use Rattle.ballot_base.specs.declared.message.Effect.{Effect}
use Rattle.ballot_base.specs.declared.message.Effect.TheVariants.{To, Out}
use Rattle.ballot_base.specs.declared.message.Message.{Message}
use Rattle.ballot_base.specs.Protocol.Input.{Receives}
use Rattle.ballot_base.specs.Replica.{CountedReplica, ReplicaState, is_active}
use Rattle.ballot_base.specs.StepOutcome.{Outcome, is_message}
use Rattle.agreement.specs.cut_logs.World.{outputs}
use Rattle.broker_spec.specs.declared.command.Command.{Command}
use Rattle.broker_spec.specs.declared.command.Output.{Output}
use Rattle.broker_base.specs.State.{State}
use Rattle.world_base.specs.declared.node_connections.connection.Connection.{Connection}
use Rattle.world_base.specs.declared.node_core.item.Item.TheVariants.{Peer}
use Rattle.world_base.specs.node_connections.Connections.{has_failed}
use Rattle.world_base.specs.node_core.Core.{CoreState, StepOutcome, serves}
use Rattle.world_base.specs.node_core.FailedConnections.{closes_failed, reports_all_failed, reports_failed, reports_if}
use Rattle.world_base.specs.node_core.Step.{node_step, settled}
use Rattle.world_base.specs.node_core.Effects.{drives, after_replica_step, proposes, without_messages, repeated, with_effect, then_also}
use Rattle.headline.proofs.of_node_moves.LossesReported.{each_loss_is_reported}
use Rattle.recovery.specs.one_node.Delivery.{AStepIsADelivery, ReportsItsLosses, heard_by}

-- ---- effects that give nothing

pub only_messages : (effects : List (Effect Command Output)) → outputs effects ≡ [] → filter is_message effects ≡ effects
only_messages [] e = refl
only_messages (To receiver message ∷ effects) e = ap (λ (l : List (Effect Command Output)). To receiver message ∷ l) (only_messages effects e)
only_messages (Out place output ∷ effects) e = cc

pub none_handled : (effects : List (Effect Command Output)) → outputs effects ≡ [] → (core : CoreState) → fold with_effect core effects ≡ core
none_handled [] e core = refl
none_handled (To receiver message ∷ effects) e core = none_handled effects e core
none_handled (Out place output ∷ effects) e core = cc

abbrev pub with_replica : ReplicaState State Command → CoreState → CoreState
with_replica s core = record core { replica = record core.replica { state = s } }

pub drives_silently : (core : CoreState) (message : Message Command) → core.replica.state.stopped ≡ false → outputs (heard_by core message).effects ≡ [] →
    drives (Receives message) core ≡ record { core = with_replica (heard_by core message).state core; messages = (heard_by core message).effects }
unfolding drives
drives_silently core message runs silent =
    ap (λ (b : Bool). after_replica_step (if b then (record { state = core.replica.state; effects = [] }) else heard_by core message) core) runs
    ∙ ap (λ (k : CoreState). let t : StepOutcome = record { core = k; messages = filter is_message (heard_by core message).effects } in t)
    (none_handled (heard_by core message).effects silent (with_replica (heard_by core message).state core))
    ∙ ap (λ (l : List (Effect Command Output)). let t : StepOutcome = record { core = with_replica (heard_by core message).state core; messages = l } in t)
    (only_messages (heard_by core message).effects silent)

-- ---- losses that follow from it

record KeepsReplica (core : CoreState) (outcome : StepOutcome) : Type 0 where
  replica : outcome.core.replica ≡ core.replica
  last_name : outcome.core.last_name ≡ core.last_name
  messages : outcome.messages ≡ []

-- nothing is proposed by a node that does not serve
loses_quietly : (core : CoreState) → serves core ≡ false → KeepsReplica core (reports_failed core)
unfolding reports_failed proposes
loses_quietly core idle = by (find has_failed core.connections)
  where
    by : (o : Option Connection) → KeepsReplica core (reports_if o core)
    by None = record { replica = refl; last_name = refl; messages = refl }
    by (Some c) =
        subst (λ (t : StepOutcome). KeepsReplica core t) (sym (rw idle refl)) (let k : KeepsReplica core (without_messages (closes_failed core)) = record { replica = refl; last_name = refl; messages = refl } in k)

all_lost_quietly : (n : ℕ) (core : CoreState) → serves core ≡ false → KeepsReplica core (repeated n reports_failed core)
unfolding repeated
all_lost_quietly zero core idle = record { replica = refl; last_name = refl; messages = refl }
all_lost_quietly (suc n) core idle =
    let one = loses_quietly core idle in
    let more = all_lost_quietly n (reports_failed core).core (ap (λ (r : CountedReplica State Command). is_active r.state.role && not r.state.stopped) one.replica ∙ idle) in
    record {
      replica = more.replica ∙ one.replica;
      last_name = more.last_name ∙ one.last_name;
      messages = ap (λ (l : List (Effect Command Output)). l ++ (repeated n reports_failed (reports_failed core).core).messages) one.messages ∙ more.messages;
    }

-- and nothing is lost where the node is calm
pub calm_finds : (cs : List Connection) → Each (λ (c : Connection). has_failed c ≡ false) cs → find has_failed cs ≡ None
calm_finds [] calm = refl
calm_finds (c ∷ cs) (first, calm) = ap (λ (b : Bool). if b then Some c else find has_failed cs) first ∙ calm_finds cs calm

failed_next : (core : CoreState) → find has_failed core.connections ≡ None → reports_failed core ≡ without_messages core
unfolding reports_failed
failed_next core none = rw none refl

pub none_lost : (n : ℕ) (core : CoreState) → find has_failed core.connections ≡ None → repeated n reports_failed core ≡ without_messages core
unfolding repeated
none_lost zero core none = refl
none_lost (suc n) core none = ap (λ (t : StepOutcome). then_also t (repeated n reports_failed)) (failed_next core none) ∙ none_lost n core none

all_keep : (core : CoreState) → ReportsItsLosses core ⊎ (is_active core.replica.state.role ≡ false) → KeepsReplica core (reports_all_failed core)
all_keep core (inl calm) =
    subst (λ (t : StepOutcome). KeepsReplica core t) (sym (none_lost (length core.connections) core (calm_finds core.connections calm)))
    (let k : KeepsReplica core (without_messages core) = record { replica = refl; last_name = refl; messages = refl } in k)
all_keep core (inr idle) = all_lost_quietly (length core.connections) core (ap (λ (b : Bool). b && not core.replica.state.stopped) idle)

-- ---- the step

abbrev end_of : CoreState → StepOutcome → StepOutcome
end_of core first = record { core = settled (reports_all_failed first.core).core; messages = first.messages ++ (reports_all_failed first.core).messages }

settled_keeps : (core : CoreState) → ((settled core).replica ≡ core.replica) × ((settled core).last_name ≡ core.last_name)
unfolding settled
settled_keeps core = (refl, refl)

record Does (core : CoreState) (o : Outcome State Command Output) (outcome : StepOutcome) : Type 0 where
  replica : outcome.core.replica ≡ record core.replica { state = o.state }
  last_name : outcome.core.last_name ≡ core.last_name
  messages : outcome.messages ≡ o.effects

pub a_step_is_a_delivery : AStepIsADelivery
a_step_is_a_delivery core message runs silent calm =
    record { replica = now.replica; last_name = now.last_name; messages = now.messages; calm = each_loss_is_reported (Peer message) core }
  where
    o : Outcome State Command Output
    o = heard_by core message

    after : CoreState
    after = with_replica o.state core

    does : Does core o (end_of core (record { core = after; messages = o.effects }))
    does =
        let k = all_keep after calm in
        let s = settled_keeps (reports_all_failed after).core in
        record {
          replica = s.0 ∙ k.replica;
          last_name = s.1 ∙ k.last_name;
          messages = ap (λ (l : List (Effect Command Output)). o.effects ++ l) k.messages ∙ append-nil o.effects;
        }

    now : Does core o (node_step (Peer message) core)
    now = subst (λ (t : StepOutcome). Does core o (end_of core t)) (sym (drives_silently core message runs silent)) does
