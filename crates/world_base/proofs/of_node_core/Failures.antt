-- Failures.antt: the first connection that failed, and that it is reported to the broker.
use Rattle.std.proofs.Common.{◌≡◌, List, Some, None, refl, ap, subst, ◌∙◌}
use Rattle.std.specs.List.{find}
use Rattle.broker_spec.specs.declared.command.Command.{Command}
use Rattle.broker_spec.specs.declared.command.Command.TheVariants as commands
use Rattle.broker_spec.specs.declared.command.Output.{Output}
use Rattle.ballot_base.specs.declared.message.Effect.{Effect}
use Rattle.world_base.specs.declared.node_connections.connection.Connection.{Connection}
use Rattle.world_base.specs.node_connections.Connections.{has_failed}
use Rattle.world_base.specs.node_core.Core.{CoreState, StepOutcome}
use Rattle.world_base.specs.node_core.FailedConnections.{closes_failed, reports_failed}
use Rattle.world_base.specs.node_core.Inside.{RunningStep, DoesOutcome}
use Rattle.world_base.specs.node_core.Effects.{without_messages, proposes}
use Rattle.world_base.proofs.of_node_core.StepsJoin.{turns_idle, turns_after}

-- none failed
pub failed_next : (core : CoreState) → find has_failed core.connections ≡ None → reports_failed core ≡ without_messages core
unfolding reports_failed
failed_next core none = rw none refl

pub failed_none : (r : RunningStep) (out : List (Effect Command Output)) → find has_failed r.core.connections ≡ None →
    DoesOutcome r r out out (reports_failed r.core)
unfolding reports_failed
failed_none r out none = subst (λ (t : StepOutcome). DoesOutcome r r out out t) (rw none refl) (turns_idle r out)

-- one did
pub failed_one : (c : Connection) (a b r : RunningStep) (x y : List (Effect Command Output)) →
    find has_failed a.core.connections ≡ Some c → b ≡ record a { core = closes_failed a.core } →
    DoesOutcome b r x y (proposes (commands.Lost c.name) b.core) → DoesOutcome a r x y (reports_failed a.core)
unfolding reports_failed
failed_one c a b r x y found shut turns =
    subst (λ (t : StepOutcome). DoesOutcome a r x y t) (rw found refl)
    (turns_after a b r x y (closes_failed a.core) (proposes (commands.Lost c.name)) shut turns)

-- if none failed nothing is done, and then nothing more
pub none_again : (a b c : RunningStep) → (find has_failed a.core.connections ≡ None → b ≡ a) →
    (find has_failed b.core.connections ≡ None → c ≡ b) → find has_failed a.core.connections ≡ None → c ≡ a
none_again a b c first next none =
    let same = first none in
    next (ap (λ (r : RunningStep). find has_failed r.core.connections) same ∙ none) ∙ same

pub none_some : (c : Connection) (a b : RunningStep) → find has_failed a.core.connections ≡ Some c →
    find has_failed a.core.connections ≡ None → b ≡ a
none_some c a b some none = absurd cc
