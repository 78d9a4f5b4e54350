-- Silences.antt: the silent connection of the lowest port, and what its closing is.
use Rattle.std.proofs.Common.{◌≡◌, ℕ, ◌+◌, ◌-◌, ◌<◌, ◌≤◌, ◌⊎◌, inl, inr, nat_lt, List, Some, None, refl, sym, ap, subst, ◌∙◌, arith}
use Rattle.std.proofs.lemmas.Bool.{lt-ltb, le-ltb, cases_lt}
use Rattle.broker_spec.specs.declared.command.Command.{Command}
use Rattle.broker_spec.specs.declared.command.Output.{Output}
use Rattle.ballot_base.specs.declared.message.Effect.{Effect}
use Rattle.world_base.specs.declared.node_connections.port.Port.{Port}
use Rattle.world_base.specs.node_core.Core.{CoreState, StepOutcome}
use Rattle.world_base.specs.node_core.Inside.{RunningStep, DoesOutcome}
use Rattle.world_base.specs.node_core.KeepAlive.{ends_silent}
use Rattle.world_base.specs.node_connections.Silent.{lowest_silent}
use Rattle.world_base.specs.node_core.PacketInput.{port_closed}
use Rattle.world_base.specs.node_core.Effects.{without_messages}

-- more time went by than is allowed
pub gone_by : (now last allowed : ℕ) → nat_lt allowed (now - last) ≡ nat_lt (last + allowed) now
gone_by now last allowed = by_order (cases_lt (last + allowed) now)
  where
    by_order : (last + allowed < now) ⊎ (now ≤ last + allowed) → nat_lt allowed (now - last) ≡ nat_lt (last + allowed) now
    by_order (inl over) = lt-ltb allowed (now - last) (omega (arith, over)) ∙ sym (lt-ltb (last + allowed) now over)
    by_order (inr within) = le-ltb allowed (now - last) (omega (arith, within)) ∙ sym (le-ltb (last + allowed) now within)

-- none is silent
pub silent_none : (now : ℕ) (core : CoreState) → lowest_silent now core.connections ≡ None → ends_silent now core ≡ without_messages core
unfolding ends_silent
silent_none now core none = rw none refl

-- one is
silent_some : (now : ℕ) (core : CoreState) (port : Port) → lowest_silent now core.connections ≡ Some port →
    port_closed port core ≡ ends_silent now core
unfolding ends_silent
silent_some now core port some = rw some refl

pub turns_silent : (now : ℕ) (port : Port) (a b : RunningStep) (x y : List (Effect Command Output)) →
    lowest_silent now a.core.connections ≡ Some port → DoesOutcome a b x y (port_closed port a.core) → DoesOutcome a b x y (ends_silent now a.core)
turns_silent now port a b x y some turns = subst (λ (t : StepOutcome). DoesOutcome a b x y t) (silent_some now a.core port some) turns

-- none was silent at the start, and nothing has changed
pub silent_again : {P : Type 0} (now : ℕ) (port : Port) (a b : RunningStep) → (lowest_silent now a.core.connections ≡ None → b ≡ a) →
    lowest_silent now b.core.connections ≡ Some port → lowest_silent now a.core.connections ≡ None → P
silent_again now port a b same some none =
    let f = sym some ∙ ap (λ (r : RunningStep). lowest_silent now r.core.connections) (same none) ∙ none in cc
