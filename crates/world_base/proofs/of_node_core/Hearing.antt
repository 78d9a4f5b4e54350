-- Hearing.antt: a message that is heard quietly takes no memory.
use Rattle.std.proofs.Common.{◌≡◌, ◌⊎◌, inl, inr, Bool, true, false, if◌then◌else◌, None, List, [], ◌∷◌, ◌++◌, refl, sym, ap, subst, ◌∙◌}
use Rattle.std.specs.List.{find}
use Rattle.broker_base.specs.State.{State}
use Rattle.broker_spec.specs.declared.command.Command.{Command}
use Rattle.broker_spec.specs.declared.command.Output.{Output}
use Rattle.ballot_base.specs.declared.message.Effect.{Effect}
use Rattle.ballot.specs.Told.{StepTold}
use Rattle.ballot_base.specs.Losses.{SendsAndAddsNothing}
use Rattle.ballot_base.specs.declared.message.Message.{Message}
use Rattle.ballot_base.specs.Protocol.{replica_step}
use Rattle.ballot_base.specs.Protocol.Input.{Receives, Ticks}
use Rattle.ballot_base.specs.Replica.{CountedReplica}
use Rattle.ballot_base.specs.StepOutcome.{Outcome}
use Rattle.ballot_base.specs.Unread.{is_unread}
use Rattle.world_base.specs.node_connections.Connections.{has_failed}
use Rattle.world_base.specs.node_core.Core.{CoreState, rules}
use Rattle.world_base.specs.node_core.Effects.{outcome_of_input}
use Rattle.world_base.specs.node_core.Inside.{RunningStep, WithoutFailure}
use Rattle.world_base.specs.node_core.Losses.{IsHeardQuietly, IsIgnored, ReadsNone}
use Rattle.world_base.proofs.of_node_core.Told.{noted_whole, quiet_running, nothing_is_quiet}

-- a list with something at its end has something
pub ends_some : {X : Type 0} {P : Type 0} (xs : List X) (x : X) → xs ++ x ∷ [] ≡ [] → P
ends_some [] x e = absurd cc
ends_some (y ∷ xs) x e = absurd cc

-- only the replica
pub heard_quietly : (message : Message Command) (old mid new : RunningStep) (replica : CountedReplica State Command) (before after : List (Effect Command Output)) (whole : Bool) →
    before ≡ [] →
    StepTold rules old.core.replica (outcome_of_input (Receives message) old.core.replica.state) whole replica before after →
    (old.core.replica.state.stopped ≡ false → SendsAndAddsNothing old.core.replica.state (replica_step rules old.core.replica.state (Receives message)) →
    is_unread rules old.core.replica.state message.body ≡ false → whole ≡ true) →
    (old.core.replica.state.stopped ≡ true → (whole ≡ true) × (replica ≡ old.core.replica) × (after ≡ before)) →
    mid ≡ record old { core = record old.core { replica = replica } } → new ≡ record mid { has_lost = if whole then mid.has_lost else true } →
    IsHeardQuietly message old.core → ReadsNone message old.core → WithoutFailure old new × (after ≡ [])
heard_quietly message old mid new replica before after whole empty told still stays is noted quiet reads = (
  record {
    has_lost = ap (λ (r : RunningStep). r.has_lost) becomes;
    failed = λ none. ap (λ (r : RunningStep). find has_failed r.core.connections) becomes ∙ none;
  },
  told.appended ∙ ap (λ (l : List (Effect Command Output)). l ++ told.given) empty ∙ (told.exact lost_none).1 ∙ quiet.nothing_sent,
)
  where
    by : (b : Bool) → old.core.replica.state.stopped ≡ b → whole ≡ true
    by true e = (stays e).0
    by false e = still e (quiet_running (Receives message) old.core.replica.state e quiet) (reads e)

    lost_none : whole ≡ true
    lost_none = by old.core.replica.state.stopped refl

    becomes : new ≡ record old { core = record old.core { replica = replica } }
    becomes = noted_whole mid new whole noted lost_none ∙ is

-- a tick that does nothing changes nothing
pub ticked_quietly : (old mid new : RunningStep) (replica : CountedReplica State Command) (before after : List (Effect Command Output)) (whole : Bool) →
    before ≡ [] →
    StepTold rules old.core.replica (outcome_of_input Ticks old.core.replica.state) whole replica before after →
    (old.core.replica.state.stopped ≡ false → SendsAndAddsNothing old.core.replica.state (replica_step rules old.core.replica.state Ticks) →
    (whole ≡ true) × (replica ≡ old.core.replica)) →
    (old.core.replica.state.stopped ≡ true → (whole ≡ true) × (replica ≡ old.core.replica) × (after ≡ before)) →
    mid ≡ record old { core = record old.core { replica = replica } } → new ≡ record mid { has_lost = if whole then mid.has_lost else true } →
    IsIgnored Ticks old.core → (new ≡ old) × (after ≡ [])
ticked_quietly old mid new replica before after whole empty told still stays is noted ignored =
    let same = by old.core.replica.state.stopped refl in (
      noted_whole mid new whole noted same.0 ∙ is ∙ ap (λ (r : CountedReplica State Command). record old { core = record old.core { replica = r } }) same.1,
      told.appended ∙ ap (λ (l : List (Effect Command Output)). l ++ told.given) empty ∙ (told.exact same.0).1
          ∙ ap (λ (o : Outcome State Command Output). o.effects) ignored,
    )
  where
    by : (b : Bool) → old.core.replica.state.stopped ≡ b → (whole ≡ true) × (replica ≡ old.core.replica)
    by true e = ((stays e).0, (stays e).1)
    by false e = still e (quiet_running Ticks old.core.replica.state e (nothing_is_quiet Ticks old.core.replica.state ignored))

-- with what it gave, which is nothing
pub delivers_calmly : (a b c : RunningStep) (given : List (Effect Command Output)) → WithoutFailure a b × (given ≡ []) → (given ≡ [] → c ≡ b) → WithoutFailure a c
delivers_calmly a b c given heard nothing = subst (λ (r : RunningStep). WithoutFailure a r) (sym (nothing heard.1)) heard.0

-- a message that is ignored is heard quietly
pub heard_so : (message : Message Command) (core : CoreState) → IsIgnored (Receives message) core ⊎ IsHeardQuietly message core → IsHeardQuietly message core
heard_so message core (inl ignored) = nothing_is_quiet (Receives message) core.replica.state ignored
heard_so message core (inr quiet) = quiet
