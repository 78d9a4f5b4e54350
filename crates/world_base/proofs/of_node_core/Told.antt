-- Told.antt: what a call of the replica told of its losses, and what the node notes of them.
use Rattle.std.proofs.Common.{◌≡◌, Bool, true, false, if◌then◌else◌, ◌⊎◌, inl, inr, List, [], ◌++◌, refl, sym, ap, subst, ◌∙◌}
use Rattle.std.proofs.lemmas.List.{append-nil}
use Rattle.broker_base.specs.State.{State}
use Rattle.broker_spec.specs.declared.command.Command.{Command}
use Rattle.broker_spec.specs.declared.command.Output.{Output}
use Rattle.ballot.specs.Told.{StepTold}
use Rattle.ballot_base.specs.declared.message.Effect.{Effect}
use Rattle.ballot_base.specs.Losses.{Loses, ReplicaStepOrLost, SendsAndAddsNothing, one_more}
use Rattle.ballot_base.specs.Protocol.{Input, replica_step}
use Rattle.ballot_base.specs.Replica.{CountedReplica, ReplicaState}
use Rattle.ballot_base.specs.StepOutcome.{Outcome, nothing_done}
use Rattle.world_base.specs.node_core.Core.{CoreState, rules}
use Rattle.world_base.specs.node_core.Effects.{outcome_of_input}
use Rattle.world_base.specs.node_core.Inside.{NodeReplicaStepOrLost, RunningStep, StepsReplica}

-- ---- what is noted

-- nothing is noted of a call that was whole
pub noted_whole : (mid new : RunningStep) (whole : Bool) → new ≡ record mid { has_lost = if whole then mid.has_lost else true } → whole ≡ true → new ≡ mid
noted_whole mid new true e is = e
noted_whole mid new false e is = cc

-- and a call is whole if no loss is noted
pub whole_if_none : (mid new : RunningStep) (whole : Bool) → new ≡ record mid { has_lost = if whole then mid.has_lost else true } → new.has_lost ≡ false → whole ≡ true
whole_if_none mid new true e none = refl
whole_if_none mid new false e none = let f = sym none ∙ ap (λ (r : RunningStep). r.has_lost) e in cc

-- and none was before
pub none_before : (mid new : RunningStep) (whole : Bool) → new ≡ record mid { has_lost = if whole then mid.has_lost else true } → new.has_lost ≡ false → mid.has_lost ≡ false
none_before mid new true e none = sym (ap (λ (r : RunningStep). r.has_lost) e) ∙ none
none_before mid new false e none = let f = sym none ∙ ap (λ (r : RunningStep). r.has_lost) e in cc

-- ---- what was told

-- effects that were appended to nothing
given_all : {before later given : List (Effect Command Output)} → before ≡ [] → later ≡ before ++ given → later ≡ given
given_all {given = given} none appended = appended ∙ ap (λ (l : List (Effect Command Output)). l ++ given) none

-- an exact step of the replica is that of the node, unless a loss is noted
pub told_hears : (old mid new : RunningStep) (outcome : Outcome State Command Output) (replica : CountedReplica State Command) (before later : List (Effect Command Output)) (whole : Bool) →
    before ≡ [] → StepTold rules old.core.replica outcome whole replica before later →
    mid ≡ record old { core = record old.core { replica = replica } } → new ≡ record mid { has_lost = if whole then mid.has_lost else true } →
    StepsReplica old new outcome later
told_hears old mid new outcome replica before later whole none told is noted quiet =
    let w = whole_if_none mid new whole noted quiet in
    let did = told.exact w in (
      noted_whole mid new whole noted w ∙ is
          ∙ ap (λ (s : ReplicaState State Command). record old { core = record old.core { replica = record { state = s; losses = replica.losses } } }) did.0
          ∙ ap (λ n. record old { core = record old.core { replica = record { state = outcome.state; losses = n } } }) did.2,
      given_all none told.appended ∙ did.1,
    )

-- it was exact or with losses that were counted
told_counts : (old : CountedReplica State Command) (outcome : Outcome State Command Output) (new : CountedReplica State Command) (given : List (Effect Command Output)) (whole : Bool) →
    (whole ≡ true → (new.state ≡ outcome.state) × (given ≡ outcome.effects) × (new.losses ≡ old.losses)) →
    (whole ≡ false → Loses rules old.state outcome new.state given × (new.losses ≡ one_more old.losses)) →
    ReplicaStepOrLost rules old outcome new given
told_counts old outcome new given true exact lossy = inl (exact refl)
told_counts old outcome new given false exact lossy = inr (lossy refl)

pub told_acts : (old : CoreState) (outcome : Outcome State Command Output) (replica : CountedReplica State Command) (before later : List (Effect Command Output)) (whole : Bool)
    (mid new : RunningStep) → before ≡ [] → StepTold rules old.replica outcome whole replica before later → mid.core ≡ record old { replica = replica } →
    new ≡ record mid { has_lost = if whole then mid.has_lost else true } → NodeReplicaStepOrLost outcome old new.core later
told_acts old outcome replica before later whole mid new none told is noted =
    record {
      replica = replica;
      core = ap (λ (r : RunningStep). r.core) noted ∙ is;
      steps = subst (λ (l : List (Effect Command Output)). ReplicaStepOrLost rules old.replica outcome replica l) (sym (given_all none told.appended))
          (told_counts old.replica outcome replica told.given whole told.exact told.lossy);
    }

-- ---- a message or a tick

heard_stopped : (input : Input Command) (r : ReplicaState State Command) → r.stopped ≡ true → nothing_done Output r ≡ outcome_of_input input r
heard_stopped input r e = ap (λ (b : Bool). if b then nothing_done Output r else replica_step rules r input) (sym e)

heard_running : (input : Input Command) (r : ReplicaState State Command) → r.stopped ≡ false → replica_step rules r input ≡ outcome_of_input input r
heard_running input r e = ap (λ (b : Bool). if b then nothing_done Output r else replica_step rules r input) (sym e)

-- a replica that has stopped does nothing with it
pub told_input : (input : Input Command) (old new : CountedReplica State Command) (before later : List (Effect Command Output)) (whole : Bool) →
    (old.state.stopped ≡ false → StepTold rules old (replica_step rules old.state input) whole new before later) →
    (old.state.stopped ≡ true → (whole ≡ true) × (new ≡ old) × (later ≡ before)) →
    StepTold rules old (outcome_of_input input old.state) whole new before later
told_input input old new before later whole runs stays = by old.state.stopped refl
  where
    by : (b : Bool) → old.state.stopped ≡ b → StepTold rules old (outcome_of_input input old.state) whole new before later
    by false e = subst (λ (o : Outcome State Command Output). StepTold rules old o whole new before later) (heard_running input old.state e) (runs e)
    by true e =
        let same = stays e in
        subst (λ (o : Outcome State Command Output). StepTold rules old o whole new before later) (heard_stopped input old.state e)
        (record {
          given = [];
          appended = same.2 ∙ sym (append-nil before);
          exact = λ _. (ap (λ (r : CountedReplica State Command). r.state) same.1, refl, ap (λ (r : CountedReplica State Command). r.losses) same.1);
          lossy = λ f. let g = sym same.0 ∙ f in cc;
        })

-- one that makes it send, append and apply nothing does so by the protocol too
pub quiet_running : (input : Input Command) (r : ReplicaState State Command) → r.stopped ≡ false →
    SendsAndAddsNothing r (outcome_of_input input r) → SendsAndAddsNothing r (replica_step rules r input)
quiet_running input r e quiet = subst (λ (o : Outcome State Command Output). SendsAndAddsNothing r o) (sym (heard_running input r e)) quiet

-- and what does nothing is such
pub nothing_is_quiet : (input : Input Command) (r : ReplicaState State Command) → outcome_of_input input r ≡ nothing_done Output r →
    SendsAndAddsNothing r (outcome_of_input input r)
nothing_is_quiet input r ignored =
    subst (λ (o : Outcome State Command Output). SendsAndAddsNothing r o) (sym ignored)
    (record { nothing_sent = refl; same_log = refl; same_committed = refl })
