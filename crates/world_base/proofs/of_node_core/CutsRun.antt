-- CutsRun.antt: a cut of the replica's log is that of its node, or a loss that is counted.
use Rattle.std.proofs.Common.{◌≡◌, ◌⊎◌, inl, inr, Bool, true, false, if◌then◌else◌, Some, refl, ap, ◌∙◌}
use Rattle.std.proofs.lemmas.Bool.{cases_Bool}
use Rattle.broker_base.specs.State.{State}
use Rattle.broker_spec.specs.declared.command.Command.{Command}
use Rattle.ballot_base.specs.Compaction.{can_cut, cut}
use Rattle.ballot_base.specs.Losses.{one_more}
use Rattle.ballot_base.specs.Replica.{CountedReplica, ReplicaState}
use Rattle.world_base.specs.node_core.Core.{CoreState, rules}
use Rattle.world_base.specs.node_core.Inside.{DoesExactly, RunningStep}
use Rattle.world_base.specs.node_core.Lossy.{without_effects}
use Rattle.world_base.specs.node_core.LossyStep.{LogCutOrLost}
use Rattle.world_base.specs.node_core.LossyStep.LogCutOrLost.{nothing_to_cut, cuts_log, forgets_cut}
use Rattle.world_base.specs.node_core.Step.{cuts}
use Rattle.world_base.proofs.of_node_core.Told.{noted_whole, whole_if_none}

-- what a cut of the replica left, by its answer
pub record ReplicaCut (core : CoreState) (new : CountedReplica State Command) (result : Bool) : Type 0 where
  pub done : result ≡ true → (can_cut core.replica.state ≡ true) × (new ≡ record core.replica { state = cut rules core.replica.state })
  pub thaws : result ≡ true → rules.thawed (rules.frozen core.replica.state.machine) ≡ Some core.replica.state.machine
  pub same : result ≡ false → new.state ≡ core.replica.state
  pub counts : result ≡ false → can_cut core.replica.state ≡ true → new.losses ≡ one_more core.replica.losses
  pub idle : can_cut core.replica.state ≡ false → (result ≡ false) × (new ≡ core.replica)

pub cut_runs : (core : CoreState) (new : CountedReplica State Command) (result : Bool) → ReplicaCut core new result →
    LogCutOrLost core (without_effects (record core { replica = new }))
cut_runs core new true r = cuts_log (r.done refl).0 (r.thaws refl) (ap (λ (x : CountedReplica State Command). without_effects (record core { replica = x })) (r.done refl).1)
cut_runs core new false r = by_need (cases_Bool (can_cut core.replica.state))
  where
    lost : can_cut core.replica.state ≡ true → new ≡ record core.replica { losses = one_more core.replica.losses }
    lost can =
        ap (λ (s : ReplicaState State Command). let z : CountedReplica State Command = record { state = s; losses = new.losses } in z) (r.same refl)
        ∙ ap (λ k. let z : CountedReplica State Command = record { state = core.replica.state; losses = k } in z) (r.counts refl can)

    by_need : (can_cut core.replica.state ≡ true) ⊎ (can_cut core.replica.state ≡ false) → LogCutOrLost core (without_effects (record core { replica = new }))
    by_need (inl can) = forgets_cut can (ap (λ (x : CountedReplica State Command). without_effects (record core { replica = x })) (lost can))
    by_need (inr cannot) = nothing_to_cut cannot (ap (λ (x : CountedReplica State Command). without_effects (record core { replica = x })) (r.idle cannot).1)

-- one that was done is the definition's
cut_exactly : (core : CoreState) (new : CountedReplica State Command) (result : Bool) → ReplicaCut core new result → result ≡ true →
    record core { replica = new } ≡ cuts core
unfolding cuts
cut_exactly core new result r done =
    rw (r.done done).0 (ap (λ (x : CountedReplica State Command). let z : CoreState = record core { replica = x } in z) (r.done done).1)

-- so it is what was done, unless memory ran out
pub cut_does : (old mid new : RunningStep) (replica : CountedReplica State Command) (whole : Bool) → ReplicaCut old.core replica whole →
    mid ≡ record old { core = record old.core { replica = replica } } → new ≡ record mid { has_lost = if whole then mid.has_lost else true } →
    DoesExactly old new (cuts old.core)
cut_does old mid new replica whole r is noted quiet =
    let w = whole_if_none mid new whole noted quiet in
    noted_whole mid new whole noted w ∙ is ∙ ap (λ (k : CoreState). record old { core = k }) (cut_exactly old.core replica whole r w)

-- a cut of nothing
pub cut_none : (r : RunningStep) → can_cut r.core.replica.state ≡ false → DoesExactly r r (cuts r.core)
unfolding cuts
cut_none r none _ = rw none refl
