-- ProposalsAreSteps.antt: what a command does to a replica, when memory may run out, is a step of
-- its own.
use Rattle.std.proofs.Common.{◌≡◌, ◌≤◌, ◌<◌, ◌⊎◌, inl, inr, Bool, true, false, not, ◌&&◌, List, [], length, nat_lt, refl, sym, subst, ◌∙◌}
use Rattle.std.proofs.lemmas.Bool.{lt-ltb, le-ltb, cases_lt}
use Rattle.broker_base.specs.State.{State}
use Rattle.broker_spec.specs.declared.command.Command.{Command}
use Rattle.broker_spec.specs.declared.command.Output.{Output}
use Rattle.ballot_base.specs.Logs.{places}
use Rattle.ballot_base.specs.declared.message.Effect.{Effect}
use Rattle.ballot_base.specs.Losses.{ReplicaStepOrLost, StepMessagesOrLost, Thinned, halted, one_more}
use Rattle.ballot_base.specs.Replica.{CountedReplica, is_active}
use Rattle.ballot_base.specs.StepOutcome.{Outcome}
use Rattle.ballot_base.specs.Service.{added, max_places, proposed}
use Rattle.ballot_base.proofs.StepRows.{proposed-adds, proposed-full}
use Rattle.world_base.specs.node_core.Core.{CoreState, rules, serves}
use Rattle.world_base.specs.node_core.Lossy.{Account, HandledStepOrLost}
use Rattle.world_base.specs.node_core.LossyProposals.{ProposalsAreSteps}
use Rattle.world_base.specs.node_core.LossyProposals.Declines.{no_room, forgets, stops}
use Rattle.world_base.specs.node_core.Lossy.HandlesAll.{nothing}
use Rattle.world_base.specs.node_core.Effects.{has_room}
use Rattle.world_base.proofs.of_node_core.Asked.{left_true}

done_steps : (old new : CountedReplica State Command) (outcome : Outcome State Command Output) (given : List (Effect Command Output)) →
    StepMessagesOrLost old outcome new [] given → ReplicaStepOrLost rules old outcome new given
done_steps old new outcome given did = by did.counted
  where
    by : ((did.given ≡ outcome.effects) × (new.losses ≡ old.losses)) ⊎ (new.losses ≡ one_more old.losses) → ReplicaStepOrLost rules old outcome new given
    by (inl exact) = inl (did.state, did.appended ∙ exact.0, exact.1)
    by (inr counted) =
        inr (inl (did.state, subst (λ (l : List (Effect Command Output)). Thinned l outcome.effects) (sym did.appended) did.thinned), counted)

right_true : (a b : Bool) → (a && b) ≡ true → b ≡ true
right_true true b e = e
right_true false b e = absurd cc

room_of : (core : CoreState) → has_room core ≡ true → places core.replica.state.log < max_places
room_of core room = by (cases_lt (places core.replica.state.log) max_places)
  where
    by : (places core.replica.state.log < max_places) ⊎ (max_places ≤ places core.replica.state.log) → places core.replica.state.log < max_places
    by (inl below) = below
    by (inr over) =
        let full = le-ltb (places core.replica.state.log) max_places over in
        let fits = right_true (serves core) (nat_lt (places core.replica.state.log) max_places) room in
        absurd cc

full_of : (core : CoreState) → serves core ≡ true → has_room core ≡ false → max_places ≤ places core.replica.state.log
full_of core serving full = by (cases_lt (places core.replica.state.log) max_places)
  where
    by : (places core.replica.state.log < max_places) ⊎ (max_places ≤ places core.replica.state.log) → max_places ≤ places core.replica.state.log
    by (inl below) =
        let fits = lt-ltb (places core.replica.state.log) max_places below in
        let none : nat_lt (places core.replica.state.log) max_places ≡ false = rw serving at full in
        absurd cc
    by (inr over) = over

active_of : (core : CoreState) → serves core ≡ true → is_active core.replica.state.role ≡ true
active_of core serving = left_true (is_active core.replica.state.role) (not core.replica.state.stopped) serving

not_idle : (core : CoreState) → has_room core ≡ true → serves core ≡ false → ⊥
not_idle core room idle =
    let serving = left_true (serves core) (nat_lt (places core.replica.state.log) max_places) room in
    absurd cc

pub proposals_are_steps : ProposalsAreSteps
proposals_are_steps command core did (inl takes) = (
  λ serving. record {
    replica = takes.replica;
    steps = subst (λ (o : Outcome State Command Output). ReplicaStepOrLost rules core.replica o takes.replica did.given)
        (sym (proposed-adds rules core.replica.state command (active_of core serving) (room_of core takes.room)))
        (done_steps core.replica takes.replica (added rules core.replica.state command) did.given takes.done);
    handles = takes.handles;
  },
  λ idle. absurd (not_idle core takes.room idle),
)
proposals_are_steps command core did (inr (no_room full is)) = (
  λ serving. subst (λ (d : Account). HandledStepOrLost (proposed rules core.replica.state command) core d) (sym is)
      (record {
        replica = core.replica;
        steps = subst (λ (o : Outcome State Command Output). ReplicaStepOrLost rules core.replica o core.replica [])
            (sym (proposed-full rules core.replica.state command (active_of core serving) (full_of core serving full)))
            (inl (refl, refl, refl));
        handles = nothing;
      }),
  λ idle. is,
)
proposals_are_steps command core did (inr (forgets room is)) = (
  λ serving. subst (λ (d : Account). HandledStepOrLost (proposed rules core.replica.state command) core d) (sym is)
      (record {
        replica = record core.replica { losses = one_more core.replica.losses };
        steps = inr (inr (inl (refl, refl)), refl);
        handles = nothing;
      }),
  λ idle. absurd (not_idle core room idle),
)
proposals_are_steps command core did (inr (stops room is)) = (
  λ serving. subst (λ (d : Account). HandledStepOrLost (proposed rules core.replica.state command) core d) (sym is)
      (record {
        replica = record { state = halted rules core.replica.state; losses = one_more core.replica.losses };
        steps = inr (inr (inr (refl, refl)), refl);
        handles = nothing;
      }),
  λ idle. absurd (not_idle core room idle),
)
