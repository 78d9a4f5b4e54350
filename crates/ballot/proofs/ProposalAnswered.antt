-- ProposalAnswered.antt: what each answer of a proposal says about the step that was done.
use Rattle.std.proofs.Common.{◌≡◌, ◌<◌, ℕ, Bool, true, false, cond, ◌⊎◌, inl, inr, List, [], refl, ap, sym, subst, ◌∙◌}
use Rattle.std.proofs.lemmas.List.{append-nil}
use Rattle.ballot_base.specs.declared.message.Effect.{Effect}
use Rattle.machine.specs.Machine.{Rules}
use Rattle.ballot_base.specs.Replica.{ReplicaState, CountedReplica, is_active}
use Rattle.ballot_base.specs.Logs.{places}
use Rattle.ballot_base.specs.Losses.{StepMessagesOrLost, one_more}
use Rattle.ballot_base.specs.StepOutcome.{Outcome, nothing_done}
use Rattle.ballot_base.specs.Service.{added, max_places, proposed}
use Rattle.ballot_base.proofs.StepRows.{proposed-adds}
use Rattle.ballot_base.specs.declared.errors.error.ProposeError.{ProposeError}
use Rattle.ballot_base.specs.declared.errors.error.ProposeError.TheVariants.{NotActive, LogFull, Memory, Halted}
use Rattle.ballot.specs.Inside.{Lacks, MessagesOrLost, ReadingStepOrLost}
use Rattle.ballot.specs.Told.{StepTold}
use Rattle.ballot.proofs.MessagesTaken.{went_told, went_sent}

-- what a step leaves as it is was done
pub stays_told : {S C O : Type 0} (rules : Rules S C O) (old : CountedReplica S C) (o : Outcome S C O) (out : List (Effect C O)) →
    o ≡ nothing_done O old.state → StepTold rules old o true old out out
stays_told {S = S} {C = C} {O = O} rules old o out e =
    record {
      given = [];
      appended = sym (append-nil out);
      exact = λ _. (ap (λ (z : Outcome S C O). z.state) (sym e), ap (λ (z : Outcome S C O). z.effects) (sym e), refl);
      lossy = λ f. cc;
    }

-- a step that was done, with its lost messages counted
pub added_told : {S C O : Type 0} {rules : Rules S C O} (old : CountedReplica S C) (o : Outcome S C O) (whole : Bool) (mid new : CountedReplica S C)
    (before after : List (Effect C O)) →
    MessagesOrLost old o whole mid before after → new.state ≡ mid.state → new.losses ≡ cond whole mid.losses (one_more mid.losses) →
    StepTold rules old o whole new before after
added_told {S = S} {C = C} {rules = rules} old o whole mid new before after (is, sends) state losses =
    let went : ReadingStepOrLost rules old o false whole mid before after =
    went_sent old o mid before after whole sends (ap (λ (z : CountedReplica S C). z.state) is) (ap (λ (z : CountedReplica S C). z.losses) is) in
    went_told new went state losses

-- and what is done then
pub added_done : {S C O : Type 0} (old : CountedReplica S C) (o : Outcome S C O) (whole : Bool) (mid new : CountedReplica S C)
    (before after : List (Effect C O)) →
    MessagesOrLost old o whole mid before after → new.state ≡ mid.state → new.losses ≡ cond whole mid.losses (one_more mid.losses) →
    StepMessagesOrLost old o new before after
added_done {S = S} {C = C} old o whole mid new before after (is, sends) state losses =
    record {
      given = sends.given;
      appended = sends.appended;
      state = state ∙ ap (λ (z : CountedReplica S C). z.state) is;
      thinned = sends.thinned;
      counted = by_whole whole sends.exact
          (losses ∙ ap (λ k. cond whole k (one_more k)) (ap (λ (z : CountedReplica S C). z.losses) is));
    }
  where
    by_whole : {X : Type 0} {xs ys : X} {k n : ℕ} (whole : Bool) → (whole ≡ true → xs ≡ ys) →
        n ≡ cond whole k (one_more k) → ((xs ≡ ys) × (n ≡ k)) ⊎ (n ≡ one_more k)
    by_whole true f e = inl (f refl, e)
    by_whole false f e = inr e

-- an active primary with room adds what is proposed
pub proposed_told : {S C O : Type 0} (rules : Rules S C O) (old : CountedReplica S C) (command : C) (whole : Bool)
    (new : CountedReplica S C) (before after : List (Effect C O)) →
    is_active old.state.role ≡ true → places old.state.log < max_places →
    StepTold rules old (added rules old.state command) whole new before after → StepTold rules old (proposed rules old.state command) whole new before after
proposed_told {S = S} {C = C} {O = O} rules old command whole new before after active room told =
    subst (λ (o : Outcome S C O). StepTold rules old o whole new before after) (sym (proposed-adds rules old.state command active room)) told

-- and still runs
pub added_runs : {S C O : Type 0} (old : CountedReplica S C) (o : Outcome S C O) (whole : Bool) (mid new : CountedReplica S C)
    (before after : List (Effect C O)) → MessagesOrLost old o whole mid before after → new.state ≡ mid.state →
    o.state.stopped ≡ old.state.stopped → old.state.stopped ≡ false → new.state.stopped ≡ false
added_runs {S = S} {C = C} old o whole mid new before after (is, sends) state kept running =
    ap (λ (r : ReplicaState S C). r.stopped) state ∙ ap (λ (z : CountedReplica S C). z.state.stopped) is ∙ kept ∙ running

-- each refusal for want of memory is that of a step with losses
pub lacks_told : {S C O : Type 0} (rules : Rules S C O) (error : ProposeError) (old : CountedReplica S C) (o : Outcome S C O) (mid new : CountedReplica S C)
    (before after : List (Effect C O)) → Lacks rules error old mid → new.state ≡ mid.state → new.losses ≡ one_more mid.losses →
    after ≡ before → StepTold rules old o false new before after
lacks_told rules NotActive old o mid new before after d state losses same = absurd d
lacks_told rules LogFull old o mid new before after d state losses same = absurd d
lacks_told {S = S} {C = C} rules Memory old o mid new before after d state losses same =
    record {
      given = [];
      appended = same ∙ sym (append-nil before);
      exact = λ f. cc;
      lossy = λ _. (inr (inl (state ∙ ap (λ (z : CountedReplica S C). z.state) d, refl)), losses ∙ ap (λ (z : CountedReplica S C). one_more z.losses) d);
    }
lacks_told {S = S} {C = C} rules Halted old o mid new before after d state losses same =
    record {
      given = [];
      appended = same ∙ sym (append-nil before);
      exact = λ f. cc;
      lossy = λ _. (inr (inr (state ∙ ap (λ (z : CountedReplica S C). z.state) d, refl)), losses ∙ ap (λ (z : CountedReplica S C). one_more z.losses) d);
    }

-- the replica stopped exactly if Halted is answered
pub lacks_halted : {S C O : Type 0} (rules : Rules S C O) (error : ProposeError) (old mid new : CountedReplica S C) →
    Lacks rules error old mid → new.state ≡ mid.state → old.state.stopped ≡ false →
    (error ≡ Halted → new.state.stopped ≡ true) × (new.state.stopped ≡ true → error ≡ Halted)
lacks_halted rules NotActive old mid new d state running = absurd d
lacks_halted rules LogFull old mid new d state running = absurd d
lacks_halted {S = S} {C = C} rules Memory old mid new d state running =
    let e : new.state.stopped ≡ false =
    ap (λ (r : ReplicaState S C). r.stopped) state ∙ ap (λ (z : CountedReplica S C). z.state.stopped) d ∙ running in
    (λ h. cc, λ h. cc)
lacks_halted {S = S} {C = C} rules Halted old mid new d state running =
    (λ h. ap (λ (r : ReplicaState S C). r.stopped) state ∙ ap (λ (z : CountedReplica S C). z.state.stopped) d, λ h. refl)

-- want of memory alone changes only the count
pub lacks_memory : {S C O : Type 0} (rules : Rules S C O) (error : ProposeError) (old mid new : CountedReplica S C) →
    Lacks rules error old mid → new.state ≡ mid.state → new.losses ≡ one_more mid.losses → error ≡ Memory →
    new ≡ record old { losses = one_more old.losses }
lacks_memory rules NotActive old mid new d state losses e = absurd d
lacks_memory rules LogFull old mid new d state losses e = absurd d
lacks_memory {S = S} {C = C} rules Memory old mid new d state losses e =
    ap (λ s. let z : CountedReplica S C = record { state = s; losses = new.losses } in z) (state ∙ ap (λ (z : CountedReplica S C). z.state) d)
    ∙ ap (λ n. let z : CountedReplica S C = record { state = old.state; losses = n } in z) (losses ∙ ap (λ (z : CountedReplica S C). one_more z.losses) d)
lacks_memory rules Halted old mid new d state losses e = cc
