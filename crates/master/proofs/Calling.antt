-- Calling.antt: what a call of a replica is to its group: a step, perhaps with losses, which the replica counts.
use Rattle.std.proofs.Common.{◌≡◌, ◌+◌, ◌-◌, ◌^◌, ◌<◌, ◌≤◌, ◌⊎◌, inl, inr, Bool, true, false, min, List, [], ◌∷◌, refl, ap, sym, ◌∙◌, subst, arith}
use Rattle.std.proofs.lemmas.Bool.{cases_Bool, cases_lt}
use Rattle.std.proofs.lemmas.List.{length-append}
use Rattle.machine.specs.Machine.{Rules}
use Rattle.ballot_base.specs.declared.message.Effect.{Effect}
use Rattle.ballot_base.specs.Logs.{places}
use Rattle.ballot_base.specs.Losses.{SendsAndAddsNothing, Loses, AppendedStepOrLost, ReplicaStepOrLost, Thinned, one_more}
use Rattle.ballot_base.specs.Losses.Thinned.{none, keeps, loses}
use Rattle.ballot_base.specs.Protocol.{Input, replica_step}
use Rattle.ballot_base.specs.Protocol.Input.{Proposes, Ticks}
use Rattle.ballot_base.specs.Replica.{ReplicaState, CountedReplica, is_active}
use Rattle.ballot_base.specs.StepOutcome.{Outcome}
use Rattle.ballot_base.specs.Service.{max_places, proposed}
use Rattle.ballot_base.proofs.StepRows.{added-log, proposed-adds, proposed-full, proposed-not_active}
use Rattle.ballot_base.proofs.ThinnedEffects.{Thinned-same}
use Rattle.ballot.proofs.TicksTaken.{ticked-state}
use Rattle.master.specs.Inside.Losses.{InputStepOrLost, IsRead}

-- an exact step is one in which nothing was lost
loses_of : {S C O : Type 0} (rules : Rules S C O) {old : CountedReplica S C} {o : Outcome S C O} {new : CountedReplica S C} {given : List (Effect C O)} →
    ReplicaStepOrLost rules old o new given → Loses rules old.state o new.state given
loses_of {S = S} {C = C} {O = O} rules {o = o} {given = given} (inl e) =
    inl (e.0, subst (λ (us : List (Effect C O)). Thinned us o.effects) (sym e.1) (Thinned-same o.effects))
loses_of rules (inr e) = e.0

-- a step that was not counted is exact, below the greatest count
exact_of : {S C O : Type 0} (rules : Rules S C O) {old : CountedReplica S C} {o : Outcome S C O} {new : CountedReplica S C} {given : List (Effect C O)} →
    ReplicaStepOrLost rules old o new given → new.losses ≡ old.losses → old.losses < 2 ^ 64 - 1 → (new.state ≡ o.state) × (given ≡ o.effects)
exact_of rules (inl e) same below = (e.0, e.1)
exact_of rules {old = old} (inr e) same below = let f : old.losses ≡ min (old.losses + 1) (2 ^ 64 - 1) = sym same ∙ e.1 in absurd (omega (arith, f, below))

-- of nothing nothing is missing
pub thinned_nothing : {C O : Type 0} {xs ys : List (Effect C O)} → ys ≡ [] → Thinned xs ys → xs ≡ []
thinned_nothing e none = refl
thinned_nothing e (keeps t) = cc
thinned_nothing e (loses t) = cc

-- no more than one loss was counted
counts_of : {S C O : Type 0} (rules : Rules S C O) {old : CountedReplica S C} {o : Outcome S C O} {new : CountedReplica S C} {given : List (Effect C O)} →
    ReplicaStepOrLost rules old o new given → (new.losses ≡ old.losses) ⊎ (new.losses ≡ one_more old.losses)
counts_of rules (inl e) = inl e.2
counts_of rules (inr e) = inr e.1

-- if nothing is to be handed out, nothing was
given_nothing : {S C O : Type 0} (rules : Rules S C O) {old : CountedReplica S C} {o : Outcome S C O} {new : CountedReplica S C} {given : List (Effect C O)} →
    o.effects ≡ [] → ReplicaStepOrLost rules old o new given → given ≡ o.effects
given_nothing rules empty (inl e) = e.1
given_nothing rules empty (inr (inl (a, t), c)) = thinned_nothing empty t ∙ sym empty
given_nothing rules empty (inr (inr (inl (a, t)), c)) = t ∙ sym empty
given_nothing rules empty (inr (inr (inr (a, t)), c)) = t ∙ sym empty

-- a call of a replica is its step, perhaps with losses; if that sends nothing, leaves the log as it
-- is and applies nothing, it has none
pub record Called {S C O : Type 0} (rules : Rules S C O) (old : CountedReplica S C) (input : Input C) (new : CountedReplica S C)
    (before after : List (Effect C O)) : Type 0 where
  pub stepped : AppendedStepOrLost rules old (replica_step rules old.state input) new before after
  pub quiet : SendsAndAddsNothing old.state (replica_step rules old.state input) → IsRead rules old.state input →
      new ≡ record old { state = (replica_step rules old.state input).state }

-- a tick changes no replica
pub ticks_called : {S C O : Type 0} (rules : Rules S C O) (old new : CountedReplica S C) (before after : List (Effect C O)) →
    AppendedStepOrLost rules old (replica_step rules old.state Ticks) new before after → (SendsAndAddsNothing old.state (replica_step rules old.state Ticks) → new ≡ old) →
    Called rules old Ticks new before after
ticks_called {S = S} {C = C} {O = O} rules old new before after s still =
    record {
      stepped = s;
      quiet = λ q r. still q
          ∙ ap (λ t. let z : CountedReplica S C = record { state = t; losses = old.losses } in z) (sym (ticked-state O old.state old.state.role));
    }

-- a proposal that is taken makes the log longer
pub proposal_busy : {S C O : Type 0} {P : Type 0} (rules : Rules S C O) (r : ReplicaState S C) (command : C) → is_active r.role ≡ true →
    places r.log < max_places → SendsAndAddsNothing r (proposed rules r command) → P
proposal_busy {S = S} {C = C} {O = O} rules r command active room quiet =
    let e = ap (λ (o : Outcome S C O). places o.state.log) (sym (proposed-adds rules r command active room)) in
    let same = ap places quiet.same_log in
    let f = ap places (added-log rules r command) in let long = length-append r.log.rest (command ∷ []) in
    absurd (omega (arith, e, same, f, long))

-- so one that does not is refused
pub proposes_called : {S C O : Type 0} (rules : Rules S C O) (old new : CountedReplica S C) (command : C) (before after : List (Effect C O)) →
    AppendedStepOrLost rules old (proposed rules old.state command) new before after → (is_active old.state.role ≡ false → new ≡ old) →
    (is_active old.state.role ≡ true → max_places ≤ places old.state.log → new ≡ old) → Called rules old (Proposes command) new before after
proposes_called {S = S} {C = C} {O = O} rules old new command before after s idle full =
    record { stepped = s; quiet = λ q r. by_role (cases_Bool (is_active old.state.role)) (cases_lt (places old.state.log) max_places) q }
  where
    with_outcome : Outcome S C O → CountedReplica S C
    with_outcome o = record { state = o.state; losses = old.losses }

    by_role : (is_active old.state.role ≡ true) ⊎ (is_active old.state.role ≡ false) →
        (places old.state.log < max_places) ⊎ (max_places ≤ places old.state.log) → SendsAndAddsNothing old.state (proposed rules old.state command) →
        new ≡ record old { state = (proposed rules old.state command).state }
    by_role (inl on) (inl room) q = proposal_busy rules old.state command on room q
    by_role (inl on) (inr past) q = full on past ∙ ap with_outcome (sym (proposed-full rules old.state command on past))
    by_role (inr off) _ q = idle off ∙ ap with_outcome (sym (proposed-not_active rules old.state command off))

-- the same call by other names
pub called_as : {S C O : Type 0} (rules : Rules S C O) (old new new' : CountedReplica S C) (i i' : Input C) (before after after' : List (Effect C O)) →
    i' ≡ i → new' ≡ new → after' ≡ after → Called rules old i new before after → Called rules old i' new' before after'
called_as {S = S} {C = C} {O = O} rules old new new' i i' before after after' e f h s =
    subst (λ (j : Input C). Called rules old j new' before after') (sym e)
    (subst (λ (n : CountedReplica S C). Called rules old i n before after') (sym f)
    (subst (λ (us : List (Effect C O)). Called rules old i new before us) (sym h) s))

pub took_in : {S C O : Type 0} {rules : Rules S C O} {old : CountedReplica S C} {input : Input C} {new : CountedReplica S C} {before after : List (Effect C O)}
    (whole : Bool) → Called rules old input new before after → (whole ≡ true → (new.losses ≡ old.losses) × (old.losses < 2 ^ 64 - 1)) →
    (new.losses ≡ old.losses → old.losses < 2 ^ 64 - 1 → whole ≡ true) → InputStepOrLost rules old input new before after whole
took_in {S = S} {C = C} {rules = rules} whole c same told =
    record {
      given = c.stepped.given;
      appended = c.stepped.appended;
      loses = loses_of rules c.stepped.steps;
      exact = λ h. let e = exact_of rules c.stepped.steps (same h).0 (same h).1 in (e.0, e.1, (same h).0);
      counted = counts_of rules c.stepped.steps;
      quiet = λ q r. let is = c.quiet q r in (
        ap (λ (z : CountedReplica S C). z.state) is,
        given_nothing rules q.nothing_sent c.stepped.steps,
        ap (λ (z : CountedReplica S C). z.losses) is,
      );
      told = told;
    }
