-- MomentsOrder.antt: logs keep the order in which the commands of one ballot were taken.
use Rattle.std.proofs.Common.{◌≡◌, ℕ, ◌⊎◌, inl, inr, List, [], ◌∷◌, ◌++◌, Some, ap, sym, ◌∙◌, subst}
use Rattle.std.specs.Prelude.{filter, slice_get}
use Rattle.std.proofs.lemmas.List.{append-nil}
use Rattle.machine.specs.Machine.{Rules}
use Rattle.agreement.specs.whole_logs.Application.{applied_to}
use Rattle.ballot_base.specs.declared.config.Config.{Config}
use Rattle.agreement.specs.whole_logs.Replica.{ReplicaState}
use Rattle.lists.specs.Lists.{In}
use Rattle.lists.specs.Lists.In.{here, there}
use Rattle.agreement.specs.Inside.Ballots.{Line}
use Rattle.agreement.specs.Inside.BallotsStand.{Applied}
use Rattle.agreement.specs.Inside.OpeningHistory.{opening_history}
use Rattle.agreement.specs.Inside.Own.{OwnLines}
use Rattle.agreement.specs.Theorems.{KeepsTheOrder}
use Rattle.agreement.specs.Moments.{Learns, Moment, Moments, opening_moment}
use Rattle.agreement.specs.Moments.Moments.{began, went_on, learned}
use Rattle.agreement.specs.Proposals.{taken_of}
use Rattle.agreement.specs.World.{moved, opening_world}
use Rattle.agreement.proofs.Agreed.PlainSteps.{IsOrdered, were_applied}
use Rattle.agreement.proofs.Agreed.TakenInOrder.{ordered_step}
use Rattle.agreement.proofs.Frame.EqualLists.{prefix_of_same}
use Rattle.agreement.proofs.Orders.OwnSteps.{OwnGoesOn, own_in_logs}
use Rattle.agreement.proofs.Orders.TakenParts.{taken_are_part}
use Rattle.agreement.proofs.Runs.OpeningTold.{first_lined}
use Rattle.agreement.proofs.Runs.Learning.{Teaches, learned_goes_on, learned_serves}
use Rattle.agreement.proofs.Runs.OpeningServes.{opening_is_serving}
use Rattle.agreement.proofs.Runs.RunsGoOn.{StepGoesOn}

-- the present moment is one of them, too
now_too : {S C O : Type 0} (rules : Rules S C O) (v : Moment S C O) (moments : List (Moment S C O)) (rows : List (ℕ × C)) →
    IsOrdered rules moments v.master v.world rows → IsOrdered rules (v ∷ moments) v.master v.world rows
now_too {S = S} {C = C} {O = O} rules v moments rows q =
    record { history = q.history; serves = q.serves; were = λ c i n r stands. were c i n r stands; own = q.own }
  where
    were : (c : Moment S C O) → In c (v ∷ moments) → (n : ℕ) (r : ReplicaState S C) → slice_get c.world.nodes n ≡ Some r → Applied v.world q.history r
    were c here n r stands = (q.serves.sound.nodes n r stands).applied
    were c (there i) n r stands = q.were c i n r stands

-- a node that learns takes nothing
ordered_learned : {S C O : Type 0} (rules : Rules S C O) (a v : Moment S C O) (moments : List (Moment S C O)) (rows : List (ℕ × C)) →
    Learns rules (a ∷ moments) a v → IsOrdered rules (a ∷ moments) a.master a.world rows → IsOrdered rules (a ∷ moments) v.master v.world rows
ordered_learned {S = S} {C = C} {O = O} rules a v moments rows y q =
    subst (λ (u : Moment S C O). IsOrdered rules (a ∷ moments) u.master u.world rows) (sym y.becomes)
    (record {
      history = x.run.group.goes_on.history;
      serves = learned_serves rules a.master a.world q.history y.node y.replica y.places q.serves y.stands x;
      were = were_applied rules (a ∷ moments) a.world (moved a.world y.node (applied_to rules y.replica y.places) []) q.history x.run.group.goes_on.history
          q.serves.sound x.run.group.goes_on.extends x.run.group.goes_on.active q.were;
      own = by_way o.later o.own o.way;
    })
  where
    teaches : Teaches a.world q.history y.replica y.teacher y.places
    teaches = record { applied = q.were y.earlier y.was y.other y.teacher y.stood; joined = y.joined; had = y.applied; same = y.same }

    x : StepGoesOn rules a.world q.history a.master (moved a.world y.node (applied_to rules y.replica y.places) []) []
    x = learned_goes_on rules a.master a.world q.history y.node y.replica y.teacher y.places q.serves y.stands y.runs y.passive y.more y.within teaches

    o : OwnGoesOn rules.start_of x.run.group.goes_on.history rows []
    o = x.run.group.own rows q.own

    by_way : (later : List (ℕ × C)) → OwnLines rules.start_of x.run.group.goes_on.history later → (later ≡ rows) ⊎ (later ≡ rows ++ []) →
        OwnLines rules.start_of x.run.group.goes_on.history rows
    by_way later own (inl same) = subst (λ us. OwnLines rules.start_of x.run.group.goes_on.history us) same own
    by_way later own (inr more) = subst (λ us. OwnLines rules.start_of x.run.group.goes_on.history us) (more ∙ append-nil rows) own

-- nothing is proposed at the opening
ordered_moments : {S C O : Type 0} (rules : Rules S C O) (config : Config) (a : Moment S C O) (moments : List (Moment S C O)) →
    (came : Moments rules config (a ∷ moments)) → IsOrdered rules (a ∷ moments) a.master a.world (taken_of came)
ordered_moments {S = S} {C = C} {O = O} rules config a moments (began greatest nodes lawful is) =
    subst (λ (u : Moment S C O). IsOrdered rules (u ∷ []) u.master u.world []) (sym is)
    (record {
      history = opening_history C config;
      serves = opening_is_serving rules greatest nodes config lawful;
      were = λ c i n r stands. opened c i n r stands;
      own = record {
        lined = λ row i. elim i [ ];
        own = λ names ballot of b l e.
            let same : filter names l.list ≡ [] = ap (λ (u : Line C). filter names u.list) (sym (first_lined C config b l e).1) in
            (prefix_of_same (filter names l.list) [] same, λ f. same);
      };
    })
  where
    opened : (c : Moment S C O) → In c (opening_moment rules greatest nodes config ∷ []) → (n : ℕ) (r : ReplicaState S C) →
        slice_get c.world.nodes n ≡ Some r → Applied (opening_world rules nodes config) (opening_history C config) r
    opened c here n r stands = ((opening_is_serving rules greatest nodes config lawful).sound.nodes n r stands).applied
    opened c (there i) n r stands = elim i [ ]
ordered_moments rules config v (a ∷ moments) (went_on came step) =
    now_too rules v (a ∷ moments) (taken_of (went_on came step))
    (ordered_step rules (a ∷ moments) a.master a.world v.master v.world (taken_of came) step (ordered_moments rules config a moments came))
ordered_moments rules config v (a ∷ moments) (learned came learns) =
    now_too rules v (a ∷ moments) (taken_of came) (ordered_learned rules a v moments (taken_of came) learns (ordered_moments rules config a moments came))

-- each log keeps the order
pub keeps_the_order : {S C O : Type 0} (rules : Rules S C O) → KeepsTheOrder rules
keeps_the_order rules config a moments came =
    let q = ordered_moments rules config a moments came in (
      taken_are_part rules config (a ∷ moments) came,
      λ names ballot of n r stands. own_in_logs rules a.world q.history (taken_of came) q.serves.sound q.own n r stands names ballot of,
    )
