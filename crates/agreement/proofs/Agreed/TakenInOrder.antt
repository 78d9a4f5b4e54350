-- TakenInOrder.antt: each step keeps the order of what was taken, with what it takes at the end.
use Rattle.std.proofs.Common.{◌≡◌, ℕ, ◌⊎◌, inl, inr, false, List, [], ◌∷◌, ◌++◌, length, Some, refl, ap, sym, ◌∙◌, subst}
use Rattle.std.specs.Prelude.{slice_get, nat_lt}
use Rattle.std.proofs.lemmas.List.{append-nil}
use Rattle.machine.specs.Machine.{Rules}
use Rattle.lists.proofs.Places.{get_set}
use Rattle.agreement.specs.whole_logs.Messages.{Effect}
use Rattle.agreement.specs.whole_logs.Losses.{Loses, halted}
use Rattle.agreement.specs.whole_logs.Protocol.{replica_step}
use Rattle.agreement.specs.whole_logs.Protocol.Input.{Receives, Proposes, Ticks}
use Rattle.agreement.specs.whole_logs.Replica.{ReplicaState}
use Rattle.ballot_base.specs.declared.status.Role.TheVariants.{Active}
use Rattle.agreement.specs.whole_logs.Service.{added}
use Rattle.agreement.specs.Inside.Ballots.{History}
use Rattle.agreement.specs.Inside.MomentSteps.{MomentStep, adds_of}
use Rattle.agreement.specs.Inside.MomentSteps.MomentStep.{takes}
use Rattle.agreement.specs.Inside.Own.{OwnLines}
use Rattle.agreement.specs.Inside.Serves.{Serves}
use Rattle.agreement.specs.Inside.SoundNodes.{IsActive, IsSoundNode}
use Rattle.agreement.specs.MasterState.{MasterState}
use Rattle.agreement.specs.Moments.{Moment}
use Rattle.agreement.specs.Proposals.{proposal_of, taken_by, taken_in}
use Rattle.agreement.specs.Steps.{MayHappen, MayTake}
use Rattle.agreement.specs.Steps.MayHappen.{node_takes, node_stops, master_assigns, master_hears, assignment_lost, answer_lost}
use Rattle.agreement.specs.World.{GroupWorld, moved}
use Rattle.agreement.proofs.Agreed.KnownSteps.{serves_then}
use Rattle.agreement.proofs.Frame.Roles.{role_active}
use Rattle.agreement.proofs.Orders.OwnedAnyway.{own_anyway}
use Rattle.agreement.proofs.Orders.OwnSteps.{OwnGoesOn}
use Rattle.agreement.proofs.Orders.Taken.{Went, none_taken, proposal_went, taken_when_added, taken_when_same}
use Rattle.agreement.proofs.Orders.Taken.Went.{was_added, was_refused, has_stopped}
use Rattle.agreement.proofs.Runs.RunsGoOn.{StepGoesOn, group_goes_on}
use Rattle.agreement.proofs.Serving.ActiveTicks.{active_log}
use Rattle.agreement.proofs.Starts.StaysActive.{added_keeps}
use Rattle.agreement.proofs.Agreed.PlainSteps.{IsOrdered, moved_same, plain_step, were_applied}

-- a proposal
proposed_step : {S C O : Type 0} (rules : Rules S C O) (moments : List (Moment S C O)) (m : MasterState) (w : GroupWorld S C O) (rows : List (ℕ × C)) (n : ℕ) (r : ReplicaState S C) (c : C)
    (new : ReplicaState S C) (given : List (Effect C O)) → slice_get w.nodes n ≡ Some r → r.stopped ≡ false → MayTake w n (Proposes c) →
    Loses rules r (replica_step rules r (Proposes c)) new given → Went rules r c new given → IsOrdered rules moments m w rows →
    IsOrdered rules moments m (moved w n new given) (rows ++ taken_by r new (Proposes c))
proposed_step {S = S} {C = C} {O = O} rules moments m w rows n r c new given stands runs may loses (was_refused e f) q =
    subst (λ us. IsOrdered rules moments m (moved w n new given) us)
    (sym (ap (λ us. rows ++ us) (taken_when_same r new c (ap (λ (x : ReplicaState S C). x.log) e)) ∙ append-nil rows))
    (subst (λ (u : GroupWorld S C O). IsOrdered rules moments m u rows) (sym (moved_same w n r new given stands e f)) q)
proposed_step {S = S} {C = C} {O = O} rules moments m w rows n r c new given stands runs may loses (has_stopped e f) q =
    subst (λ us. IsOrdered rules moments m (moved w n new given) us)
    (sym (ap (λ us. rows ++ us) (taken_when_same r new c (ap (λ (x : ReplicaState S C). x.log) e)) ∙ append-nil rows))
    (subst (λ (x : ReplicaState S C). IsOrdered rules moments m (moved w n x given) rows) (sym e)
    (subst (λ (us : List (Effect C O)). IsOrdered rules moments m (moved w n (halted rules r) us) rows) (sym f)
    (plain_step rules moments m w m (moved w n (halted rules r) []) rows (node_stops n r stands) refl q)))
proposed_step {S = S} {C = C} {O = O} rules moments m w rows n r c new given stands runs may loses (was_added active e) q =
    record {
      history = h;
      serves = serves_then rules m m w v q.history (adds_of goes) s x (node_takes n r (Proposes c) stands runs may loses);
      were = were_applied rules moments w v q.history h s.sound x.run.group.goes_on.extends x.run.group.goes_on.active q.were;
      own = subst (λ us. OwnLines rules.start_of h (rows ++ us)) (sym (taken_when_added r new c longer)) (by_way o.later o.own o.way);
    }
  where
    v : GroupWorld S C O
    v = moved w n new given

    s : Serves rules m w q.history
    s = q.serves

    goes : MomentStep rules m w m v
    goes = takes n r (Proposes c) stands runs may loses

    x : StepGoesOn rules w q.history m v (adds_of goes)
    x = group_goes_on rules m m w v q.history s.sound s.long s.replays s.master goes

    h : History C
    h = x.run.group.goes_on.history

    o : OwnGoesOn rules.start_of h rows (adds_of goes)
    o = x.run.group.own rows q.own

    kept : ((added rules r c).state.role ≡ r.role) × ((added rules r c).state.joined ≡ r.joined) × ((added rules r c).state.log ≡ r.log ++ c ∷ [])
    kept = added_keeps rules r c

    longer : new.log ≡ r.log ++ c ∷ []
    longer = ap (λ (y : ReplicaState S C). y.log) e ∙ kept.2

    role : r.role ≡ Active
    role = role_active r.role active

    before : IsSoundNode w q.history n r
    before = s.sound.nodes n r stands

    after : IsSoundNode v h n new
    after = x.run.group.goes_on.sound.nodes n new (get_set w.nodes n r new stands)

    leads : IsActive w q.history n r
    leads = before.active role

    still : IsActive v h n new
    still = after.active (ap (λ (y : ReplicaState S C). y.role) e ∙ kept.0 ∙ role)

    joined : new.joined ≡ r.joined
    joined = ap (λ (y : ReplicaState S C). y.joined) e ∙ kept.1

    by_way : (later : List (ℕ × C)) → OwnLines rules.start_of h later → (later ≡ rows) ⊎ (later ≡ rows ++ adds_of goes) →
        OwnLines rules.start_of h (rows ++ (r.joined, c) ∷ [])
    by_way later own (inr more) = subst (λ us. OwnLines rules.start_of h us) more own
    by_way later own (inl same) =
        own_anyway rules.start_of q.history h rows r.joined c leads.line still.line leads.lined (ap h.line (sym joined) ∙ still.lined)
        (sym (active_log v h n new after still) ∙ longer ∙ ap (λ (us : List C). us ++ c ∷ []) (active_log w q.history n r before leads)) q.own
        (subst (λ us. OwnLines rules.start_of h us) same own)

-- a step
pub ordered_step : {S C O : Type 0} (rules : Rules S C O) (moments : List (Moment S C O)) (m : MasterState) (w : GroupWorld S C O) (k : MasterState) (v : GroupWorld S C O) (rows : List (ℕ × C)) →
    (step : MayHappen rules m w k v) → IsOrdered rules moments m w rows → IsOrdered rules moments k v (rows ++ taken_in step)
ordered_step {S = S} {C = C} {O = O} rules moments m w k v rows step q = by_step step
  where
    plain : {k : MasterState} {v : GroupWorld S C O} (step : MayHappen rules m w k v) → proposal_of step ≡ [] → taken_in step ≡ [] →
        IsOrdered rules moments k v (rows ++ taken_in step)
    plain {k = k} {v = v} step none nothing =
        subst (λ us. IsOrdered rules moments k v us) (sym (ap (λ us. rows ++ us) nothing ∙ append-nil rows)) (plain_step rules moments m w k v rows step none q)

    by_step : {k : MasterState} {v : GroupWorld S C O} (step : MayHappen rules m w k v) → IsOrdered rules moments k v (rows ++ taken_in step)
    by_step (node_takes n r (Proposes c) {new = new} {given = given} stands runs may loses) =
        proposed_step rules moments m w rows n r c new given stands runs may loses (proposal_went rules r c new given loses) q
    by_step (node_takes n r (Receives message) {new = new} {given = given} stands runs may loses) =
        plain (node_takes n r (Receives message) stands runs may loses) refl (none_taken (nat_lt (length r.log) (length new.log)))
    by_step (node_takes n r Ticks {new = new} {given = given} stands runs may loses) =
        plain (node_takes n r Ticks stands runs may loses) refl (none_taken (nat_lt (length r.log) (length new.log)))
    by_step (node_stops n r stands) = plain (node_stops n r stands) refl refl
    by_step (master_assigns config) = plain (master_assigns config) refl refl
    by_step (master_hears from b sent) = plain (master_hears from b sent) refl refl
    by_step (assignment_lost config) = plain (assignment_lost config) refl refl
    by_step (answer_lost from b sent) = plain (answer_lost from b sent) refl refl
