-- TakenStands.antt: what a node that cuts its log takes is at once at the end of its log.
use Rattle.std.proofs.Common.{◌≡◌, ℕ, ◌≤◌, Bool, true, false, cond, List, [], ◌∷◌, length, Some, refl, ap, sym, ◌∙◌, subst}
use Rattle.std.specs.Prelude.{slice_get, nat_lt, ◌==◌}
use Rattle.std.proofs.lemmas.Bool.{eq-eqb}
use Rattle.machine.specs.Machine.{Rules}
use Rattle.lists.specs.Lists.{In}
use Rattle.lists.proofs.Places.{get_set}
use Rattle.ballot_base.specs.declared.message.Effect.{Effect}
use Rattle.ballot_base.specs.Logs.{places}
use Rattle.ballot_base.specs.Losses.{Loses}
use Rattle.ballot_base.specs.Protocol.{replica_step}
use Rattle.ballot_base.specs.Protocol.Input.{Receives, Proposes, Ticks}
use Rattle.ballot_base.specs.Replica.{ReplicaState}
use Rattle.agreement.specs.Theorems.{StandsAtOnce as WholeStands}
use Rattle.agreement.specs.MasterState.{MasterState}
use Rattle.agreement.specs.Proposals.{taken_by as whole_taken_by}
use Rattle.agreement.specs.whole_logs.Protocol.{replica_step as whole_step}
use Rattle.agreement.proofs.Orders.TakenStands as wholes
use Rattle.agreement.specs.cut_logs.Matches.{IsBased}
use Rattle.agreement.specs.cut_logs.Orders.{StandsAtOnce, TakenStandAtOnce}
use Rattle.agreement.specs.cut_logs.Moments.Moments.{went_on}
use Rattle.agreement.specs.cut_logs.Proposals.{taken_by}
use Rattle.agreement.specs.cut_logs.Steps.{MayHappen}
use Rattle.agreement.specs.cut_logs.Steps.MayHappen.{node_goes, master_assigns, master_hears, assignment_lost, answer_lost}
use Rattle.agreement.specs.cut_logs.Whole.{whole, whole_input}
use Rattle.agreement.specs.cut_logs.World.{MayTake, CutGroupWorld, moved, whole_world}
use Rattle.agreement.specs.cut_logs.World.NodeGoes.{takes, stops, cuts}
use Rattle.agreement.proofs.of_cut_logs.Adds.{StepAdds, added_whole, proposed_whole, taken_whole}
use Rattle.agreement.proofs.of_cut_logs.MomentsKept.{moments_stand}
use Rattle.agreement.proofs.of_cut_logs.Plain.{plain_matches}
use Rattle.agreement.proofs.of_cut_logs.Views.{step_whole, whole_loses}

-- what no proposal comes to
no_row : {C : Type 0} (row : ℕ × C) (at longer : Bool) → In row (cond at (cond longer [] []) []) → ⊥
no_row row true true i = elim i [ ]
no_row row true false i = elim i [ ]
no_row row false longer i = elim i [ ]

none_taken : {C : Type 0} (row : ℕ × C) (longer : Bool) → In row (cond longer [] []) → ⊥
none_taken row true i = elim i [ ]
none_taken row false i = elim i [ ]

-- a proposal, on whole logs
proposal_stands : {S C O : Type 0} (rules : Rules S C O) (m : MasterState) (w : CutGroupWorld S C O) (i : ℕ) (r : ReplicaState S C) (c : C) (new : ReplicaState S C)
    (given : List (Effect C O)) (stands : slice_get w.nodes i ≡ Some r) (runs : r.stopped ≡ false) (may : MayTake w i (Proposes c))
    (loses : Loses rules r (replica_step rules r (Proposes c)) new given) → IsBased w.archive r → new.log.base ≤ length w.archive →
    StandsAtOnce (node_goes {state = m} {world = w} (takes i r (Proposes c) stands runs may loses))
proposal_stands {S = S} {C = C} {O = O} rules m w i r c new given stands runs may loses based within =
    record {
      stands = λ n row j. z.stands n row (subst (In row) (sym (s.1.takes_at n ∙ ap (λ us. cond (i == n) us []) taken)) j);
      somewhere = λ row j. (i, subst (λ b. In row (cond b (taken_by r new (Proposes c)) [])) (sym (eq-eqb i i refl)) j);
      refused = λ nothing row j n. z.refused (s.1.takes ∙ taken ∙ nothing) row (subst (In row) (sym (s.1.proposes ∙ proposed_whole w.archive r (Proposes c))) j) n;
    }
  where
    s : StepAdds rules m (whole_world w) m (whole_world (moved w i new given)) (added_whole w.archive i r (Proposes c) new given)
    s = step_whole rules m w i r (Proposes c) new given stands runs may
        (whole_loses rules w.archive r (replica_step rules r (Proposes c)) (whole_step rules (whole w.archive r) (whole_input w.archive (Proposes c))) new given
        (plain_matches rules w.archive r (Proposes c) based tt) loses)

    z : WholeStands s.0
    z = wholes.taken_stand_at_once rules m (whole_world w) m (whole_world (moved w i new given)) s.0

    taken : whole_taken_by (whole w.archive r) (whole w.archive new) (whole_input w.archive (Proposes c)) ≡ taken_by r new (Proposes c)
    taken = taken_whole w.archive r new (Proposes c) based.within within

-- what may happen else takes nothing
step_stands : {S C O : Type 0} (rules : Rules S C O) (m : MasterState) (w : CutGroupWorld S C O) (k : MasterState) (v : CutGroupWorld S C O) → (step : MayHappen rules m w k v) →
    ((n : ℕ) (r : ReplicaState S C) → slice_get w.nodes n ≡ Some r → IsBased w.archive r) →
    ((n : ℕ) (r : ReplicaState S C) → slice_get v.nodes n ≡ Some r → r.log.base ≤ length v.archive) → StandsAtOnce step
step_stands rules m w k v (node_goes (takes i r (Proposes c) {new = new} {given = given} stands runs may loses)) based later =
    proposal_stands rules m w i r c new given stands runs may loses (based i r stands) (later i new (get_set w.nodes i r new stands))
step_stands rules m w k v (node_goes (takes i r (Receives message) {new = new} {given = given} stands runs may loses)) based later =
    record {
      stands = λ n row j. absurd (no_row row (i == n) (nat_lt (places r.log) (places new.log)) j);
      somewhere = λ row j. absurd (none_taken row (nat_lt (places r.log) (places new.log)) j);
      refused = λ nothing row j n. elim j [ ];
    }
step_stands rules m w k v (node_goes (takes i r Ticks {new = new} {given = given} stands runs may loses)) based later =
    record {
      stands = λ n row j. absurd (no_row row (i == n) (nat_lt (places r.log) (places new.log)) j);
      somewhere = λ row j. absurd (none_taken row (nat_lt (places r.log) (places new.log)) j);
      refused = λ nothing row j n. elim j [ ];
    }
step_stands rules m w k v (node_goes (stops i r stands)) based later =
    record { stands = λ n row j. elim j [ ]; somewhere = λ row j. elim j [ ]; refused = λ nothing row j n. elim j [ ] }
step_stands rules m w k v (node_goes (cuts i r stands runs over faithful)) based later =
    record { stands = λ n row j. elim j [ ]; somewhere = λ row j. elim j [ ]; refused = λ nothing row j n. elim j [ ] }
step_stands rules m w k v (master_assigns config) based later =
    record { stands = λ n row j. elim j [ ]; somewhere = λ row j. elim j [ ]; refused = λ nothing row j n. elim j [ ] }
step_stands rules m w k v (master_hears from b sent) based later =
    record { stands = λ n row j. elim j [ ]; somewhere = λ row j. elim j [ ]; refused = λ nothing row j n. elim j [ ] }
step_stands rules m w k v (assignment_lost config) based later =
    record { stands = λ n row j. elim j [ ]; somewhere = λ row j. elim j [ ]; refused = λ nothing row j n. elim j [ ] }
step_stands rules m w k v (answer_lost from b sent) based later =
    record { stands = λ n row j. elim j [ ]; somewhere = λ row j. elim j [ ]; refused = λ nothing row j n. elim j [ ] }

-- in the terms of the law
pub taken_stand_at_once : {S C O : Type 0} (rules : Rules S C O) → TakenStandAtOnce rules
taken_stand_at_once rules config a b moments came step =
    let before = moments_stand rules config a moments came in
    let after = moments_stand rules config b (a ∷ moments) (went_on came step) in
    step_stands rules a.master a.world b.master b.world step
    (λ n r stands. let z = before.kept.nodes n r stands in record { within = z.0.within; low = z.1 })
    (λ n r stands. (after.kept.nodes n r stands).0.within)
