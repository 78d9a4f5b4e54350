-- TakenStands.antt: what is taken is at once at the end of a log, and what is not changes none.
use Rattle.std.proofs.Common.{◌≡◌, ℕ, ◌⊎◌, inl, inr, false, cond, List, [], ◌∷◌, ◌++◌, length, set, Some, refl, ap, sym, ◌∙◌, subst}
use Rattle.std.specs.Prelude.{slice_get, nat_lt, ◌==◌}
use Rattle.std.proofs.lemmas.Bool.{cases_eq, eq-eqb, ne_eqb}
use Rattle.machine.specs.Machine.{Rules}
use Rattle.lists.specs.Lists.{In}
use Rattle.lists.specs.Lists.In.{here, there}
use Rattle.lists.proofs.Places.{get_set, get_set_other}
use Rattle.agreement.specs.whole_logs.Messages.{Effect}
use Rattle.agreement.specs.whole_logs.Losses.{Loses}
use Rattle.agreement.specs.whole_logs.Protocol.{Input, replica_step}
use Rattle.agreement.specs.whole_logs.Protocol.Input.{Receives, Proposes, Ticks}
use Rattle.agreement.specs.whole_logs.Replica.{ReplicaState}
use Rattle.agreement.proofs.of_whole_logs.StepRows.{added-log}
use Rattle.agreement.specs.Theorems.{TakenStandAtOnce}
use Rattle.agreement.specs.MasterState.{MasterState}
use Rattle.agreement.specs.Proposals.{IsTaken, proposal_of, taken_by, taken_in, takes_at}
use Rattle.agreement.specs.Steps.{MayHappen}
use Rattle.agreement.specs.Steps.MayHappen.{node_takes, node_stops, master_assigns, master_hears, assignment_lost, answer_lost}
use Rattle.agreement.specs.World.{GroupWorld, log_of, moved}
use Rattle.agreement.proofs.Orders.Taken.{Went, none_taken, not_in, proposal_went, taken_when_added, taken_when_same}
use Rattle.agreement.proofs.Orders.Taken.Went.{was_added, was_refused, has_stopped}

-- the log of a node that moved, and those of the others
same_logs : {S C O : Type 0} (w : GroupWorld S C O) (n m : ℕ) (r new : ReplicaState S C) → slice_get w.nodes n ≡ Some r → new.log ≡ r.log →
    log_of (slice_get (set w.nodes n new) m) ≡ log_of (slice_get w.nodes m)
same_logs {S = S} {C = C} w n m r new stands same = by_place (cases_eq m n)
  where
    by_place : (m ≡ n) ⊎ (m ≡ n → ⊥) → log_of (slice_get (set w.nodes n new) m) ≡ log_of (slice_get w.nodes m)
    by_place (inl e) =
        ap (λ k. log_of (slice_get (set w.nodes n new) k)) e ∙ ap log_of (get_set w.nodes n r new stands) ∙ same
        ∙ sym (ap log_of stands) ∙ ap (λ k. log_of (slice_get w.nodes k)) (sym e)
    by_place (inr other) = ap log_of (get_set_other w.nodes n m new other)

-- what is taken is at once
stands_at_once : {S C O : Type 0} (rules : Rules S C O) (w : GroupWorld S C O) (n : ℕ) (r : ReplicaState S C) (c : C) (new : ReplicaState S C)
    (given : List (Effect C O)) → slice_get w.nodes n ≡ Some r → r.stopped ≡ false → Went rules r c new given →
    (row : ℕ × C) → In row (taken_by r new (Proposes c)) → IsTaken w (moved w n new given) n row
stands_at_once {S = S} {C = C} rules w n r c new given stands runs (was_refused e f) row i =
    absurd (not_in row _ (taken_when_same r new c (ap (λ (x : ReplicaState S C). x.log) e)) i)
stands_at_once {S = S} {C = C} rules w n r c new given stands runs (has_stopped e f) row i =
    absurd (not_in row _ (taken_when_same r new c (ap (λ (x : ReplicaState S C). x.log) e)) i)
stands_at_once {S = S} {C = C} {O = O} rules w n r c new given stands runs (was_added active e) row i =
    by_row row (subst (λ (rows : List (ℕ × C)). In row rows) (taken_when_added r new c longer) i)
  where
    longer : new.log ≡ r.log ++ c ∷ []
    longer = ap (λ (x : ReplicaState S C). x.log) e ∙ added-log rules r c

    taken : IsTaken {S = S} {C = C} {O = O} w (moved w n new given) n (r.joined, c)
    taken = record {
      primary = record { replica = r; stands = stands; active = active; joined = refl };
      runs = runs;
      after = new;
      stands = get_set w.nodes n r new stands;
      log = longer;
    }

    by_row : (x : ℕ × C) → In x ((r.joined, c) ∷ []) → IsTaken w (moved w n new given) n x
    by_row x here = taken
    by_row x (there j) = elim j [ ]

-- by the input
input_stands : {S C O : Type 0} (rules : Rules S C O) (w : GroupWorld S C O) (n : ℕ) (r : ReplicaState S C) (input : Input C) (new : ReplicaState S C)
    (given : List (Effect C O)) → slice_get w.nodes n ≡ Some r → r.stopped ≡ false → Loses rules r (replica_step rules r input) new given →
    (row : ℕ × C) → In row (taken_by r new input) → IsTaken w (moved w n new given) n row
input_stands rules w n r (Proposes c) new given stands runs loses row i =
    stands_at_once rules w n r c new given stands runs (proposal_went rules r c new given loses) row i
input_stands rules w n r (Receives message) new given stands runs loses row i =
    absurd (not_in row _ (none_taken (nat_lt (length r.log) (length new.log))) i)
input_stands rules w n r Ticks new given stands runs loses row i =
    absurd (not_in row _ (none_taken (nat_lt (length r.log) (length new.log))) i)

-- what is not taken changes no log
changes_no_log : {S C O : Type 0} (rules : Rules S C O) (w : GroupWorld S C O) (n : ℕ) (r : ReplicaState S C) (c : C) (new : ReplicaState S C)
    (given : List (Effect C O)) → slice_get w.nodes n ≡ Some r → Went rules r c new given → taken_by r new (Proposes c) ≡ [] →
    (m : ℕ) → log_of (slice_get (set w.nodes n new) m) ≡ log_of (slice_get w.nodes m)
changes_no_log {S = S} {C = C} rules w n r c new given stands (was_refused e f) nothing m =
    same_logs w n m r new stands (ap (λ (x : ReplicaState S C). x.log) e)
changes_no_log {S = S} {C = C} rules w n r c new given stands (has_stopped e f) nothing m =
    same_logs w n m r new stands (ap (λ (x : ReplicaState S C). x.log) e)
changes_no_log {S = S} {C = C} rules w n r c new given stands (was_added active e) nothing m =
    let z = taken_when_added r new c (ap (λ (x : ReplicaState S C). x.log) e ∙ added-log rules r c) in absurd cc

-- by the step
stands_then : {S C O : Type 0} (rules : Rules S C O) (m : MasterState) (w : GroupWorld S C O) (k : MasterState) (v : GroupWorld S C O) →
    (step : MayHappen rules m w k v) → (n : ℕ) (row : ℕ × C) → In row (takes_at n step) → IsTaken w v n row
stands_then {S = S} {C = C} {O = O} rules m w k v (node_takes i r input {new = new} {given = given} stands runs may loses) n row j = by_place (cases_eq i n) j
  where
    by_place : (i ≡ n) ⊎ (i ≡ n → ⊥) → In row (cond (i == n) (taken_by r new input) []) → IsTaken w (moved w i new given) n row
    by_place (inl e) there' =
        subst (λ x. IsTaken w (moved w i new given) x row) e
        (input_stands rules w i r input new given stands runs loses row
        (subst (λ b. In row (cond b (taken_by r new input) [])) (eq-eqb i n e) there'))
    by_place (inr other) there' =
        absurd (not_in row _ (ap (λ b. cond b (taken_by r new input) []) (ne_eqb i n other)) there')
stands_then rules m w k v (node_stops i r stands) n row j = elim j [ ]
stands_then rules m w k v (master_assigns config) n row j = elim j [ ]
stands_then rules m w k v (master_hears from b sent) n row j = elim j [ ]
stands_then rules m w k v (assignment_lost config) n row j = elim j [ ]
stands_then rules m w k v (answer_lost from b sent) n row j = elim j [ ]

somewhere_then : {S C O : Type 0} (rules : Rules S C O) (m : MasterState) (w : GroupWorld S C O) (k : MasterState) (v : GroupWorld S C O) →
    (step : MayHappen rules m w k v) → (row : ℕ × C) → In row (taken_in step) → (n : ℕ) × In row (takes_at n step)
somewhere_then rules m w k v (node_takes i r input {new = new} {given = given} stands runs may loses) row j =
    (i, subst (λ b. In row (cond b (taken_by r new input) [])) (sym (eq-eqb i i refl)) j)
somewhere_then rules m w k v (node_stops i r stands) row j = elim j [ ]
somewhere_then rules m w k v (master_assigns config) row j = elim j [ ]
somewhere_then rules m w k v (master_hears from b sent) row j = elim j [ ]
somewhere_then rules m w k v (assignment_lost config) row j = elim j [ ]
somewhere_then rules m w k v (answer_lost from b sent) row j = elim j [ ]

stays_then : {S C O : Type 0} (rules : Rules S C O) (m : MasterState) (w : GroupWorld S C O) (k : MasterState) (v : GroupWorld S C O) →
    (step : MayHappen rules m w k v) → taken_in step ≡ [] → (row : ℕ × C) → In row (proposal_of step) →
    (n : ℕ) → log_of (slice_get v.nodes n) ≡ log_of (slice_get w.nodes n)
stays_then rules m w k v (node_takes n r (Proposes c) {new = new} {given = given} stands runs may loses) nothing row i x =
    changes_no_log rules w n r c new given stands (proposal_went rules r c new given loses) nothing x
stays_then rules m w k v (node_takes n r (Receives message) stands runs may loses) nothing row i x = elim i [ ]
stays_then rules m w k v (node_takes n r Ticks stands runs may loses) nothing row i x = elim i [ ]
stays_then rules m w k v (node_stops n r stands) nothing row i x = elim i [ ]
stays_then rules m w k v (master_assigns config) nothing row i x = elim i [ ]
stays_then rules m w k v (master_hears from b sent) nothing row i x = elim i [ ]
stays_then rules m w k v (assignment_lost config) nothing row i x = elim i [ ]
stays_then rules m w k v (answer_lost from b sent) nothing row i x = elim i [ ]

-- in the terms of the law
pub taken_stand_at_once : {S C O : Type 0} (rules : Rules S C O) → TakenStandAtOnce rules
taken_stand_at_once rules m w k v step =
    record {
      stands = λ n row i. stands_then rules m w k v step n row i;
      somewhere = λ row i. somewhere_then rules m w k v step row i;
      refused = λ nothing row i n. stays_then rules m w k v step nothing row i n;
    }
