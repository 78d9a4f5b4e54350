-- OneNodeTakes.antt: what was taken in a ballot was taken by its one active primary.
use Rattle.std.proofs.Common.{◌≡◌, ℕ, ◌⊎◌, inl, inr, cond, List, [], ◌∷◌, ◌++◌, length, Some, refl, ap, ap₂, sym, ◌∙◌}
use Rattle.std.specs.Prelude.{slice_get, nat_lt, ◌==◌}
use Rattle.std.proofs.lemmas.Bool.{cases_eq, eq-eqb, ne_eqb}
use Rattle.std.proofs.lemmas.List.Elements.{filter-append}
use Rattle.machine.specs.Machine.{Rules}
use Rattle.lists.specs.Lists.{In}
use Rattle.lists.specs.Lists.In.{here, there}
use Rattle.ballot_base.specs.declared.config.Config.{Config}
use Rattle.agreement.specs.whole_logs.Messages.{Effect}
use Rattle.agreement.specs.whole_logs.Losses.{Loses}
use Rattle.agreement.specs.whole_logs.Protocol.{Input, replica_step}
use Rattle.agreement.specs.whole_logs.Protocol.Input.{Receives, Proposes, Ticks}
use Rattle.agreement.specs.whole_logs.Replica.{ReplicaState}
use Rattle.agreement.proofs.of_whole_logs.StepRows.{added-log}
use Rattle.agreement.specs.Theorems.{OneNodeTakesABallot}
use Rattle.agreement.specs.MasterState.{MasterState}
use Rattle.agreement.specs.Moments.{Moment, Moments}
use Rattle.agreement.specs.Moments.Moments.{began, went_on, learned}
use Rattle.agreement.specs.Primaries.{IsPrimary}
use Rattle.agreement.specs.Proposals.{rows_in, taken_at, taken_by, taken_in, taken_of, takes_at}
use Rattle.agreement.specs.Steps.{MayHappen}
use Rattle.agreement.specs.Steps.MayHappen.{node_takes, node_stops, master_assigns, master_hears, assignment_lost, answer_lost}
use Rattle.agreement.specs.World.{GroupWorld}
use Rattle.agreement.proofs.Agreed.OnePrimary.{one_primary_a_ballot}
use Rattle.agreement.proofs.Orders.Taken.{Went, none_taken, proposal_went, taken_when_added, taken_when_same}
use Rattle.agreement.proofs.Orders.Taken.Went.{was_added, was_refused, has_stopped}

-- a node that is no primary of the ballot takes nothing in it
other_takes : {S C O : Type 0} (rules : Rules S C O) (w : GroupWorld S C O) (ballot i : ℕ) (r : ReplicaState S C) (c : C) (new : ReplicaState S C)
    (given : List (Effect C O)) → slice_get w.nodes i ≡ Some r → Went rules r c new given → (IsPrimary w i ballot → ⊥) →
    rows_in ballot (taken_by r new (Proposes c)) ≡ []
other_takes {S = S} {C = C} rules w ballot i r c new given stands (was_refused e f) away =
    ap (rows_in ballot) (taken_when_same r new c (ap (λ (x : ReplicaState S C). x.log) e))
other_takes {S = S} {C = C} rules w ballot i r c new given stands (has_stopped e f) away =
    ap (rows_in ballot) (taken_when_same r new c (ap (λ (x : ReplicaState S C). x.log) e))
other_takes {S = S} {C = C} rules w ballot i r c new given stands (was_added active e) away =
    ap (rows_in ballot) (taken_when_added r new c (ap (λ (x : ReplicaState S C). x.log) e ∙ added-log rules r c))
    ∙ ap (λ b. let rows : List (ℕ × C) = cond b ((r.joined, c) ∷ []) [] in rows)
    (ne_eqb r.joined ballot (λ same. away (record { replica = r; stands = stands; active = active; joined = same })))

-- a step takes in the ballot what its primary takes
step_takes : {S C O : Type 0} (rules : Rules S C O) (m : MasterState) (w : GroupWorld S C O) (k : MasterState) (v : GroupWorld S C O) →
    (step : MayHappen rules m w k v) → (n ballot : ℕ) → ((i : ℕ) → IsPrimary w i ballot → i ≡ n) →
    rows_in ballot (taken_in step) ≡ rows_in ballot (takes_at n step)
step_takes {S = S} {C = C} {O = O} rules m w k v (node_takes i r input {new = new} {given = given} stands runs may loses) n ballot one =
    by_place input loses (cases_eq i n)
  where
    same : (xs : List (ℕ × C)) → i ≡ n → rows_in ballot xs ≡ rows_in ballot (cond (i == n) xs [])
    same xs e = sym (ap (λ b. rows_in ballot (cond b xs [])) (eq-eqb i n e))

    nothing : (xs : List (ℕ × C)) → rows_in ballot xs ≡ [] → (i ≡ n → ⊥) → rows_in ballot xs ≡ rows_in ballot (cond (i == n) xs [])
    nothing xs none other = none ∙ sym (ap (λ b. rows_in ballot (cond b xs [])) (ne_eqb i n other))

    by_place : (input : Input C) → Loses rules r (replica_step rules r input) new given → (i ≡ n) ⊎ (i ≡ n → ⊥) →
        rows_in ballot (taken_by r new input) ≡ rows_in ballot (cond (i == n) (taken_by r new input) [])
    by_place input loses (inl e) = same (taken_by r new input) e
    by_place (Proposes c) loses (inr other) =
        nothing (taken_by r new (Proposes c))
        (other_takes rules w ballot i r c new given stands (proposal_went rules r c new given loses) (λ p. other (one i p))) other
    by_place (Receives message) loses (inr other) =
        nothing (taken_by r new (Receives message)) (ap (rows_in ballot) (none_taken (nat_lt (length r.log) (length new.log)))) other
    by_place Ticks loses (inr other) =
        nothing (taken_by r new Ticks) (ap (rows_in ballot) (none_taken (nat_lt (length r.log) (length new.log)))) other
step_takes rules m w k v (node_stops i r stands) n ballot one = refl
step_takes rules m w k v (master_assigns config) n ballot one = refl
step_takes rules m w k v (master_hears from b sent) n ballot one = refl
step_takes rules m w k v (assignment_lost config) n ballot one = refl
step_takes rules m w k v (answer_lost from b sent) n ballot one = refl

-- and so at several moments
moments_take : {S C O : Type 0} (rules : Rules S C O) (config : Config) (moments : List (Moment S C O)) → (came : Moments rules config moments) →
    (n ballot : ℕ) → ((c : Moment S C O) → In c moments → (i : ℕ) → IsPrimary c.world i ballot → i ≡ n) →
    rows_in ballot (taken_of came) ≡ rows_in ballot (taken_at n came)
moments_take rules config moments (began greatest nodes lawful is) n ballot one = refl
moments_take {S = S} {C = C} {O = O} rules config (b ∷ (a ∷ moments)) (went_on came step) n ballot one =
    filter-append (λ (row : ℕ × C). row.0 == ballot) (taken_of came) (taken_in step)
    ∙ ap₂ (λ (xs ys : List (ℕ × C)). xs ++ ys) (moments_take rules config (a ∷ moments) came n ballot (λ c i. one c (there i)))
    (step_takes rules a.master a.world b.master b.world step n ballot (one a (there here)))
    ∙ sym (filter-append (λ (row : ℕ × C). row.0 == ballot) (taken_at n came) (takes_at n step))
moments_take rules config (b ∷ (a ∷ moments)) (learned came learns) n ballot one =
    moments_take rules config (a ∷ moments) came n ballot (λ c i. one c (there i))

pub one_node_takes_a_ballot : {S C O : Type 0} (rules : Rules S C O) → OneNodeTakesABallot rules
one_node_takes_a_ballot rules config a moments came c n ballot i p =
    moments_take rules config (a ∷ moments) came n ballot (λ d j k q. one_primary_a_ballot rules config a moments came d c k n ballot j i q p)
