-- TakenParts.antt: what was taken are some of the proposals, in order.
use Rattle.std.proofs.Common.{ℕ, ◌⊎◌, inl, inr, Bool, true, false, cond, List, [], ◌∷◌, ◌++◌, length}
use Rattle.std.specs.Prelude.{nat_lt, ◌==◌}
use Rattle.machine.specs.Machine.{Rules}
use Rattle.lists.specs.Lists.{In}
use Rattle.lists.proofs.Members.{in_append, in_left, in_right}
use Rattle.ballot_base.specs.declared.config.Config.{Config}
use Rattle.agreement.specs.MasterState.{MasterState}
use Rattle.agreement.specs.Moments.{Moment, Moments}
use Rattle.agreement.specs.Moments.Moments.{began, went_on, learned}
use Rattle.agreement.specs.Proposals.{IsPartOf, proposal_of, proposals_of, taken_at, taken_by, taken_in, taken_of, takes_at}
use Rattle.agreement.specs.Proposals.IsPartOf.{nothing_left, with_one, without_one}
use Rattle.agreement.specs.Steps.{MayHappen}
use Rattle.agreement.specs.Steps.MayHappen.{node_takes, node_stops, master_assigns, master_hears, assignment_lost, answer_lost}
use Rattle.agreement.specs.World.{GroupWorld}

-- a list is a part of itself with more after it, and parts join
part_none : {X : Type 0} (ys : List X) → IsPartOf [] ys
part_none [] = nothing_left
part_none (y ∷ ys) = without_one (part_none ys)

part_same : {X : Type 0} (xs : List X) → IsPartOf xs xs
part_same [] = nothing_left
part_same (x ∷ xs) = with_one (part_same xs)

part_if : {X : Type 0} (b : Bool) (xs : List X) → IsPartOf (cond b xs []) xs
part_if true xs = part_same xs
part_if false xs = part_none xs

parts_join : {X : Type 0} {xs ys us vs : List X} → IsPartOf xs ys → IsPartOf us vs → IsPartOf (xs ++ us) (ys ++ vs)
parts_join nothing_left q = q
parts_join (with_one p) q = with_one (parts_join p q)
parts_join (without_one p) q = without_one (parts_join p q)

-- what is taken was proposed
step_takes_part : {S C O : Type 0} (rules : Rules S C O) (m : MasterState) (w : GroupWorld S C O) (k : MasterState) (v : GroupWorld S C O) →
    (step : MayHappen rules m w k v) → IsPartOf (taken_in step) (proposal_of step)
step_takes_part rules m w k v (node_takes n r input {new = new} {given = given} stands runs may loses) =
    part_if (nat_lt (length r.log) (length new.log)) _
step_takes_part rules m w k v (node_stops n r stands) = nothing_left
step_takes_part rules m w k v (master_assigns config) = nothing_left
step_takes_part rules m w k v (master_hears from b sent) = nothing_left
step_takes_part rules m w k v (assignment_lost config) = nothing_left
step_takes_part rules m w k v (answer_lost from b sent) = nothing_left

pub taken_are_part : {S C O : Type 0} (rules : Rules S C O) (config : Config) (moments : List (Moment S C O)) → (came : Moments rules config moments) →
    IsPartOf (taken_of came) (proposals_of came)
taken_are_part rules config moments (began greatest nodes lawful is) = nothing_left
taken_are_part rules config (b ∷ (a ∷ moments)) (went_on came step) =
    parts_join (taken_are_part rules config (a ∷ moments) came) (step_takes_part rules a.master a.world b.master b.world step)
taken_are_part rules config (b ∷ (a ∷ moments)) (learned came learns) = taken_are_part rules config (a ∷ moments) came

-- what one node took was taken
takes_at_in : {S C O : Type 0} (rules : Rules S C O) (m : MasterState) (w : GroupWorld S C O) (k : MasterState) (v : GroupWorld S C O) →
    (step : MayHappen rules m w k v) → (n : ℕ) (row : ℕ × C) → In row (takes_at n step) → In row (taken_in step)
takes_at_in {C = C} rules m w k v (node_takes i r input {new = new} {given = given} stands runs may loses) n row j = by (i == n) j
  where
    by : (b : Bool) → In row (cond b (taken_by r new input) []) → In row (taken_by r new input)
    by true j = j
    by false j = elim j [ ]
takes_at_in rules m w k v (node_stops i r stands) n row j = elim j [ ]
takes_at_in rules m w k v (master_assigns config) n row j = elim j [ ]
takes_at_in rules m w k v (master_hears from b sent) n row j = elim j [ ]
takes_at_in rules m w k v (assignment_lost config) n row j = elim j [ ]
takes_at_in rules m w k v (answer_lost from b sent) n row j = elim j [ ]

pub taken_at_in : {S C O : Type 0} {rules : Rules S C O} {config : Config} {moments : List (Moment S C O)} (n : ℕ) (came : Moments rules config moments) →
    (row : ℕ × C) → In row (taken_at n came) → In row (taken_of came)
taken_at_in n (began greatest nodes lawful is) row j = elim j [ ]
taken_at_in {rules = rules} {config = config} {moments = b ∷ (a ∷ moments)} n (went_on came step) row j =
    by (in_append (taken_at n came) (takes_at n step) j) (λ i. taken_at_in n came row i)
  where
    by : In row (taken_at n came) ⊎ In row (takes_at n step) → (In row (taken_at n came) → In row (taken_of came)) → In row (taken_of came ++ taken_in step)
    by (inl i) before = in_left (taken_in step) (before i)
    by (inr i) before = in_right (taken_of came) (takes_at_in rules a.master a.world b.master b.world step n row i)
taken_at_in n (learned came learns) row j = taken_at_in n came row j
