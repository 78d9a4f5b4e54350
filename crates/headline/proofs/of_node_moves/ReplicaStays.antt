-- What a proposal leaves of a replica: its role, its ballot, the base of its log, and whether it stopped.
use Rattle.std.proofs.Common.{◌≡◌, ◌⊎◌, inl, inr, ℕ, ◌<◌, ◌≤◌, true, false, refl, sym, subst}
use Rattle.std.proofs.lemmas.Bool.{cases_Bool, cases_lt}
use Rattle.machine.specs.Machine.{Rules}
use Rattle.ballot_base.specs.Logs.{places, pushed}
use Rattle.ballot_base.specs.Replica.{ReplicaState, is_active}
use Rattle.ballot_base.specs.StepOutcome.{Outcome}
use Rattle.ballot_base.specs.Service.{added, commit_at, least, max_places, proposed}
use Rattle.ballot_base.proofs.StepRows.{added-is, commit_at-goes, commit_at-stays, proposed-adds, proposed-full, proposed-not_active}

-- the role, the ballot, the base of the log, and whether it stopped stay
pub record Same {S C : Type 0} (r s : ReplicaState S C) : Type 0 where
  pub role : s.role ≡ r.role
  pub joined : s.joined ≡ r.joined
  pub stopped : s.stopped ≡ r.stopped
  pub base : s.log.base ≡ r.log.base

pub commit_same : {S C O : Type 0} (rules : Rules S C O) (r : ReplicaState S C) (held : ℕ) → Same r (commit_at rules r held).state
commit_same {S = S} {C = C} {O = O} rules r held = by (cases_lt r.committed held)
  where
    by : (r.committed < held) ⊎ (held ≤ r.committed) → Same r (commit_at rules r held).state
    by (inl above) = subst (λ (o : Outcome S C O). Same r o.state) (sym (commit_at-goes rules r held above)) (record { role = refl; joined = refl; stopped = refl; base = refl })
    by (inr below) = subst (λ (o : Outcome S C O). Same r o.state) (sym (commit_at-stays rules r held below)) (record { role = refl; joined = refl; stopped = refl; base = refl })

pub added_same : {S C O : Type 0} (rules : Rules S C O) (r : ReplicaState S C) (c : C) → Same r (added rules r c).state
added_same {S = S} {C = C} {O = O} rules r c =
    subst (λ (o : Outcome S C O). Same r o.state) (sym (added-is rules r c))
    (let k = commit_same rules (record r { log = pushed r.log c }) (least (places (pushed r.log c)) r.progress) in
    record { role = k.role; joined = k.joined; stopped = k.stopped; base = k.base })

pub proposed_same : {S C O : Type 0} (rules : Rules S C O) (r : ReplicaState S C) (c : C) → Same r (proposed rules r c).state
proposed_same {S = S} {C = C} {O = O} rules r c = by (cases_Bool (is_active r.role)) (cases_lt (places r.log) max_places)
  where
    nothing : Same r r
    nothing = record { role = refl; joined = refl; stopped = refl; base = refl }

    by : (is_active r.role ≡ true) ⊎ (is_active r.role ≡ false) → (places r.log < max_places) ⊎ (max_places ≤ places r.log) → Same r (proposed rules r c).state
    by (inl a) (inl room) = subst (λ (o : Outcome S C O). Same r o.state) (sym (proposed-adds rules r c a room)) (added_same rules r c)
    by (inl a) (inr full) = subst (λ (o : Outcome S C O). Same r o.state) (sym (proposed-full rules r c a full)) nothing
    by (inr a) room = subst (λ (o : Outcome S C O). Same r o.state) (sym (proposed-not_active rules r c a)) nothing
