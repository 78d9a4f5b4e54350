-- StaysActive.antt: only an Activated makes a node active: after any other step an active node was
-- active before, in the same ballot.
use Rattle.std.proofs.Common.{◌≡◌, ℕ, ◌⊎◌, inl, inr, true, false, List, [], ◌∷◌, ◌++◌, length, refl, ap, sym, ◌∙◌}
use Rattle.std.specs.Prelude.{nat_lt, nat_le, ◌&&◌, ◌||◌, ◌==◌}
use Rattle.std.specs.List.{list_any}
use Rattle.std.proofs.lemmas.Bool.{cases_Bool}
use Rattle.machine.specs.Machine.{Rules}
use Rattle.ballot_base.specs.declared.status.Role.TheVariants.{Active}
use Rattle.agreement.specs.whole_logs.Replica.{ReplicaState}
use Rattle.ballot_base.specs.Replica.{is_fetching, is_installing}
use Rattle.agreement.specs.whole_logs.StepOutcome.{Outcome}
use Rattle.agreement.specs.whole_logs.Transfer.{on_new_ballot, on_join, on_install, on_state}
use Rattle.agreement.specs.whole_logs.Activation.{on_superseded, on_installed}
use Rattle.agreement.specs.whole_logs.Service.{on_append, on_held, on_commit, commit, commit_at, added, follows, leads}
use Rattle.ballot_base.specs.Service.{least, raised}
use Rattle.agreement.proofs.of_whole_logs.StepRows.{added-is}

-- a node that is active after a step was active before, in the same ballot
abbrev pub StaysActive : {S C O : Type 0} → ReplicaState S C → Outcome S C O → Type 0
StaysActive r o = o.state.role ≡ Active → (r.role ≡ Active) × (o.state.joined ≡ r.joined)

-- NewBallot
pub active_new_ballot : {S C : Type 0} (O : Type 0) (r : ReplicaState S C) (b : ℕ) (members : List ℕ) (a : ℕ) (old : List ℕ) →
    StaysActive r (on_new_ballot O r b members a old)
unfolding on_new_ballot
active_new_ballot O r b members a old = by_condition (cases_Bool (nat_lt r.joined b))
  where
    by_condition : ((nat_lt r.joined b) ≡ true) ⊎ ((nat_lt r.joined b) ≡ false) → StaysActive r (on_new_ballot O r b members a old)
    by_condition (inl e) = rw e (λ f. cc)
    by_condition (inr e) = rw e (λ f. (f, refl))

-- State
pub active_state : {S C : Type 0} (O : Type 0) (r : ReplicaState S C) (b : ℕ) (log : List C) → StaysActive r (on_state O r b log)
unfolding on_state
active_state O r b log = by_condition (cases_Bool (r.joined == b && (is_fetching r.role && nat_le r.committed (length log))))
  where
    by_condition : ((r.joined == b && (is_fetching r.role && nat_le r.committed (length log))) ≡ true) ⊎ ((r.joined == b && (is_fetching r.role && nat_le r.committed (length log))) ≡ false) → StaysActive r (on_state O r b log)
    by_condition (inl e) = rw e (λ f. cc)
    by_condition (inr e) = rw e (λ f. (f, refl))

-- Superseded
pub active_superseded : {S C : Type 0} (O : Type 0) (r : ReplicaState S C) (b : ℕ) → StaysActive r (on_superseded O r b)
unfolding on_superseded
active_superseded O r b = by_condition (cases_Bool (r.joined == b && is_installing r.role))
  where
    by_condition : ((r.joined == b && is_installing r.role) ≡ true) ⊎ ((r.joined == b && is_installing r.role) ≡ false) → StaysActive r (on_superseded O r b)
    by_condition (inl e) = rw e (λ f. cc)
    by_condition (inr e) = rw e (λ f. (f, refl))

-- Installed
pub active_installed : {S C : Type 0} (O : Type 0) (r : ReplicaState S C) (from b : ℕ) → StaysActive r (on_installed O r from b)
unfolding on_installed
active_installed O r from b = by_condition (cases_Bool ((r.joined == b && is_installing r.role) && list_any (λ member. member == from) r.lacking))
  where
    by_condition : (((r.joined == b && is_installing r.role) && list_any (λ member. member == from) r.lacking) ≡ true) ⊎ (((r.joined == b && is_installing r.role) && list_any (λ member. member == from) r.lacking) ≡ false) → StaysActive r (on_installed O r from b)
    by_condition (inl e) = rw e (λ f. (f, refl))
    by_condition (inr e) = rw e (λ f. (f, refl))

-- Append
pub active_append : {S C : Type 0} (O : Type 0) (r : ReplicaState S C) (from b place : ℕ) (c : C) → StaysActive r (on_append O r from b place c)
unfolding on_append
active_append O r from b place c = by_condition (cases_Bool (follows r b && nat_le place (length r.log)))
  where
    by_condition : ((follows r b && nat_le place (length r.log)) ≡ true) ⊎ ((follows r b && nat_le place (length r.log)) ≡ false) → StaysActive r (on_append O r from b place c)
    by_condition (inl e) = rw e (λ f. (f, refl))
    by_condition (inr e) = rw e (λ f. (f, refl))

-- Commit
pub active_commit : {S C O : Type 0} (rules : Rules S C O) (r : ReplicaState S C) (b held : ℕ) → StaysActive r (on_commit rules r b held)
unfolding on_commit
active_commit rules r b held = by_condition (cases_Bool (follows r b && nat_le held (length r.log)))
  where
    by_condition : ((follows r b && nat_le held (length r.log)) ≡ true) ⊎ ((follows r b && nat_le held (length r.log)) ≡ false) → StaysActive r (on_commit rules r b held)
    by_condition (inl e) = rw e (λ f. (f, refl))
    by_condition (inr e) = rw e (λ f. (f, refl))

-- Join
pub active_join : {S C : Type 0} (O : Type 0) (r : ReplicaState S C) (from b a : ℕ) → StaysActive r (on_join O r from b a)
unfolding on_join
active_join O r from b a = by_condition (cases_Bool (nat_le r.joined b && nat_le a r.held_in)) (cases_Bool (nat_lt r.joined b))
  where
    by_condition : ((nat_le r.joined b && nat_le a r.held_in) ≡ true) ⊎ ((nat_le r.joined b && nat_le a r.held_in) ≡ false) →
        (nat_lt r.joined b ≡ true) ⊎ (nat_lt r.joined b ≡ false) → StaysActive r (on_join O r from b a)
    by_condition (inl e) (inl f) = rw (e, f) (λ g. cc)
    by_condition (inl e) (inr f) = rw (e, f) (λ g. (g, refl))
    by_condition (inr e) f = rw e (λ g. (g, refl))

-- Install
pub active_install : {S C : Type 0} (O : Type 0) (r : ReplicaState S C) (from b : ℕ) (log : List C) → StaysActive r (on_install O r from b log)
unfolding on_install
active_install O r from b log =
    by_condition (cases_Bool ((nat_lt r.joined b || (r.joined == b && nat_lt r.held_in b)) && nat_le r.committed (length log)))
    (cases_Bool (r.joined == b && r.held_in == b))
  where
    by_condition : (((nat_lt r.joined b || (r.joined == b && nat_lt r.held_in b)) && nat_le r.committed (length log)) ≡ true)
        ⊎ (((nat_lt r.joined b || (r.joined == b && nat_lt r.held_in b)) && nat_le r.committed (length log)) ≡ false) →
        ((r.joined == b && r.held_in == b) ≡ true) ⊎ ((r.joined == b && r.held_in == b) ≡ false) → StaysActive r (on_install O r from b log)
    by_condition (inl e) f = rw e (λ g. cc)
    by_condition (inr e) (inl f) = rw (e, f) (λ g. (g, refl))
    by_condition (inr e) (inr f) = rw (e, f) (λ g. (g, refl))

-- a commit
pub commit_keeps : {S C O : Type 0} (rules : Rules S C O) (r : ReplicaState S C) (held : ℕ) →
    ((commit_at rules r held).state.role ≡ r.role) × ((commit_at rules r held).state.joined ≡ r.joined) × ((commit_at rules r held).state.log ≡ r.log)
unfolding commit_at
commit_keeps rules r held = by_condition (cases_Bool (nat_lt r.committed held))
  where
    by_condition : (nat_lt r.committed held ≡ true) ⊎ (nat_lt r.committed held ≡ false) →
        ((commit_at rules r held).state.role ≡ r.role) × ((commit_at rules r held).state.joined ≡ r.joined) × ((commit_at rules r held).state.log ≡ r.log)
    by_condition (inl e) = rw e (refl, refl, refl)
    by_condition (inr e) = rw e (refl, refl, refl)

-- a command that is added
pub added_keeps : {S C O : Type 0} (rules : Rules S C O) (r : ReplicaState S C) (c : C) →
    ((added rules r c).state.role ≡ r.role) × ((added rules r c).state.joined ≡ r.joined) × ((added rules r c).state.log ≡ r.log ++ c ∷ [])
added_keeps {S = S} {C = C} {O = O} rules r c =
    let e = added-is rules r c in
    let k = commit_keeps rules (record r { log = r.log ++ c ∷ [] }) (least (length (r.log ++ c ∷ [])) r.progress) in (
      ap (λ (o : Outcome S C O). o.state.role) e ∙ k.0,
      ap (λ (o : Outcome S C O). o.state.joined) e ∙ k.1,
      ap (λ (o : Outcome S C O). o.state.log) e ∙ k.2,
    )

-- Held
pub active_held : {S C O : Type 0} (rules : Rules S C O) (r : ReplicaState S C) (from b held : ℕ) → StaysActive r (on_held rules r from b held)
unfolding on_held commit
active_held rules r from b held = by_condition (cases_Bool (leads r b))
  where
    by_condition : (leads r b ≡ true) ⊎ (leads r b ≡ false) → StaysActive r (on_held rules r from b held)
    by_condition (inl e) = rw e (λ f. let k = commit_keeps rules (record r { progress = raised from held r.progress }) (least (length r.log) (raised from held r.progress)) in (sym k.0 ∙ f, k.1))
    by_condition (inr e) = rw e (λ f. (f, refl))
