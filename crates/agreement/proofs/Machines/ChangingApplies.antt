-- ChangingApplies.antt: each row between ballots applies nothing.
use Rattle.std.proofs.Common.{◌≡◌, ℕ, ◌⊎◌, inl, inr, true, false, List, length, refl}
use Rattle.std.specs.Prelude.{nat_lt, nat_le, ◌&&◌, ◌||◌, ◌==◌}
use Rattle.std.specs.List.{list_any}
use Rattle.std.proofs.lemmas.Bool.{cases_Bool}
use Rattle.machine.specs.Machine.{Rules}
use Rattle.agreement.specs.whole_logs.Transfer.{on_new_ballot, on_join, on_install, on_state}
use Rattle.agreement.specs.whole_logs.Activation.{on_superseded, on_installed}
use Rattle.agreement.specs.whole_logs.Replica.{ReplicaState}
use Rattle.ballot_base.specs.Replica.{is_fetching, is_installing}
use Rattle.agreement.proofs.Machines.Applies.{Applies, applies_nothing}

-- NewBallot
pub new_ballot_applies : {S C O : Type 0} (rules : Rules S C O) (r : ReplicaState S C) (b : ℕ) (members : List ℕ) (a : ℕ) (old : List ℕ) →
    Applies rules r (on_new_ballot O r b members a old).state
unfolding on_new_ballot
new_ballot_applies {O = O} rules r b members a old = by_condition (cases_Bool (nat_lt r.joined b))
  where
    by_condition : ((nat_lt r.joined b) ≡ true) ⊎ ((nat_lt r.joined b) ≡ false) → Applies rules r (on_new_ballot O r b members a old).state
    by_condition (inl e) = rw e (applies_nothing rules r _ refl refl)
    by_condition (inr e) = rw e (applies_nothing rules r r refl refl)

-- Join
pub join_applies : {S C O : Type 0} (rules : Rules S C O) (r : ReplicaState S C) (from b a : ℕ) → Applies rules r (on_join O r from b a).state
unfolding on_join
join_applies {O = O} rules r from b a = by_condition (cases_Bool (nat_le r.joined b && nat_le a r.held_in)) (cases_Bool (nat_lt r.joined b))
  where
    by_condition : ((nat_le r.joined b && nat_le a r.held_in) ≡ true) ⊎ ((nat_le r.joined b && nat_le a r.held_in) ≡ false) →
        (nat_lt r.joined b ≡ true) ⊎ (nat_lt r.joined b ≡ false) → Applies rules r (on_join O r from b a).state
    by_condition (inl e) (inl f) = rw (e, f) (applies_nothing rules r _ refl refl)
    by_condition (inl e) (inr f) = rw (e, f) (applies_nothing rules r _ refl refl)
    by_condition (inr e) f = rw e (applies_nothing rules r r refl refl)

-- State
pub state_applies : {S C O : Type 0} (rules : Rules S C O) (r : ReplicaState S C) (b : ℕ) (log : List C) → Applies rules r (on_state O r b log).state
unfolding on_state
state_applies {O = O} rules r b log = by_condition (cases_Bool (r.joined == b && (is_fetching r.role && nat_le r.committed (length log))))
  where
    by_condition : ((r.joined == b && (is_fetching r.role && nat_le r.committed (length log))) ≡ true)
        ⊎ ((r.joined == b && (is_fetching r.role && nat_le r.committed (length log))) ≡ false) → Applies rules r (on_state O r b log).state
    by_condition (inl e) = rw e (applies_nothing rules r _ refl refl)
    by_condition (inr e) = rw e (applies_nothing rules r r refl refl)

-- Install
pub install_applies : {S C O : Type 0} (rules : Rules S C O) (r : ReplicaState S C) (from b : ℕ) (log : List C) →
    Applies rules r (on_install O r from b log).state
unfolding on_install
install_applies {O = O} rules r from b log =
    by_condition (cases_Bool ((nat_lt r.joined b || (r.joined == b && nat_lt r.held_in b)) && nat_le r.committed (length log)))
    (cases_Bool (r.joined == b && r.held_in == b))
  where
    by_condition : (((nat_lt r.joined b || (r.joined == b && nat_lt r.held_in b)) && nat_le r.committed (length log)) ≡ true)
        ⊎ (((nat_lt r.joined b || (r.joined == b && nat_lt r.held_in b)) && nat_le r.committed (length log)) ≡ false) →
        ((r.joined == b && r.held_in == b) ≡ true) ⊎ ((r.joined == b && r.held_in == b) ≡ false) → Applies rules r (on_install O r from b log).state
    by_condition (inl e) f = rw e (applies_nothing rules r _ refl refl)
    by_condition (inr e) (inl f) = rw (e, f) (applies_nothing rules r _ refl refl)
    by_condition (inr e) (inr f) = rw (e, f) (applies_nothing rules r r refl refl)

-- Installed
pub installed_applies : {S C O : Type 0} (rules : Rules S C O) (r : ReplicaState S C) (from b : ℕ) → Applies rules r (on_installed O r from b).state
unfolding on_installed
installed_applies {O = O} rules r from b =
    by_condition (cases_Bool ((r.joined == b && is_installing r.role) && list_any (λ member. member == from) r.lacking))
  where
    by_condition : (((r.joined == b && is_installing r.role) && list_any (λ member. member == from) r.lacking) ≡ true)
        ⊎ (((r.joined == b && is_installing r.role) && list_any (λ member. member == from) r.lacking) ≡ false) →
        Applies rules r (on_installed O r from b).state
    by_condition (inl e) = rw e (applies_nothing rules r _ refl refl)
    by_condition (inr e) = rw e (applies_nothing rules r r refl refl)

-- Superseded
pub superseded_applies : {S C O : Type 0} (rules : Rules S C O) (r : ReplicaState S C) (b : ℕ) → Applies rules r (on_superseded O r b).state
unfolding on_superseded
superseded_applies {O = O} rules r b = by_condition (cases_Bool (r.joined == b && is_installing r.role))
  where
    by_condition : ((r.joined == b && is_installing r.role) ≡ true) ⊎ ((r.joined == b && is_installing r.role) ≡ false) →
        Applies rules r (on_superseded O r b).state
    by_condition (inl e) = rw e (applies_nothing rules r _ refl refl)
    by_condition (inr e) = rw e (applies_nothing rules r r refl refl)
