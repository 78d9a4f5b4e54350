-- The order in which a node gives names: by ballot, and in a ballot by number.
use Rattle.std.proofs.Common.{◌≡◌, ◌⊎◌, inl, inr, ◌≤◌, ◌<◌, ◌+◌, ℕ, true, false, ◌==◌, refl, subst, arith}
use Rattle.std.proofs.lemmas.Bool.{cases_lt, cases_Bool, eqb-true, eqb-false}
use Rattle.broker_spec.specs.Connection.{ConnectionName, same_connection}
use Rattle.broker_spec.proofs.ConnectionNames.{same_name}
use Rattle.world_base.specs.node_core.Core.{CoreState}
use Rattle.world_base.specs.node_core.Step.{next_name}
use Rattle.headline.specs.node_moves.Ends.{Precedes, IsGiven}

pub same_le : (n : ℕ) → n ≤ n
same_le n = omega arith

-- a name was given, or is still to come
pub cases_name : (last x : ConnectionName) → Precedes last x ⊎ IsGiven last x
cases_name last x = by (cases_lt last.ballot x.ballot) (cases_lt x.ballot last.ballot) (cases_lt last.count x.count)
  where
    by : (last.ballot < x.ballot) ⊎ (x.ballot ≤ last.ballot) → (x.ballot < last.ballot) ⊎ (last.ballot ≤ x.ballot)
        → (last.count < x.count) ⊎ (x.count ≤ last.count) → Precedes last x ⊎ IsGiven last x
    by (inl above) q r = inl (inl above)
    by (inr p) (inl below) r = inr (inl below)
    by (inr p) (inr q) (inl above) = inl (inr (omega (arith, p, q), above))
    by (inr p) (inr q) (inr within) = inr (inr (omega (arith, p, q), within))

-- it is not both
pub not_both : (last x : ConnectionName) → Precedes last x → IsGiven last x → ⊥
not_both last x (inl p) (inl q) = omega (arith, p, q)
not_both last x (inl p) (inr (e, q)) = omega (arith, p, e)
not_both last x (inr (e, p)) (inl q) = omega (arith, e, q)
not_both last x (inr (e, p)) (inr (f, q)) = omega (arith, p, q)

pub last_given : (last : ConnectionName) → IsGiven last last
last_given last = inr (refl, same_le last.count)

-- what was given stays so
pub given_later : (a b x : ConnectionName) → Precedes a b → IsGiven a x → IsGiven b x
given_later a b x (inl p) (inl q) = inl (omega (arith, p, q))
given_later a b x (inl p) (inr (e, q)) = inl (omega (arith, p, e))
given_later a b x (inr (e, p)) (inl q) = inl (omega (arith, e, q))
given_later a b x (inr (e, p)) (inr (f, q)) = inr (omega (arith, e, f), omega (arith, p, q))

-- a name that is still to come is that of no connection
pub not_named : (last x name : ConnectionName) → Precedes last x → IsGiven last name → same_connection name x ≡ false
not_named last x name below given = by (cases_Bool (same_connection name x))
  where
    by : (same_connection name x ≡ true) ⊎ (same_connection name x ≡ false) → same_connection name x ≡ false
    by (inl e) = absurd (not_both last x below (subst (IsGiven last) (same_name name x e) given))
    by (inr e) = e

-- the next name comes after all others
pub next_precedes : (core : CoreState) → core.last_name.ballot ≤ core.replica.state.joined → Precedes core.last_name (next_name core)
next_precedes core within = by (cases_Bool (core.last_name.ballot == core.replica.state.joined))
  where
    one_more : (n : ℕ) → n < n + 1
    one_more n = omega arith

    by : ((core.last_name.ballot == core.replica.state.joined) ≡ true) ⊎ ((core.last_name.ballot == core.replica.state.joined) ≡ false)
        → Precedes core.last_name (next_name core)
    by (inl e) = inr (eqb-true core.last_name.ballot core.replica.state.joined e, rw e (one_more core.last_name.count))
    by (inr e) = let other = eqb-false core.last_name.ballot core.replica.state.joined e in inl (other_above other)
      where
        other_above : (core.last_name.ballot ≡ core.replica.state.joined → ⊥) → core.last_name.ballot < core.replica.state.joined
        other_above other = by_order (cases_lt core.last_name.ballot core.replica.state.joined)
          where
            by_order : (core.last_name.ballot < core.replica.state.joined) ⊎ (core.replica.state.joined ≤ core.last_name.ballot)
                → core.last_name.ballot < core.replica.state.joined
            by_order (inl above) = above
            by_order (inr back) = absurd (other (omega (arith, within, back)))
