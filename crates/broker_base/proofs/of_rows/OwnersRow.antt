-- A place that is of one connection and its client touches the row of the connection's owner at most.
use Rattle.std.proofs.Common.{◌≡◌, ℕ, Bool, true, false, ◌==◌, ◌&&◌, inl, inr, if◌then◌else◌, [], ◌∷◌, Option, Some, None, refl, ap, ap₂, ◌∙◌, sym, subst, arith}
use Rattle.std.specs.Ordering.{is_eq}
use Rattle.std.specs.declared.cmp.Ordering.TheVariants.{Less}
use Rattle.std.specs.List.Sorted.{IsStrictlySortedBy}
use Rattle.broker_spec.specs.Connection.{ConnectionName, same_connection}
use Rattle.broker_spec.specs.Place.{Client, by_bytes, same_client, Place}
use Rattle.broker_spec.specs.Sessions.{any_connection}
use Rattle.broker_base.specs.ClientSession.{ClientSession}
use Rattle.broker_base.specs.State.{Sessions, session_in, owner_in}
use Rattle.broker_base.proofs.SessionsStayByClient.{ComesBefore}
use Rattle.broker_base.specs.StateTheorems.{AreByClient, IsNobodys, ConnectionsAreApart}
use Rattle.broker_spec.proofs.ClientsInOrder.{same_self, less_turned}
use Rattle.broker_base.specs.rows.Touched.{Untouched, TouchesOnly, TouchesNoOther}

-- ---- connections

-- numbers that are tested equal are equal
equal_numbers : (i j : ℕ) → (i == j) ≡ true → i ≡ j
equal_numbers i j e = grind arith

-- two tests that both hold
both_hold : (a b : Bool) → (a && b) ≡ true → (a ≡ true) × (b ≡ true)
both_hold true true e = (refl, refl)
both_hold true false e = absurd (cc)
both_hold false b e = absurd (cc)

-- connections that are tested the same are one
pub connection_is : (x y : ConnectionName) → same_connection x y ≡ true → x ≡ y
connection_is x y e =
    let h = both_hold (x.ballot == y.ballot) (x.count == y.count) e in
    ap₂ (λ ballot count. record { ballot = ballot; count = count }) (equal_numbers x.ballot y.ballot h.0) (equal_numbers x.count y.count h.1)

-- a connection that is tested to be x is x
pub on_is : (x : ConnectionName) (connection : Option ConnectionName) → any_connection (same_connection x) connection ≡ true → connection ≡ Some x
on_is x None e = absurd (cc)
on_is x (Some y) e = ap Some (sym (connection_is x y e))

-- ---- rows after a row

-- no row after the owner's is touched
pub none_after : (place : Place) (x : ConnectionName) (d : Client) (rows : Sessions) → TouchesNoOther place x d → ComesBefore d rows → IsNobodys x rows → Untouched place rows
none_after place x d [] ones before nobodys = tt
none_after place x d (row ∷ rows) ones before nobodys =
    (ones row.0 row.1 (ap is_eq before.0) nobodys.0, none_after place x d rows ones before.1 nobodys.1)

-- a client before all rows comes before that of a row that is found
pub before_owner : (b : Client) (x : ConnectionName) (owner : Client × ClientSession) (rows : Sessions) → ComesBefore b rows → owner_in x rows ≡ Some owner → by_bytes b owner.0 ≡ Less
before_owner b x owner [] before found = absurd (cc)
before_owner b x owner (row ∷ rows) before found = by (any_connection (same_connection x) row.1.connection) (λ e. before_owner b x owner rows before.1 e) found
  where
    by : (t : Bool) → (owner_in x rows ≡ Some owner → by_bytes b owner.0 ≡ Less) → (if t then Some row else owner_in x rows) ≡ Some owner → by_bytes b owner.0 ≡ Less
    by true later e = let same : row ≡ owner = cc in subst (λ (r : Client × ClientSession). by_bytes b r.0 ≡ Less) same before.0
    by false later e = later e

-- ---- the owner's row

-- the owner's session is found by its client
pub owner_found : (x : ConnectionName) (owner : Client × ClientSession) (rows : Sessions) → AreByClient rows → owner_in x rows ≡ Some owner → session_in owner.0 rows ≡ Some owner.1
unfolding IsStrictlySortedBy
owner_found x owner [] by_client found = absurd (cc)
owner_found x owner (row ∷ rows) by_client found = by (any_connection (same_connection x) row.1.connection) (λ e. owner_found x owner rows by_client.1 e) found
  where
    by : (t : Bool) → (owner_in x rows ≡ Some owner → session_in owner.0 rows ≡ Some owner.1) → (if t then Some row else owner_in x rows) ≡ Some owner →
        session_in owner.0 (row ∷ rows) ≡ Some owner.1
    by true later e =
        let same : row ≡ owner = cc in
        subst (λ (r : Client × ClientSession). session_in r.0 (row ∷ rows) ≡ Some r.1) same (ap (λ b. if b then Some row.1 else session_in row.0 rows) (same_self row.0))
    by false later e =
        ap (λ o. if is_eq o then Some row.1 else session_in owner.0 rows) (less_turned row.0 owner.0 (before_owner row.0 x owner rows by_client.0 e))
        ∙ later e

-- and only it is changed
pub owner_only : (place : Place) (x : ConnectionName) (owner : Client × ClientSession) (rows : Sessions) → TouchesNoOther place x owner.0 → AreByClient rows → ConnectionsAreApart rows →
    owner_in x rows ≡ Some owner → TouchesOnly place owner.0 rows
unfolding IsStrictlySortedBy
owner_only place x owner [] ones by_client apart found = tt
owner_only place x owner (row ∷ rows) ones by_client apart found =
    by (any_connection (same_connection x) row.1.connection) (λ e. owner_only place x owner rows ones by_client.1 apart.1 e) refl found
  where
    by : (t : Bool) → (owner_in x rows ≡ Some owner → TouchesOnly place owner.0 rows) → any_connection (same_connection x) row.1.connection ≡ t →
        (if t then Some row else owner_in x rows) ≡ Some owner → TouchesOnly place owner.0 (row ∷ rows)
    by true later on e =
        let same : row ≡ owner = cc in
        let here : row.0 ≡ owner.0 = ap (λ (r : Client × ClientSession). r.0) same in
        inl (
          subst (λ (c : Client). same_client c row.0 ≡ true) here (same_self row.0),
          none_after place x owner.0 rows ones (subst (λ (c : Client). ComesBefore c rows) here by_client.0) (apart.0 x (on_is x row.1.connection on)),
        )
    by false later off e =
        let other : same_client owner.0 row.0 ≡ false = ap is_eq (less_turned row.0 owner.0 (before_owner row.0 x owner rows by_client.0 e)) in
        inr (other, ones row.0 row.1 other off, later e)
