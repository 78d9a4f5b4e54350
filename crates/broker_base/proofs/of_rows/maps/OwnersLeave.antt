-- If the owner of a connection is removed, or its session is left without one, the connection has
-- no client.
use Rattle.std.proofs.Common.{◌≡◌, Bool, true, false, if◌then◌else◌, [], ◌∷◌, Option, Some, None, refl, ap, ◌∙◌, sym, subst}
use Rattle.std.specs.List.Sorted.{IsStrictlySortedBy}
use Rattle.std.specs.Ordering.{is_eq}
use Rattle.broker_spec.specs.Connection.{ConnectionName, same_connection}
use Rattle.broker_spec.specs.Place.{Client}
use Rattle.broker_spec.specs.Sessions.{any_connection}
use Rattle.broker_base.specs.ClientSession.{ClientSession}
use Rattle.broker_base.specs.State.{Sessions, keyed, owner_in}
use Rattle.broker_base.specs.StateTheorems.{AreByClient, IsNobodys, ConnectionsAreApart}
use Rattle.broker_spec.proofs.ClientsInOrder.{same_self, less_turned}
use Rattle.broker_base.proofs.ConnectionsOfSessions.{same_turned}
use Rattle.broker_base.specs.rows.Touched.{written}
use Rattle.broker_base.specs.rows.Served.{left_off}
use Rattle.broker_base.specs.rows.ConnectTheorems.{all_left_off}
use Rattle.broker_base.specs.rows.Owners.{owners_in, without_owner}
use Rattle.broker_base.specs.rows.OwnerTheorems.{LeavingRemovesTheOwner, StartRemovesTheOwners}
use Rattle.broker_base.proofs.of_rows.OneRow.{written_here, written_after}
use Rattle.broker_base.proofs.of_rows.OwnersRow.{connection_is, on_is, before_owner}
use Rattle.broker_base.proofs.of_rows.maps.OwnersStay.{owners_row}

-- a session, if one is left, has no connection
abbrev IsAway : Option ClientSession → Type 0
IsAway (Some kept) = kept.connection ≡ None
IsAway None = Unit {0}

-- a session that is left off has none
left_off_away : (kept : ClientSession) → IsAway (left_off kept)
left_off_away kept =
    elim kept.clean as (λ (b : Bool). IsAway (if b then None else Some (record { clean = kept.clean; connection = None; state = kept.state }))) [
      | true ↦ tt
      | false ↦ refl
    ]

-- a connection without a client has no owner
pub no_owner : (y : ConnectionName) (rows : Sessions) → IsNobodys y rows → owners_in rows y ≡ None
no_owner y [] nobodys = refl
no_owner y (row ∷ rows) nobodys = owners_row y row rows ∙ ap (λ b. if b then Some row.0 else owners_in rows y) nobodys.0 ∙ no_owner y rows nobodys.1

-- a row without a connection owns none
away_owns_none : (c : Client) (o : Option ClientSession) (rows : Sessions) (y : ConnectionName) → IsAway o → owners_in (keyed c o rows) y ≡ owners_in rows y
away_owns_none c None rows y away = refl
away_owns_none c (Some kept) rows y away =
    owners_row y (c, kept) rows ∙ ap (λ connection. if any_connection (same_connection y) connection then Some c else owners_in rows y) away

-- of the owner's own row
pub here_leaves : (x y : ConnectionName) (row : Client × ClientSession) (rows : Sessions) → row.1.connection ≡ Some x → IsNobodys x rows →
    owners_in rows y ≡ without_owner (Some x) (owners_in (row ∷ rows)) y
here_leaves x y row rows on nobodys =
    by (same_connection x y) refl ∙ ap (λ o. if same_connection x y then None else o)
    (sym (owners_row y row rows ∙ ap (λ connection. if any_connection (same_connection y) connection then Some row.0 else owners_in rows y) on
    ∙ ap (λ b. if b then Some row.0 else owners_in rows y) (same_turned y x)))
  where
    by : (b : Bool) → same_connection x y ≡ b → owners_in rows y ≡ (if b then None else if b then Some row.0 else owners_in rows y)
    by true e = no_owner y rows (subst (λ (z : ConnectionName). IsNobodys z rows) (connection_is x y e) nobodys)
    by false e = refl

-- of a row before it
pub after_leaves : (x y : ConnectionName) (row : Client × ClientSession) (rows rest : Sessions) → any_connection (same_connection x) row.1.connection ≡ false →
    owners_in rest y ≡ without_owner (Some x) (owners_in rows) y → owners_in (row ∷ rest) y ≡ without_owner (Some x) (owners_in (row ∷ rows)) y
after_leaves x y row rows rest off more =
    owners_row y row rest ∙ ap (λ o. if any_connection (same_connection y) row.1.connection then Some row.0 else o) more
    ∙ by (same_connection x y) refl
    ∙ ap (λ o. if same_connection x y then None else o) (sym (owners_row y row rows))
  where
    by : (b : Bool) → same_connection x y ≡ b →
        (if any_connection (same_connection y) row.1.connection then Some row.0 else if b then None else owners_in rows y)
        ≡ (if b then None else if any_connection (same_connection y) row.1.connection then Some row.0 else owners_in rows y)
    by true e =
        ap (λ z. if any_connection (same_connection z) row.1.connection then Some row.0 else None) (sym (connection_is x y e))
        ∙ ap (λ b. if b then Some row.0 else None) off
    by false e = refl

-- the owner's row is written without a connection, or goes
owner_leaves : (x : ConnectionName) (owner : Client × ClientSession) (o : Option ClientSession) (rows : Sessions) (y : ConnectionName) → AreByClient rows → ConnectionsAreApart rows →
    owner_in x rows ≡ Some owner → IsAway o → owners_in (written owner.0 o rows) y ≡ without_owner (Some x) (owners_in rows) y
unfolding IsStrictlySortedBy
owner_leaves x owner o [] y by_client apart found away = absurd (cc)
owner_leaves x owner o (row ∷ rows) y by_client apart found away =
    by (any_connection (same_connection x) row.1.connection) refl (λ e. owner_leaves x owner o rows y by_client.1 apart.1 e away) found
  where
    by : (b : Bool) → any_connection (same_connection x) row.1.connection ≡ b →
        (owner_in x rows ≡ Some owner → owners_in (written owner.0 o rows) y ≡ without_owner (Some x) (owners_in rows) y) →
        (if b then Some row else owner_in x rows) ≡ Some owner →
        owners_in (written owner.0 o (row ∷ rows)) y ≡ without_owner (Some x) (owners_in (row ∷ rows)) y
    by true on more e =
        let same : row ≡ owner = cc in
        subst (λ (r : Client × ClientSession). owners_in (written r.0 o (row ∷ rows)) y ≡ without_owner (Some x) (owners_in (row ∷ rows)) y) same
        (ap (λ rest. owners_in rest y) (sym (written_here row.0 o row rows (same_self row.0)))
        ∙ away_owns_none row.0 o rows y away
        ∙ here_leaves x y row rows (on_is x row.1.connection on) (apart.0 x (on_is x row.1.connection on)))
    by false off more e =
        ap (λ rest. owners_in rest y) (sym (written_after owner.0 o row rows (ap is_eq (less_turned row.0 owner.0 (before_owner row.0 x owner rows by_client.0 e)))))
        ∙ after_leaves x y row rows (written owner.0 o rows) off (more e)

-- of a served client
pub leaving_removes_the_owner : LeavingRemovesTheOwner
leaving_removes_the_owner state x c kept served y =
    owner_leaves x (c, kept) (left_off kept) state.sessions y served.sound.by_client served.sound.apart served.owner (left_off_away kept)

-- after a Start no connection has an owner
pub start_removes_the_owners : StartRemovesTheOwners
start_removes_the_owners [] y = refl
start_removes_the_owners (row ∷ rows) y = away_owns_none row.0 (left_off row.1) (all_left_off rows) y (left_off_away row.1) ∙ start_removes_the_owners rows y
