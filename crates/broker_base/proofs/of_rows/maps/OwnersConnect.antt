-- If a client's session is put on a connection without a client, the client owns that one, and the
-- one that it had has no client any more.
use Rattle.std.proofs.Common.{◌≡◌, Bool, true, false, if◌then◌else◌, [], ◌∷◌, Option, Some, None, refl, ap, ap₂, ◌∙◌, sym}
use Rattle.std.specs.declared.cmp.Ordering.{Ordering}
use Rattle.std.specs.declared.cmp.Ordering.TheVariants.{Less, Equal, Greater}
use Rattle.std.specs.List.Sorted.{IsStrictlySortedBy}
use Rattle.std.specs.Ordering.{is_eq, match_ordering}
use Rattle.broker_spec.specs.Connection.{ConnectionName, same_connection}
use Rattle.broker_spec.specs.Place.{Client, by_bytes, same_client}
use Rattle.broker_spec.specs.Sessions.{any_connection}
use Rattle.broker_base.specs.ClientSession.{ClientSession}
use Rattle.broker_base.specs.State.{Sessions, session_in, put_session}
use Rattle.broker_base.specs.StepAnswers.{connection_of}
use Rattle.broker_base.specs.StateTheorems.{AreByClient, IsNobodys, ConnectionsAreApart}
use Rattle.broker_spec.proofs.ClientsInOrder.{equal_is}
use Rattle.broker_base.proofs.ConnectionsOfSessions.{same_turned}
use Rattle.broker_base.proofs.SessionsStayByClient.{before_more}
use Rattle.broker_base.specs.rows.Owners.{Owners, owners_in, with_owner, without_owner}
use Rattle.broker_base.specs.rows.OwnerTheorems.{ConnectingSetsTheOwner, ResumingSetsTheOwner}
use Rattle.broker_base.proofs.of_rows.OwnersRow.{connection_is, on_is}
use Rattle.broker_base.proofs.of_rows.CommandOfNobody.{nobody_owns}
use Rattle.broker_base.proofs.of_rows.ConnectSteps.{no_session, insertion_writes}
use Rattle.broker_base.proofs.of_rows.maps.OwnersStay.{owners_row}
use Rattle.broker_base.proofs.of_rows.maps.OwnersLeave.{no_owner}

-- what is removed, by the connection that is asked for
removed_is : (had : Option ConnectionName) (owners : Owners) (y : ConnectionName) → without_owner had owners y ≡ (if any_connection (same_connection y) had then None else owners y)
removed_is None owners y = refl
removed_is (Some x) owners y = ap (λ b. if b then None else owners y) (same_turned x y)

-- a connection without a client is not that of a client's session
not_of_session : (y : ConnectionName) (c : Client) (rows : Sessions) → IsNobodys y rows → any_connection (same_connection y) (connection_of (session_in c rows)) ≡ false
not_of_session y c [] nobodys = refl
not_of_session y c (row ∷ rows) nobodys = by (same_client c row.0) (not_of_session y c rows nobodys.1)
  where
    by : (b : Bool) → any_connection (same_connection y) (connection_of (session_in c rows)) ≡ false →
        any_connection (same_connection y) (connection_of (if b then Some row.1 else session_in c rows)) ≡ false
    by true more = nobodys.0
    by false more = more

-- the row on x in front of others
put_here : (x y : ConnectionName) (c : Client) (kept : ClientSession) (rest : Sessions) → kept.connection ≡ Some x →
    owners_in ((c, kept) ∷ rest) y ≡ with_owner x c (owners_in rest) y
put_here x y c kept rest on =
    owners_row y (c, kept) rest ∙ ap (λ connection. if any_connection (same_connection y) connection then Some c else owners_in rest y) on
    ∙ ap (λ b. if b then Some c else owners_in rest y) (same_turned y x)

-- the row that the client had
had_here : (y : ConnectionName) (row : Client × ClientSession) (rows : Sessions) → ((z : ConnectionName) → row.1.connection ≡ Some z → IsNobodys z rows) →
    owners_in rows y ≡ (if any_connection (same_connection y) row.1.connection then None else owners_in (row ∷ rows) y)
had_here y row rows apart =
    by (any_connection (same_connection y) row.1.connection) refl
    ∙ ap (λ o. if any_connection (same_connection y) row.1.connection then None else o) (sym (owners_row y row rows))
  where
    by : (b : Bool) → any_connection (same_connection y) row.1.connection ≡ b → owners_in rows y ≡ (if b then None else if b then Some row.0 else owners_in rows y)
    by true on = no_owner y rows (apart y (on_is y row.1.connection on))
    by false off = refl

-- a row before the client's
put_after : (x y : ConnectionName) (c : Client) (row : Client × ClientSession) (rows rest : Sessions) (had : Option ConnectionName) →
    any_connection (same_connection x) row.1.connection ≡ false →
    (any_connection (same_connection y) row.1.connection ≡ true → any_connection (same_connection y) had ≡ false) →
    owners_in rest y ≡ (if same_connection x y then Some c else if any_connection (same_connection y) had then None else owners_in rows y) →
    owners_in (row ∷ rest) y ≡ (if same_connection x y then Some c else if any_connection (same_connection y) had then None else owners_in (row ∷ rows) y)
put_after x y c row rows rest had off other more =
    owners_row y row rest
    ∙ ap (λ o. if any_connection (same_connection y) row.1.connection then Some row.0 else o) more
    ∙ by (any_connection (same_connection y) row.1.connection) refl
    ∙ ap (λ o. if same_connection x y then Some c else if any_connection (same_connection y) had then None else o) (sym (owners_row y row rows))
  where
    apart : any_connection (same_connection y) row.1.connection ≡ true → (b : Bool) → same_connection x y ≡ b → b ≡ false
    apart on true e =
        let f : any_connection (same_connection y) row.1.connection ≡ false = ap (λ z. any_connection (same_connection z) row.1.connection) (sym (connection_is x y e)) ∙ off in
        absurd (cc)
    apart on false e = refl

    by : (b : Bool) → any_connection (same_connection y) row.1.connection ≡ b →
        (if b then Some row.0 else if same_connection x y then Some c else if any_connection (same_connection y) had then None else owners_in rows y)
        ≡ (if same_connection x y then Some c else if any_connection (same_connection y) had then None else if b then Some row.0 else owners_in rows y)
    by true on =
        sym (ap₂ (λ a b. if a then Some c else if b then None else Some row.0) (apart on (same_connection x y) refl) (other on))
    by false e = refl

-- the owners if the session is put
put_owns : (x : ConnectionName) (c : Client) (kept : ClientSession) (rows : Sessions) (y : ConnectionName) → kept.connection ≡ Some x → IsNobodys x rows →
    AreByClient rows → ConnectionsAreApart rows →
    owners_in (put_session c kept rows) y
    ≡ (if same_connection x y then Some c else if any_connection (same_connection y) (connection_of (session_in c rows)) then None else owners_in rows y)
unfolding IsStrictlySortedBy
put_owns x c kept [] y on nobodys by_client apart = put_here x y c kept [] on
put_owns x c kept (row ∷ rows) y on nobodys by_client apart =
    by (by_bytes c row.0) refl (put_owns x c kept rows y on nobodys.1 by_client.1 apart.1)
  where
    goal : Sessions → Option ClientSession → Type 0
    goal after session =
        owners_in after y ≡ (if same_connection x y then Some c else if any_connection (same_connection y) (connection_of session) then None else owners_in (row ∷ rows) y)

    by : (o : Ordering) → by_bytes c row.0 ≡ o →
        owners_in (put_session c kept rows) y
        ≡ (if same_connection x y then Some c else if any_connection (same_connection y) (connection_of (session_in c rows)) then None else owners_in rows y) →
        goal (match_ordering o ((c, kept) ∷ row ∷ rows) ((row.0, kept) ∷ rows) (row ∷ put_session c kept rows)) (if is_eq o then Some row.1 else session_in c rows)
    by Less e more =
        put_here x y c kept (row ∷ rows) on
        ∙ ap (λ session. if same_connection x y then Some c else if any_connection (same_connection y) (connection_of session) then None else owners_in (row ∷ rows) y)
        (sym (no_session c rows (before_more c row.0 rows e by_client.0)))
    by Equal e more =
        ap (λ d. owners_in ((d, kept) ∷ rows) y) (sym (equal_is c row.0 e))
        ∙ put_here x y c kept rows on ∙ ap (λ o. if same_connection x y then Some c else o) (had_here y row rows apart.0)
    by Greater e more =
        put_after x y c row rows (put_session c kept rows) (connection_of (session_in c rows)) nobodys.0
        (λ here. not_of_session y c rows (apart.0 y (on_is y row.1.connection here))) more

-- after an accepted Connect
pub connecting_sets_the_owner : ConnectingSetsTheOwner
connecting_sets_the_owner state x c new sound none on y =
    put_owns x c new state.sessions y on (nobody_owns x state.sessions none) sound.by_client sound.apart
    ∙ ap (λ o. if same_connection x y then Some c else o) (sym (removed_is (connection_of (session_in c state.sessions)) (owners_in state.sessions) y))

-- if the session continues
pub resuming_sets_the_owner : ResumingSetsTheOwner
resuming_sets_the_owner state x c old new sound none found on y =
    ap (λ rows. owners_in rows y) (sym (insertion_writes c old new state.sessions sound.by_client found))
    ∙ connecting_sets_the_owner state x c new sound none on y
    ∙ ap (λ o. with_owner x c (without_owner (connection_of o) (owners_in state.sessions)) y) found
