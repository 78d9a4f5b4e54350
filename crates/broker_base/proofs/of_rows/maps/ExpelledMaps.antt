-- What an Expel leaves of the map of owners and of the index of subscriptions.
use Rattle.std.proofs.Common.{◌≡◌, Bool, true, false, if◌then◌else◌, [], ◌∷◌, Option, Some, None, refl, ap, ◌∙◌, sym, subst}
use Rattle.std.specs.List.Sorted.{IsStrictlySortedBy}
use Rattle.std.proofs.lemmas.Bool.{both_ways}
use Rattle.broker_spec.specs.Connection.{ConnectionName, same_connection}
use Rattle.broker_spec.specs.Place.{Client, same_client}
use Rattle.broker_spec.specs.Sessions.{any_connection}
use Rattle.broker_base.specs.ClientSession.{ClientSession}
use Rattle.broker_base.specs.State.{Sessions, session_in}
use Rattle.broker_base.specs.StateTheorems.{AreByClient, IsNobodys, ConnectionsAreApart}
use Rattle.broker_base.specs.rows.Touched.{written}
use Rattle.broker_base.specs.rows.Owners.{owners_in, without_owner}
use Rattle.broker_base.specs.rows.ExpelTheorems.{ExpelRemovesTheOwner, ExpelDropsTheClient}
use Rattle.broker_base.proofs.of_rows.LeavingSteps.{same_own}
use Rattle.broker_base.proofs.of_rows.OneRow.{written_here, written_after}
use Rattle.broker_base.proofs.of_rows.OwnersRow.{on_is}
use Rattle.broker_base.proofs.of_rows.maps.OwnersLeave.{here_leaves, after_leaves}
use Rattle.broker_base.proofs.of_rows.maps.OwnersStay.{owners_row}
use Rattle.broker_base.proofs.of_rows.maps.SessionWritten.{session_written}
use Rattle.broker_base.proofs.of_rows.maps.ContentAfter.{content_dropped}

-- a session that is there is on its connection
on_there : (x : ConnectionName) (c : Client) (kept : ClientSession) (rows : Sessions) → session_in c rows ≡ Some kept → kept.connection ≡ Some x → IsNobodys x rows → ⊥
on_there x c kept [] found on nobodys = cc
on_there x c kept (row ∷ rows) found on nobodys = by (same_client c row.0) found (on_there x c kept rows)
  where
    by : (b : Bool) → (if b then Some row.1 else session_in c rows) ≡ Some kept → (session_in c rows ≡ Some kept → kept.connection ≡ Some x → IsNobodys x rows → ⊥) → ⊥
    by true e later =
        let same : row.1 ≡ kept = cc in
        both_ways (any_connection (same_connection x) row.1.connection) nobodys.0
        (ap (λ (k : ClientSession). any_connection (same_connection x) k.connection) same ∙ ap (any_connection (same_connection x)) on ∙ same_own x)
    by false e later = later e on nobodys.1

-- a row before it is on another
off_before : (x : ConnectionName) (c : Client) (kept : ClientSession) (row : Client × ClientSession) (rows : Sessions) → session_in c rows ≡ Some kept → kept.connection ≡ Some x → ConnectionsAreApart (row ∷ rows)
    → any_connection (same_connection x) row.1.connection ≡ false
off_before x c kept row rows found on apart = by (any_connection (same_connection x) row.1.connection) refl
  where
    by : (b : Bool) → any_connection (same_connection x) row.1.connection ≡ b → b ≡ false
    by false e = refl
    by true e = absurd (on_there x c kept rows found on (apart.0 x (on_is x row.1.connection e)))

-- of the client's own row
here_expelled : (o : Option ConnectionName) (y : ConnectionName) (row : Client × ClientSession) (rows : Sessions) → row.1.connection ≡ o → ConnectionsAreApart (row ∷ rows)
    → owners_in rows y ≡ without_owner o (owners_in (row ∷ rows)) y
here_expelled None y row rows on apart = sym (owners_row y row rows ∙ ap (λ connection. if any_connection (same_connection y) connection then Some row.0 else owners_in rows y) on)
here_expelled (Some x) y row rows on apart = here_leaves x y row rows on (apart.0 x on)

-- of one before it
after_expelled : (o : Option ConnectionName) (y : ConnectionName) (c : Client) (kept : ClientSession) (row : Client × ClientSession) (rows : Sessions) → session_in c rows ≡ Some kept → kept.connection ≡ o
    → ConnectionsAreApart (row ∷ rows) → owners_in (written c None rows) y ≡ without_owner o (owners_in rows) y → owners_in (row ∷ written c None rows) y ≡ without_owner o (owners_in (row ∷ rows)) y
after_expelled None y c kept row rows found on apart more =
    owners_row y row (written c None rows) ∙ ap (λ o. if any_connection (same_connection y) row.1.connection then Some row.0 else o) more ∙ sym (owners_row y row rows)
after_expelled (Some x) y c kept row rows found on apart more = after_leaves x y row rows (written c None rows) (off_before x c kept row rows found on apart) more

owner_expelled : (c : Client) (kept : ClientSession) (rows : Sessions) (y : ConnectionName) → AreByClient rows → ConnectionsAreApart rows → session_in c rows ≡ Some kept
    → owners_in (written c None rows) y ≡ without_owner kept.connection (owners_in rows) y
unfolding IsStrictlySortedBy
owner_expelled c kept [] y by_client apart found = absurd (cc)
owner_expelled c kept (row ∷ rows) y by_client apart found = by (same_client c row.0) refl found (owner_expelled c kept rows y by_client.1 apart.1)
  where
    by : (b : Bool) → same_client c row.0 ≡ b → (if b then Some row.1 else session_in c rows) ≡ Some kept
        → (session_in c rows ≡ Some kept → owners_in (written c None rows) y ≡ without_owner kept.connection (owners_in rows) y)
        → owners_in (written c None (row ∷ rows)) y ≡ without_owner kept.connection (owners_in (row ∷ rows)) y
    by true same e later =
        let is : row.1 ≡ kept = cc in
        ap (λ rest. owners_in rest y) (sym (written_here c None row rows same))
        ∙ here_expelled kept.connection y row rows (ap (λ (k : ClientSession). k.connection) is) apart
    by false other e later =
        ap (λ rest. owners_in rest y) (sym (written_after c None row rows other)) ∙ after_expelled kept.connection y c kept row rows e refl apart (later e)

pub expel_removes_the_owner : ExpelRemovesTheOwner
expel_removes_the_owner state c kept sound found y = owner_expelled c kept state.sessions y sound.by_client sound.apart found

pub expel_drops_the_client : ExpelDropsTheClient
expel_drops_the_client c kept rows by_client found = content_dropped c None rows (written c None rows) (λ d. session_written c kept None rows d by_client found) (λ f. refl)
