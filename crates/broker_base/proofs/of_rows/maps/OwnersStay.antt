-- A row that is written with its own connection leaves every connection its owner.
use Rattle.std.proofs.Common.{◌≡◌, Bool, true, false, if◌then◌else◌, [], ◌∷◌, Some, refl, ap, ◌∙◌, sym}
use Rattle.std.specs.Prelude.{option_map}
use Rattle.broker_spec.specs.Connection.{ConnectionName, same_connection}
use Rattle.broker_spec.specs.Place.{Client, same_client}
use Rattle.broker_spec.specs.Sessions.{any_connection}
use Rattle.broker_base.specs.ClientSession.{ClientSession}
use Rattle.broker_base.specs.State.{Sessions, session_in, owner_in}
use Rattle.broker_base.specs.rows.Touched.{written}
use Rattle.broker_base.specs.rows.Published.{session_changed}
use Rattle.broker_base.specs.rows.Owners.{owners_in}
use Rattle.broker_base.specs.rows.OwnerTheorems.{WritingKeepsOwners}
use Rattle.broker_base.proofs.of_rows.publications.OneChanged.{changed_next}

-- the client is that of the row, or of one after it
pub owners_row : (y : ConnectionName) (row : Client × ClientSession) (rows : Sessions) →
    owners_in (row ∷ rows) y ≡ (if any_connection (same_connection y) row.1.connection then Some row.0 else owners_in rows y)
owners_row y row rows = by (any_connection (same_connection y) row.1.connection)
  where
    by : (b : Bool) → option_map (λ (r : Client × ClientSession). r.0) (if b then Some row else owner_in y rows) ≡ (if b then Some row.0 else owners_in rows y)
    by true = refl
    by false = refl

-- a row is changed, except its connection
pub owners_changed : (d : Client) (change : ClientSession → ClientSession) (rows : Sessions) (y : ConnectionName) → ((kept : ClientSession) → (change kept).connection ≡ kept.connection) →
    owners_in (session_changed d change rows) y ≡ owners_in rows y
owners_changed d change [] y same = refl
owners_changed d change (row ∷ rows) y same =
    ap (λ all. owners_in all y) (changed_next d change row rows)
    ∙ by (same_client d row.0) (owners_changed d change rows y same) ∙ sym (owners_row y row rows)
  where
    by : (b : Bool) → owners_in (session_changed d change rows) y ≡ owners_in rows y →
        owners_in (if b then (row.0, change row.1) ∷ rows else row ∷ session_changed d change rows) y
        ≡ (if any_connection (same_connection y) row.1.connection then Some row.0 else owners_in rows y)
    by true more =
        owners_row y (row.0, change row.1) rows
        ∙ ap (λ connection. if any_connection (same_connection y) connection then Some row.0 else owners_in rows y) (same row.1)
    by false more = owners_row y row (session_changed d change rows) ∙ ap (λ o. if any_connection (same_connection y) row.1.connection then Some row.0 else o) more

-- a row is written, with the connection that it had
pub owners_written : WritingKeepsOwners
owners_written d old new [] found same y = refl
owners_written d old new (row ∷ rows) found same y = by (same_client d row.0) found (λ e. owners_written d old new rows e same y) ∙ sym (owners_row y row rows)
  where
    by : (b : Bool) → (if b then Some row.1 else session_in d rows) ≡ Some old → (session_in d rows ≡ Some old → owners_in (written d (Some new) rows) y ≡ owners_in rows y) →
        owners_in (if b then (row.0, new) ∷ rows else row ∷ written d (Some new) rows) y
        ≡ (if any_connection (same_connection y) row.1.connection then Some row.0 else owners_in rows y)
    by true e more =
        let here : row.1 ≡ old = cc in
        owners_row y (row.0, new) rows
        ∙ ap (λ connection. if any_connection (same_connection y) connection then Some row.0 else owners_in rows y) (same ∙ ap (λ (k : ClientSession). k.connection) (sym here))
    by false e more = owners_row y row (written d (Some new) rows) ∙ ap (λ o. if any_connection (same_connection y) row.1.connection then Some row.0 else o) (more e)
