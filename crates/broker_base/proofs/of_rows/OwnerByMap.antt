-- The owner of a connection is found by a map from connections to clients, and the sessions by client.
use Rattle.std.proofs.Common.{◌≡◌, Option, Some, None, refl, ap, ◌∙◌, sym}
use Rattle.std.specs.Prelude.{option_map}
use Rattle.broker_spec.specs.Connection.{ConnectionName}
use Rattle.broker_spec.specs.Place.{Client}
use Rattle.broker_base.specs.ClientSession.{ClientSession}
use Rattle.broker_base.specs.State.{Sessions, owner_in}
use Rattle.broker_base.specs.StateTheorems.{AreByClient}
use Rattle.broker_base.specs.rows.Owners.{Owners, owners_in, row_in}
use Rattle.broker_base.proofs.of_rows.OwnersRow.{owner_found}

-- two look-ups, if the map is that of the sessions
pub owner_by_map : (owners : Owners) (x : ConnectionName) (sessions : Sessions) → AreByClient sessions → owners ≡ owners_in sessions →
    owner_in x sessions ≡ row_in sessions (owners x)
owner_by_map owners x sessions by_client is = by (owner_in x sessions) refl ∙ ap (λ (o : Owners). row_in sessions (o x)) (sym is)
  where
    by : (o : Option (Client × ClientSession)) → owner_in x sessions ≡ o → o ≡ row_in sessions (option_map (λ (row : Client × ClientSession). row.0) o)
    by None e = refl
    by (Some row) e = ap (option_map (λ (kept : ClientSession). (row.0, kept))) (sym (owner_found x row sessions by_client e))
