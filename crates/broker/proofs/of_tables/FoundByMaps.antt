-- FoundByMaps.antt: the maps of connections and of sessions find the session that is served on a connection.
use Rattle.std.proofs.Common.{◌≡◌, Option, Some, None, refl, ap, ◌∙◌, sym}
use Rattle.std.specs.Prelude.{option_map, IsSome}
use Rattle.broker_spec.specs.Connection.{ConnectionName}
use Rattle.broker_spec.specs.Place.{Client}
use Rattle.broker_base.specs.ClientSession.{ClientSession}
use Rattle.broker_base.specs.State.{owner_in, session_in}
use Rattle.broker_base.specs.rows.Served.{ServesClient}
use Rattle.broker_base.specs.rows.Owners.{owners_in, row_in}
use Rattle.broker_base.proofs.of_rows.OwnerByMap.{owner_by_map}
use Rattle.broker.specs.declared.tables.tables.Tables.{Tables}
use Rattle.broker.specs.tables.Tables.{state_in, IsConsistent}

-- the session of the client that owns a connection
pub found : (tables : Tables) (x : ConnectionName) (c : Client) → IsConsistent tables →
    owners_in tables.sessions.entries x ≡ Some c →
    owner_in x tables.sessions.entries ≡ option_map (λ (kept : ClientSession). (c, kept)) (session_in c tables.sessions.entries)
found tables x c step owned =
    owner_by_map (owners_in tables.sessions.entries) x tables.sessions.entries step.sound.by_client refl
    ∙ ap (row_in tables.sessions.entries) owned

-- it is served on it
pub is_served : (tables : Tables) (x : ConnectionName) (c : Client) (kept : ClientSession) → IsConsistent tables →
    owners_in tables.sessions.entries x ≡ Some c → session_in c tables.sessions.entries ≡ Some kept → ServesClient (state_in tables) x c kept
is_served tables x c kept step owned held = record {
  sound = step.sound;
  owner = found tables x c step owned ∙ ap (option_map (λ (k : ClientSession). (c, k))) held;
}

-- and is there
pub has_session : (tables : Tables) (x : ConnectionName) (c : Client) → IsConsistent tables →
    owners_in tables.sessions.entries x ≡ Some c → IsSome (session_in c tables.sessions.entries)
has_session tables x c step owned =
    by (session_in c tables.sessions.entries)
    (sym (ap (option_map (λ (row : Client × ClientSession). row.0)) (found tables x c step owned)) ∙ owned)
  where
    by : (o : Option ClientSession) →
        option_map (λ (row : Client × ClientSession). row.0) (option_map (λ (k : ClientSession). (c, k)) o) ≡ Some c → IsSome o
    by (Some kept) e = refl
    by None e = absurd (cc)

-- no client owns it
pub is_nobodys : (tables : Tables) (x : ConnectionName) →
    owners_in tables.sessions.entries x ≡ None → owner_in x tables.sessions.entries ≡ None
is_nobodys tables x owned = by (owner_in x tables.sessions.entries) owned
  where
    by : (o : Option (Client × ClientSession)) → option_map (λ (row : Client × ClientSession). row.0) o ≡ None → o ≡ None
    by (Some row) e = absurd (cc)
    by None e = refl

-- what is found twice is one
pub some_is : (a b : ClientSession) → Some a ≡ Some b → a ≡ b
some_is a b e = ap (λ o. value o) e
  where
    value : Option ClientSession → ClientSession
    value (Some k) = k
    value None = a
