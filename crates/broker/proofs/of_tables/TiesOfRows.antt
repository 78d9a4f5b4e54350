-- TiesOfRows.antt: the tables stay tied if the maps follow the sessions.
use Rattle.std.proofs.Common.{◌≡◌, Some, ap, ◌∙◌, sym}
use Rattle.std.specs.BTreeMap.{is_at}
use Rattle.std.specs.Map.{lookup, set_value}
use Rattle.subs_base.specs.ListIndex.{content_of}
use Rattle.broker_spec.specs.Connection.{ConnectionName}
use Rattle.broker_spec.specs.Place.{Client, by_bytes}
use Rattle.broker_base.specs.ClientSession.{ClientSession}
use Rattle.broker_base.specs.State.{Sessions, session_in}
use Rattle.broker_base.specs.rows.Owners.{owners_in}
use Rattle.broker_base.specs.rows.Indexed.{content_in}
use Rattle.broker_base.proofs.of_rows.maps.OwnersStay.{owners_written}
use Rattle.broker_base.proofs.of_rows.maps.ContentOfSteps.{writing_keeps_content}
use Rattle.broker.specs.declared.tables.tables.Tables.{Tables}
use Rattle.broker.specs.tables.Tables.{by_connection, IsTied, IsConsistent}

-- tables with these sessions
pub tied_to : (after : Tables) (rows : Sessions) → after.sessions.entries ≡ rows →
    ((q : ConnectionName) → lookup (is_at (by_connection q)) after.owners.entries ≡ owners_in rows q) →
    content_of after.index ≡ content_in rows → IsTied after
tied_to after rows is owners index = record {
  owners = λ q. owners q ∙ ap (λ r. owners_in r q) (sym is);
  index = index ∙ ap content_in (sym is);
}

-- a session that is set with the connection and the subscriptions that it had
pub ties_of_set : (tables after : Tables) (c : Client) (kept new : ClientSession) → IsConsistent tables →
    after.owners.entries ≡ tables.owners.entries → content_of after.index ≡ content_of tables.index →
    after.sessions.entries ≡ set_value (is_at (by_bytes c)) tables.sessions.entries new →
    session_in c tables.sessions.entries ≡ Some kept → new.connection ≡ kept.connection →
    new.state.subscriptions ≡ kept.state.subscriptions → IsTied after
ties_of_set tables after c kept new step owners index is held on same =
    tied_to after (set_value (is_at (by_bytes c)) tables.sessions.entries new) is
    (λ q.
    ap (lookup (is_at (by_connection q))) owners ∙ step.tied.owners q
    ∙ sym (owners_written c kept new tables.sessions.entries held on q))
    (index ∙ step.tied.index ∙ sym (writing_keeps_content c kept new tables.sessions.entries step.sound.by_client held same))
