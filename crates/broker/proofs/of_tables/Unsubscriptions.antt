-- Unsubscriptions.antt: the step at an UNSUBSCRIBE, by the tables.
use Rattle.std.proofs.Common.{◌≡◌, ◌∙◌, ap, sym, refl, Some, [], ◌∷◌}
use Rattle.std.specs.BTreeMap.{is_at}
use Rattle.std.specs.Map.{lookup, set_value}
use Rattle.packet.specs.declared.unsubscribe.Unsubscribe.{Unsubscribe}
use Rattle.packet.specs.declared.packet.Packet.TheVariants as packets
use Rattle.session_base.specs.Subscriptions.{without_filters}
use Rattle.subs_base.specs.ListIndex.{content_of}
use Rattle.broker_spec.specs.Connection.{ConnectionName}
use Rattle.broker_spec.specs.Place.{Client, by_bytes}
use Rattle.broker_spec.specs.Commands.{usual_limits}
use Rattle.broker_spec.specs.declared.command.Command.TheVariants as commands
use Rattle.broker_spec.specs.declared.command.Output.TheVariants as outputs
use Rattle.broker_base.specs.ClientSession.{ClientSession}
use Rattle.broker_base.specs.State.{session_in}
use Rattle.broker_base.specs.rows.Served.{ServesClient, with_session, with_content}
use Rattle.broker_base.specs.rows.Indexed.{all_cleared}
use Rattle.broker_base.specs.rows.PacketTheorems.{handled_state}
use Rattle.broker_base.proofs.of_rows.PacketSteps.{handled_step}
use Rattle.broker_base.proofs.of_rows.maps.OwnersStay.{owners_written}
use Rattle.broker_base.proofs.of_rows.maps.ContentOfSteps.{unsubscribing_clears}
use Rattle.broker.specs.declared.tables.tables.Tables.{Tables}
use Rattle.broker.specs.tables.Tables.{by_connection, state_in, stepped, IsTied, IsConsistent}
use Rattle.broker.proofs.of_tables.TiesOfRows.{tied_to}

pub unsubscribe_of : (tables : Tables) (x : ConnectionName) (c : Client) (kept : ClientSession) (u : Unsubscribe) → ServesClient (state_in tables) x c kept →
    stepped tables (commands.Packet x (packets.Unsubscribe u))
    ≡ (
      with_session c (Some (with_content (handled_state tables.window (packets.Unsubscribe u) kept.state) kept)) (state_in tables),
      outputs.Send x (packets.Unsuback u.id) ∷ [],
    )
unfolding stepped
unsubscribe_of tables x c kept u served =
    handled_step usual_limits 64 (state_in tables) x c kept served (packets.Unsubscribe u) refl

-- the ties after it
pub ties_of_unsubscribe : (tables after : Tables) (c : Client) (kept new : ClientSession) (u : Unsubscribe) → IsConsistent tables →
    session_in c tables.sessions.entries ≡ Some kept → new.connection ≡ kept.connection →
    new.state.subscriptions ≡ without_filters u.filters kept.state.subscriptions →
    after.sessions.entries ≡ set_value (is_at (by_bytes c)) tables.sessions.entries new →
    after.owners.entries ≡ tables.owners.entries → content_of after.index ≡ all_cleared c u.filters (content_of tables.index) → IsTied after
ties_of_unsubscribe tables after c kept new u step held on filters is owners index =
    tied_to after (set_value (is_at (by_bytes c)) tables.sessions.entries new) is
    (λ q.
    ap (lookup (is_at (by_connection q))) owners ∙ step.tied.owners q
    ∙ sym (owners_written c kept new tables.sessions.entries held on q))
    (index ∙ ap (all_cleared c u.filters) step.tied.index
    ∙ sym (unsubscribing_clears c kept new u.filters tables.sessions.entries step.sound.by_client held filters))
