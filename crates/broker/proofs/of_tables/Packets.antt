-- Packets.antt: the steps at packets on a connection without a client, at PINGREQ, and at what is a
-- violation, by the tables.
use Rattle.std.proofs.Common.{◌≡◌, ◌∙◌, ap, sym, refl, Some, None, [], ◌∷◌, true, false, Option}
use Rattle.std.specs.Prelude.{option_map}
use Rattle.packet.specs.declared.packet.Packet.{Packet}
use Rattle.packet.specs.declared.publish.Publish.{Publish}
use Rattle.packet.specs.declared.subscribe.Subscribe.{Subscribe}
use Rattle.packet.specs.declared.unsubscribe.Unsubscribe.{Unsubscribe}
use Rattle.packet.specs.declared.packet.Packet.TheVariants as packets
use Rattle.broker_spec.specs.Connection.{ConnectionName}
use Rattle.broker_spec.specs.Place.{Client}
use Rattle.broker_spec.specs.Sessions.{is_leaving}
use Rattle.broker_spec.specs.Commands.{usual_limits}
use Rattle.broker_spec.specs.declared.command.Command.TheVariants as commands
use Rattle.broker_spec.specs.declared.command.Output.TheVariants as outputs
use Rattle.broker_base.specs.ClientSession.{ClientSession}
use Rattle.broker_base.specs.Decisions.{owned_mark}
use Rattle.broker_base.specs.State.{owner_in}
use Rattle.broker_base.specs.rows.Served.{ServesClient}
use Rattle.broker_base.specs.rows.Owners.{owners_in}
use Rattle.broker_base.proofs.of_rows.PacketSteps.{pingreq_step}
use Rattle.broker_base.proofs.of_rows.LeavingSteps.{leaving_step}
use Rattle.broker_base.proofs.of_rows.NobodysSteps.{nobodys_packet_step}
use Rattle.broker.specs.declared.tables.tables.Tables.{Tables}
use Rattle.broker.specs.tables.Tables.{state_in, stepped, IsConsistent}
use Rattle.broker.specs.one_session.OneSession.{is_handshake}
use Rattle.broker.specs.tables.Inside.{ends_connection}
use Rattle.broker.proofs.of_tables.FoundByMaps.{is_nobodys}
use Rattle.broker.proofs.of_tables.Losses.{loss_step}

pub nobodys_of : (tables : Tables) (x : ConnectionName) (packet : Packet) → owners_in tables.sessions.entries x ≡ None →
    stepped tables (commands.Packet x packet) ≡ (state_in tables, [])
unfolding stepped
nobodys_of tables x packet none = nobodys_packet_step usual_limits 64 (state_in tables) x packet (is_nobodys tables x none)

-- the client of a connection that has one
owned : {A : Type 0} (tables : Tables) (x : ConnectionName) (c : Client) → owners_in tables.sessions.entries x ≡ Some c →
    ((d : Client) (kept : ClientSession) → owner_in x tables.sessions.entries ≡ Some (d, kept) → A) → A
owned {A} tables x c is go = by (owner_in x tables.sessions.entries) refl
  where
    by : (o : Option (Client × ClientSession)) → owner_in x tables.sessions.entries ≡ o → A
    by (Some row) e = go row.0 row.1 e
    by None e =
        let none : owners_in tables.sessions.entries x ≡ None = ap (option_map (λ (row : Client × ClientSession). row.0)) e in
        absurd (cc)

pub pingreq_of : (tables : Tables) (x : ConnectionName) (c : Client) → IsConsistent tables → owners_in tables.sessions.entries x ≡ Some c →
    stepped tables (commands.Packet x packets.Pingreq) ≡ (state_in tables, outputs.Send x packets.Pingresp ∷ [])
unfolding stepped
pingreq_of tables x c step is =
    owned tables x c is (λ d kept e. pingreq_step usual_limits 64 (state_in tables) x d kept (record { sound = step.sound; owner = e }))

-- it ends its connection
leaves : (tables : Tables) (row : Client × ClientSession) (packet : Packet) → ends_connection packet ≡ true →
    is_leaving (owned_mark usual_limits (state_in tables) row packet) ≡ true
leaves tables row (packets.Connect connect) e = refl
leaves tables row (packets.Connack connack) e = refl
leaves tables row (packets.Suback suback) e = refl
leaves tables row (packets.Unsuback id) e = refl
leaves tables row packets.Pingresp e = refl
leaves tables row packets.Disconnect e = refl
leaves tables row _ e = absurd (cc)

pub violation_of : (tables : Tables) (x : ConnectionName) (c : Client) (packet : Packet) → IsConsistent tables →
    owners_in tables.sessions.entries x ≡ Some c → ends_connection packet ≡ true →
    stepped tables (commands.Packet x packet) ≡ ((stepped tables (commands.Lost x)).0, outputs.Close x ∷ [])
unfolding stepped
violation_of tables x c packet step is wrong =
    owned tables x c is (λ d kept e.
    let served : ServesClient (state_in tables) x d kept = record { sound = step.sound; owner = e } in
    leaving_step usual_limits 64 (state_in tables) x d kept served packet (leaves tables (d, kept) packet wrong)
    ∙ ap (λ s. (s, outputs.Close x ∷ [])) (sym (ap (λ q. q.0) (loss_step tables x d kept served))))

-- a packet that is none of the others is a PINGREQ
pub only_pingreq : (packet : Packet) → is_handshake packet ≡ false → ends_connection packet ≡ false →
    ((p : Publish) → packet ≡ packets.Publish p → ⊥) → ((s : Subscribe) → packet ≡ packets.Subscribe s → ⊥) →
    ((u : Unsubscribe) → packet ≡ packets.Unsubscribe u → ⊥) → packet ≡ packets.Pingreq
only_pingreq packets.Pingreq h v np ns nu = refl
only_pingreq (packets.Publish p) h v np ns nu = absurd (np p refl)
only_pingreq (packets.Subscribe s) h v np ns nu = absurd (ns s refl)
only_pingreq (packets.Unsubscribe u) h v np ns nu = absurd (nu u refl)
only_pingreq (packets.Puback id) h v np ns nu = absurd (cc)
only_pingreq (packets.Pubrec id) h v np ns nu = absurd (cc)
only_pingreq (packets.Pubrel id) h v np ns nu = absurd (cc)
only_pingreq (packets.Pubcomp id) h v np ns nu = absurd (cc)
only_pingreq (packets.Connect connect) h v np ns nu = absurd (cc)
only_pingreq (packets.Connack connack) h v np ns nu = absurd (cc)
only_pingreq (packets.Suback suback) h v np ns nu = absurd (cc)
only_pingreq (packets.Unsuback id) h v np ns nu = absurd (cc)
only_pingreq packets.Pingresp h v np ns nu = absurd (cc)
only_pingreq packets.Disconnect h v np ns nu = absurd (cc)
