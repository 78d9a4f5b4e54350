-- Handshakes.antt: the step at a packet of a handshake, by the tables.
use Rattle.std.proofs.Common.{◌≡◌, ℕ, true, Some, refl, ap, ◌∙◌}
use Rattle.std.specs.Prelude.{map}
use Rattle.packet.specs.declared.packet.Packet.{Packet}
use Rattle.packet.specs.declared.packet.Packet.TheVariants as packets
use Rattle.session_base.specs.Session.{SessionState}
use Rattle.broker_spec.specs.Connection.{ConnectionName}
use Rattle.broker_spec.specs.Place.{Client, Mark}
use Rattle.broker_spec.specs.Commands.{usual_limits}
use Rattle.broker_spec.specs.declared.command.Command.TheVariants as commands
use Rattle.broker_spec.specs.declared.command.Output.TheVariants as outputs
use Rattle.broker_base.specs.ClientSession.{ClientSession}
use Rattle.broker_base.specs.Decisions.{owned_mark}
use Rattle.broker_base.specs.StepAnswers.{handled_in, while_connected}
use Rattle.broker_base.specs.rows.Served.{ServesClient, with_session, with_content}
use Rattle.broker_base.specs.rows.PacketTheorems.{handled_state}
use Rattle.broker_base.proofs.of_rows.PacketSteps.{handled_step}
use Rattle.broker_base.proofs.of_rows.ServedStep.{served_on}
use Rattle.broker.specs.declared.tables.tables.Tables.{Tables}
use Rattle.broker.specs.tables.Tables.{state_in, stepped}
use Rattle.broker.specs.one_session.OneSession.{is_handshake, handshake_sends}

-- it is handled
handled : (tables : Tables) (c : Client) (kept : ClientSession) (packet : Packet) → is_handshake packet ≡ true →
    owned_mark usual_limits (state_in tables) (c, kept) packet ≡ Mark.Handled c
handled tables c kept (packets.Puback id) e = refl
handled tables c kept (packets.Pubrec id) e = refl
handled tables c kept (packets.Pubrel id) e = refl
handled tables c kept (packets.Pubcomp id) e = refl
handled tables c kept _ e = absurd (cc)

-- the answers to its sender, which is connected
answered : (w : ℕ) (x : ConnectionName) (kept : ClientSession) (packet : Packet) → is_handshake packet ≡ true → kept.connection ≡ Some x →
    handled_in w x (Some kept) packet ≡ map (outputs.Send x) (handshake_sends w packet kept.state)
answered w x kept (packets.Puback id) e on =
    ap (λ connection. map (outputs.Send x) (while_connected connection (handshake_sends w (packets.Puback id) kept.state))) on
answered w x kept (packets.Pubrec id) e on = refl
answered w x kept (packets.Pubrel id) e on = refl
answered w x kept (packets.Pubcomp id) e on =
    ap (λ connection. map (outputs.Send x) (while_connected connection (handshake_sends w (packets.Pubcomp id) kept.state))) on
answered w x kept _ e on = absurd (cc)

-- the whole step
pub handshake_step : (tables : Tables) (x : ConnectionName) (c : Client) (kept : ClientSession) (packet : Packet) →
    ServesClient (state_in tables) x c kept → is_handshake packet ≡ true →
    stepped tables (commands.Packet x packet)
    ≡ (
      with_session c (Some (with_content (handled_state tables.window packet kept.state) kept)) (state_in tables),
      map (outputs.Send x) (handshake_sends tables.window packet kept.state),
    )
unfolding stepped
handshake_step tables x c kept packet served kind =
    handled_step usual_limits 64 (state_in tables) x c kept served packet (handled tables c kept packet kind)
    ∙ ap (λ answers. (with_session c (Some (with_content (handled_state tables.window packet kept.state) kept)) (state_in tables), answers))
    (answered tables.window x kept packet kind (served_on (state_in tables) x c kept served))

-- it leaves the subscriptions
pub handshake_keeps_filters : (w : ℕ) (packet : Packet) (held : SessionState) → is_handshake packet ≡ true →
    (handled_state w packet held).subscriptions ≡ held.subscriptions
handshake_keeps_filters w (packets.Puback id) held e = refl
handshake_keeps_filters w (packets.Pubrec id) held e = refl
handshake_keeps_filters w (packets.Pubrel id) held e = refl
handshake_keeps_filters w (packets.Pubcomp id) held e = refl
handshake_keeps_filters w _ held e = absurd (cc)
