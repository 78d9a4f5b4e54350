-- The sender's session is the one that is served on the connection, and only it changes.
use Rattle.std.proofs.Common.{rules, ◌≡◌, ◌∙◌, ap, sym, refl, Some, ◌++◌}
use Rattle.std.specs.Prelude.{map}
use Rattle.std.specs.Option.{option_copied_mut}
use Rattle.std.specs.BTreeMap.{is_at}
use Rattle.std.specs.Map.{set_value}
use Rattle.broker_spec.specs.Place.{by_bytes}
use Rattle.broker_spec.specs.declared.command.Output.TheVariants as outputs
use Rattle.broker_base.specs.ClientSession.{ClientSession}
use Rattle.broker_base.specs.State.{Sessions, session_in}
use Rattle.broker_base.specs.rows.PacketTheorems.{handled_state}
use Rattle.broker_base.specs.rows.Served.{with_content}
use Rattle.broker.specs.one_session.OneSession.{handshake_sends}
use Rattle.broker.proofs.of_tables.FoundByMaps.{has_session, is_served}
use Rattle.broker.proofs.of_tables.TiesOfRows.{ties_of_set}
use Rattle.broker.proofs.of_tables.Handshakes.{handshake_step, handshake_keeps_filters}
use Rattle.broker.proofs.tables.tables.Tables.handshake.Goals as goal

pub unwrap-row-requires : goal.unwrap-row-requires
unwrap-row-requires c =
    let there = has_session c.args.self.now c.args.connection c.args.client.now c.requires.consistent c.requires.served in
    search (rules, there, c.get_mut.ensures.value)

pub returns-clause-step : goal.returns-clause-step
returns-clause-step c =
    let t = c.args.self.now in
    let kept = c.unwrap-row.result.now in
    let held : session_in c.args.client.now t.sessions.entries ≡ Some kept
    = sym c.get_mut.ensures.value ∙ ap option_copied_mut c.unwrap-row.ensures in
    record {
      state = ap (λ (rows : Sessions). record { window = t.window; sessions = rows; retained = t.retained })
          ((c.get_mut.follows.holds _).0
          ∙ ap (λ (s : ClientSession). set_value (is_at (by_bytes c.args.client.now)) t.sessions.entries s)
          (ap (λ s. record { clean = c.row.inside.clean; connection = c.row.inside.connection; state = s }) c.in_ok-do_handshake.ensures.state
          ∙ ap (λ (k : ClientSession). with_content (handled_state t.window c.args.packet.now k.state) k) c.row.view_is))
          ∙ sym (ap (λ p. p.0)
          (handshake_step t c.args.connection c.args.client.now kept c.args.packet.now
          (is_served t c.args.connection c.args.client.now kept c.requires.consistent c.requires.served held) c.requires.kind));
      outputs = c.in_ok-send_all.ensures
          ∙ ap (λ sent. c.args.out.now.items ++ map (outputs.Send c.args.connection) sent)
          (c.in_ok-do_handshake.ensures.sends ∙ ap (λ front. front ++ handshake_sends t.window c.args.packet.now c.row.inside.state) c.new-sent.ensures.items
          ∙ ap (λ (k : ClientSession). handshake_sends t.window c.args.packet.now k.state) c.row.view_is)
          ∙ ap (λ sent. c.args.out.now.items ++ sent)
          (sym (ap (λ p. p.1)
          (handshake_step t c.args.connection c.args.client.now kept c.args.packet.now
          (is_served t c.args.connection c.args.client.now kept c.requires.consistent c.requires.served held) c.requires.kind)));
    }

pub returns-clause-tied : goal.returns-clause-tied
returns-clause-tied c =
    let t = c.args.self.now in
    let kept = c.unwrap-row.result.now in
    let held : session_in c.args.client.now t.sessions.entries ≡ Some kept
    = sym c.get_mut.ensures.value ∙ ap option_copied_mut c.unwrap-row.ensures in
    ties_of_set t _ c.args.client.now kept _ c.requires.consistent refl refl (c.get_mut.follows.holds _).0 held
    (ap (λ (k : ClientSession). k.connection) c.row.view_is)
    (ap (λ s. s.subscriptions) c.in_ok-do_handshake.ensures.state ∙ handshake_keeps_filters t.window c.args.packet.now c.row.inside.state c.requires.kind
    ∙ ap (λ (k : ClientSession). k.state.subscriptions) c.row.view_is)
