-- The filters are removed from the sender's session, and from the index.
use Rattle.std.proofs.Common.{rules, ◌≡◌, ◌∙◌, ◌++◌, ap, sym, refl, Some}
use Rattle.std.specs.Option.{option_copied_mut}
use Rattle.std.specs.BTreeMap.{is_at}
use Rattle.std.specs.Map.{set_value}
use Rattle.packet.specs.declared.packet.Packet.TheVariants as packets
use Rattle.session_base.specs.Subscriptions.{without_filters}
use Rattle.session_base.specs.Session.{with_granted}
use Rattle.subs_base.specs.ListIndex.{content_of}
use Rattle.broker_spec.specs.Place.{by_bytes}
use Rattle.broker_base.specs.ClientSession.{ClientSession}
use Rattle.broker_base.specs.State.{Sessions, session_in}
use Rattle.broker_base.specs.rows.Indexed.{all_cleared}
use Rattle.broker_base.specs.rows.PacketTheorems.{handled_state}
use Rattle.broker_base.specs.rows.Served.{with_content}
use Rattle.broker.proofs.of_tables.FoundByMaps.{has_session, is_served}
use Rattle.broker.proofs.of_tables.Unsubscriptions.{unsubscribe_of, ties_of_unsubscribe}
use Rattle.broker.proofs.tables.tables.Tables.unsubscribe.Goals as goal

pub unwrap-row-requires : goal.unwrap-row-requires
unwrap-row-requires c =
    let there = has_session c.args.self.now c.args.connection c.args.client.now c.requires.consistent c.requires.served in
    search (rules, there, c.get_mut.ensures.value)

pub returns-clause-step : goal.returns-clause-step
returns-clause-step c =
    let t = c.args.self.now in
    let kept = c.unwrap-row.result.now in
    let held : session_in c.args.client.now t.sessions.entries ≡ Some kept
    = sym c.get_mut.ensures.value ∙ ap option_copied_mut c.unwrap-row.ensures in
    record {
      state = ap (λ (rows : Sessions). record { window = t.window; sessions = rows; retained = t.retained })
          ((c.get_mut.follows.holds _).0
          ∙ ap (λ (s : ClientSession). set_value (is_at (by_bytes c.args.client.now)) t.sessions.entries s)
          (ap (λ s. record { clean = c.row.inside.clean; connection = c.row.inside.connection; state = s })
          (c.unsubscribe_all.ensures ∙ ap (λ filters. with_granted (without_filters filters c.row.inside.state.subscriptions) c.row.inside.state) c.as_slice.ensures)
          ∙ ap (λ (k : ClientSession). with_content (handled_state t.window (packets.Unsubscribe c.args.unsubscribe.now) k.state) k) c.row.view_is))
          ∙ sym (ap (λ p. p.0)
          (unsubscribe_of t c.args.connection c.args.client.now kept c.args.unsubscribe.now
          (is_served t c.args.connection c.args.client.now kept c.requires.consistent c.requires.served held)));
      outputs = c.in_ok-push.ensures.items
          ∙ ap (λ given. c.args.out.now.items ++ given)
          (sym (ap (λ p. p.1)
          (unsubscribe_of t c.args.connection c.args.client.now kept c.args.unsubscribe.now
          (is_served t c.args.connection c.args.client.now kept c.requires.consistent c.requires.served held))));
    }

pub returns-clause-tied : goal.returns-clause-tied
returns-clause-tied c =
    let t = c.args.self.now in
    let kept = c.unwrap-row.result.now in
    let held : session_in c.args.client.now t.sessions.entries ≡ Some kept
    = sym c.get_mut.ensures.value ∙ ap option_copied_mut c.unwrap-row.ensures in
    ties_of_unsubscribe t _ c.args.client.now kept _ c.args.unsubscribe.now c.requires.consistent held
    (ap (λ (k : ClientSession). k.connection) c.row.view_is)
    (ap (λ s. s.subscriptions) c.unsubscribe_all.ensures
    ∙ ap (λ filters. without_filters filters c.row.inside.state.subscriptions) c.as_slice.ensures
    ∙ ap (λ (k : ClientSession). without_filters c.args.unsubscribe.now.filters k.state.subscriptions) c.row.view_is)
    (c.get_mut.follows.holds _).0 refl
    (c.clear_all.ensures ∙ ap (λ filters. all_cleared c.args.client.now filters (content_of t.index)) c.as_slice-2.ensures)
