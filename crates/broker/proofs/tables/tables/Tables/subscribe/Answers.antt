-- The sender's session takes the filters in turn, and the index learns of those that are granted.
use Rattle.std.proofs.Common.{rules, ◌≡◌, ◌∙◌, ◌++◌, ap, sym, refl, Some, [], ◌∷◌}
use Rattle.std.proofs.lemmas.List.{append_assoc}
use Rattle.std.specs.Prelude.{map}
use Rattle.std.specs.Option.{option_copied_mut}
use Rattle.std.specs.BTreeMap.{is_at}
use Rattle.std.specs.Map.{set_value}
use Rattle.packet.specs.declared.packet.Packet.TheVariants as packets
use Rattle.subs_base.specs.ListIndex.{content_of}
use Rattle.broker_spec.specs.Place.{by_bytes}
use Rattle.broker_spec.specs.Answers.{codes_of}
use Rattle.broker_spec.specs.Commands.{usual_limits}
use Rattle.broker_spec.specs.Subscriptions.{as_granted, granted_of}
use Rattle.broker_spec.specs.declared.command.Output.TheVariants as outputs
use Rattle.broker_base.specs.ClientSession.{ClientSession}
use Rattle.broker_base.specs.State.{Sessions, session_in}
use Rattle.broker_base.specs.rows.CopyTheorems.{granted_in_turn, subscribed_in_turn, sent_in_turn}
use Rattle.broker_base.specs.rows.Indexed.{all_set}
use Rattle.broker_base.specs.rows.Served.{with_content}
use Rattle.broker.proofs.of_tables.FoundByMaps.{has_session, is_served}
use Rattle.broker.proofs.of_tables.Grantings.{subscribe_of, ties_of_subscribe}
use Rattle.broker.proofs.tables.tables.Tables.subscribe.Goals as goal

pub unwrap-row-requires : goal.unwrap-row-requires
unwrap-row-requires c =
    let there = has_session c.args.self.now c.args.connection c.args.client.now c.requires.consistent c.requires.served in
    search (rules, there, c.get_mut.ensures.value)

pub returns-clause-step : goal.returns-clause-step
returns-clause-step c =
    let t = c.args.self.now in
    record {
      state = let kept = c.unwrap-row.result.now in
          let held : session_in c.args.client.now t.sessions.entries ≡ Some kept
          = sym c.get_mut.ensures.value ∙ ap option_copied_mut c.unwrap-row.ensures in
          ap (λ (rows : Sessions). record { window = t.window; sessions = rows; retained = t.retained })
          ((c.get_mut.follows.holds _).0
          ∙ ap (λ (s : ClientSession). set_value (is_at (by_bytes c.args.client.now)) t.sessions.entries s)
          (ap (λ s. record { clean = c.row.inside.clean; connection = c.row.inside.connection; state = s })
          (c.in_ok-which.ensures.state
          ∙ ap (λ filters. subscribed_in_turn usual_limits t.window t.retained c.row.inside.state filters) c.as_slice-filters.ensures)
          ∙ ap (λ (k : ClientSession). with_content (subscribed_in_turn usual_limits t.window t.retained k.state c.args.subscribe.now.filters) k) c.row.view_is))
          ∙ sym (ap (λ p. p.0)
          (subscribe_of t c.args.connection c.args.client.now kept c.args.subscribe.now
          (is_served t c.args.connection c.args.client.now kept c.requires.consistent c.requires.served held)));
      outputs = let s = c.args.subscribe.now in
          let kept = c.unwrap-row.result.now in
          let held : session_in c.args.client.now t.sessions.entries ≡ Some kept
          = sym c.get_mut.ensures.value ∙ ap option_copied_mut c.unwrap-row.ensures in
          let state : c.row.inside.state ≡ kept.state = ap (λ (k : ClientSession). k.state) c.row.view_is in
          let which : c.in_ok-which.which.items ≡ granted_in_turn usual_limits t.window t.retained kept.state s.filters
          = c.in_ok-which.ensures.which ∙ (λ i. granted_in_turn usual_limits t.window t.retained (state i) (c.as_slice-filters.ensures i)) in
          let codes : c.in_ok-codes_of.field-0.items ≡ codes_of s.filters (granted_in_turn usual_limits t.window t.retained kept.state s.filters)
          = c.in_ok-codes_of.ensures ∙ (λ i. codes_of (c.as_slice-filters.ensures i) ((c.deref-2.ensures.value ∙ which) i)) in
          let sent : c.grant_all.new.sent.items ≡ sent_in_turn usual_limits t.window t.retained kept.state s.filters
          = c.in_ok-which.ensures.sends
          ∙ (λ i. c.new-sent.ensures.items i ++ sent_in_turn usual_limits t.window t.retained (state i) (c.as_slice-filters.ensures i)) in
          c.in_ok-send_all.ensures
          ∙ (λ i. c.in_ok-push.ensures.items i ++ map (outputs.Send c.args.connection) (sent i))
          ∙ append_assoc c.args.out.now.items
          (outputs.Send c.args.connection (packets.Suback (record { id = s.id; codes = c.new.result })) ∷ [])
          (map (outputs.Send c.args.connection) (sent_in_turn usual_limits t.window t.retained kept.state s.filters))
          ∙ ap (λ list. c.args.out.now.items
          ++ outputs.Send c.args.connection (packets.Suback (record { id = s.id; codes = list }))
          ∷ map (outputs.Send c.args.connection) (sent_in_turn usual_limits t.window t.retained kept.state s.filters))
          (c.new.ensures ∙ codes)
          ∙ ap (λ given. c.args.out.now.items ++ given)
          (sym (ap (λ p. p.1)
          (subscribe_of t c.args.connection c.args.client.now kept s
          (is_served t c.args.connection c.args.client.now kept c.requires.consistent c.requires.served held))));
    }

pub returns-clause-tied : goal.returns-clause-tied
returns-clause-tied c =
    let t = c.args.self.now in
    let s = c.args.subscribe.now in
    let kept = c.unwrap-row.result.now in
    let held : session_in c.args.client.now t.sessions.entries ≡ Some kept
    = sym c.get_mut.ensures.value ∙ ap option_copied_mut c.unwrap-row.ensures in
    let state : c.row.inside.state ≡ kept.state = ap (λ (k : ClientSession). k.state) c.row.view_is in
    let which : c.in_ok-which.which.items ≡ granted_in_turn usual_limits t.window t.retained kept.state s.filters
    = c.in_ok-which.ensures.which ∙ (λ i. granted_in_turn usual_limits t.window t.retained (state i) (c.as_slice-filters.ensures i)) in
    ties_of_subscribe t _ c.args.client.now kept _ s c.requires.consistent held
    (ap (λ (k : ClientSession). k.connection) c.row.view_is)
    (c.in_ok-which.ensures.state
    ∙ (λ i. subscribed_in_turn usual_limits t.window t.retained (state i) (c.as_slice-filters.ensures i)))
    (c.get_mut.follows.holds _).0 refl
    (c.in_ok-set_all.ensures
    ∙ (λ i. all_set c.args.client.now (map as_granted (granted_of (c.as_slice-filters.ensures i) ((c.deref.ensures.value ∙ which) i))) (content_of t.index)))
