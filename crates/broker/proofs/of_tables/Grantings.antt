-- Grantings.antt: the step at a SUBSCRIBE, by the tables.
use Rattle.std.proofs.Common.{◌≡◌, ◌∙◌, ap, sym, Some, ◌∷◌, List, Bool}
use Rattle.std.specs.Prelude.{map}
use Rattle.std.specs.BTreeMap.{is_at}
use Rattle.std.specs.Map.{lookup, set_value}
use Rattle.packet.specs.declared.subscribe.Subscribe.{Subscribe}
use Rattle.packet.specs.declared.packet.Packet.TheVariants as packets
use Rattle.session_base.specs.Session.{SessionState}
use Rattle.subs_base.specs.ListIndex.{content_of}
use Rattle.broker_spec.specs.Connection.{ConnectionName}
use Rattle.broker_spec.specs.Place.{Client, by_bytes}
use Rattle.broker_spec.specs.Answers.{codes_of}
use Rattle.broker_spec.specs.Commands.{usual_limits}
use Rattle.broker_spec.specs.Subscriptions.{as_granted, granted_of}
use Rattle.broker_spec.specs.declared.command.Command.TheVariants as commands
use Rattle.broker_spec.specs.declared.command.Output.TheVariants as outputs
use Rattle.broker_base.specs.ClientSession.{ClientSession}
use Rattle.broker_base.specs.State.{session_in}
use Rattle.broker_base.specs.rows.Served.{ServesClient, with_session, with_content}
use Rattle.broker_base.specs.rows.CopyTheorems.{granted_in_turn, subscribed_in_turn, sent_in_turn}
use Rattle.broker_base.specs.rows.Indexed.{all_set}
use Rattle.broker_base.proofs.of_rows.PacketSteps.{subscribe_step}
use Rattle.broker_base.proofs.of_rows.publications.SubscribesInTurn.{subscribes}
use Rattle.broker_base.proofs.of_rows.maps.OwnersStay.{owners_written}
use Rattle.broker_base.proofs.of_rows.maps.ContentOfSteps.{subscribing_sets}
use Rattle.broker.specs.declared.tables.tables.Tables.{Tables}
use Rattle.broker.specs.tables.Tables.{by_connection, state_in, stepped, IsTied, IsConsistent}
use Rattle.broker.proofs.of_tables.TiesOfRows.{tied_to}

-- which filters are granted
abbrev pub which_of : Tables → SessionState → Subscribe → List Bool
which_of tables held s = granted_in_turn usual_limits tables.window tables.retained held s.filters

pub subscribe_of : (tables : Tables) (x : ConnectionName) (c : Client) (kept : ClientSession) (s : Subscribe) → ServesClient (state_in tables) x c kept →
    stepped tables (commands.Packet x (packets.Subscribe s))
    ≡ (
      with_session c (Some (with_content (subscribed_in_turn usual_limits tables.window tables.retained kept.state s.filters) kept)) (state_in tables),
      outputs.Send x (packets.Suback (record { id = s.id; codes = codes_of s.filters (which_of tables kept.state s) }))
          ∷ map (outputs.Send x) (sent_in_turn usual_limits tables.window tables.retained kept.state s.filters),
    )
unfolding stepped
subscribe_of tables x c kept s served =
    let turn = subscribes usual_limits tables.window tables.retained kept.state s.filters in
    subscribe_step usual_limits 64 (state_in tables) x c kept served s (which_of tables kept.state s) turn.0
    ∙ (λ i. (
      with_session c (Some (with_content (turn.1 i) kept)) (state_in tables),
      outputs.Send x (packets.Suback (record { id = s.id; codes = codes_of s.filters (which_of tables kept.state s) }))
          ∷ map (outputs.Send x) (turn.2 i),
    ))

-- the ties after it
pub ties_of_subscribe : (tables after : Tables) (c : Client) (kept new : ClientSession) (s : Subscribe) → IsConsistent tables →
    session_in c tables.sessions.entries ≡ Some kept → new.connection ≡ kept.connection →
    new.state ≡ subscribed_in_turn usual_limits tables.window tables.retained kept.state s.filters →
    after.sessions.entries ≡ set_value (is_at (by_bytes c)) tables.sessions.entries new →
    after.owners.entries ≡ tables.owners.entries →
    content_of after.index ≡ all_set c (map as_granted (granted_of s.filters (which_of tables kept.state s))) (content_of tables.index) →
    IsTied after
ties_of_subscribe tables after c kept new s step held on filters is owners index =
    let turn = subscribes usual_limits tables.window tables.retained kept.state s.filters in
    tied_to after (set_value (is_at (by_bytes c)) tables.sessions.entries new) is
    (λ q.
    ap (lookup (is_at (by_connection q))) owners ∙ step.tied.owners q
    ∙ sym (owners_written c kept new tables.sessions.entries held on q))
    (index ∙ ap (all_set c (map as_granted (granted_of s.filters (which_of tables kept.state s)))) step.tied.index
    ∙ sym (subscribing_sets c kept new (map as_granted (granted_of s.filters (which_of tables kept.state s))) tables.sessions.entries
    step.sound.by_client held (ap (λ (state : SessionState). state.subscriptions) (filters ∙ sym turn.1))))
