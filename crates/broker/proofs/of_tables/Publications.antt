-- Publications.antt: the step at a PUBLISH, by the tables.
use Rattle.std.proofs.Common.{◌≡◌, ◌∙◌, ap, sym, subst, true, false, List, [], ◌∷◌, ◌++◌}
use Rattle.std.specs.BTreeMap.{is_at}
use Rattle.std.specs.List.{list_any}
use Rattle.std.specs.Map.{lookup}
use Rattle.std.proofs.lemmas.Bool.{or_parts}
use Rattle.packet.specs.declared.publish.Publish.{Publish}
use Rattle.packet.specs.declared.packet.Packet.TheVariants as packets
use Rattle.session_base.specs.Publication.{publication_of}
use Rattle.subs_base.specs.ListIndex.{content_of}
use Rattle.subs_base.specs.Granted.{Row}
use Rattle.broker_spec.specs.Connection.{ConnectionName}
use Rattle.broker_spec.specs.Place.{Client}
use Rattle.broker_spec.specs.Retained.{retains}
use Rattle.broker_spec.specs.Answers.{acknowledged}
use Rattle.broker_spec.specs.Commands.{usual_limits}
use Rattle.broker_spec.specs.declared.command.Command.TheVariants as commands
use Rattle.broker_spec.specs.declared.command.Output.TheVariants as outputs
use Rattle.broker_base.specs.ClientSession.{ClientSession}
use Rattle.broker_base.specs.State.{Sessions, session_in}
use Rattle.broker_base.specs.Decisions.{repeats_taken, is_one_topic_over}
use Rattle.broker_base.specs.rows.Served.{ServesClient}
use Rattle.broker_base.specs.rows.Published.{granted_rows, session_changed, received_on, all_delivered, answered_in_turn, session_lacks_room}
use Rattle.broker_base.specs.rows.PublishTheorems.{is_refused_by_rows, HaveRoomInTurn}
use Rattle.broker_base.proofs.of_rows.PacketSteps.{repeat_step}
use Rattle.broker_base.proofs.of_rows.publications.RoomInTurn.{room_lasts}
use Rattle.broker_base.proofs.of_rows.PublishSteps.{refused_step, taken_step}
use Rattle.broker_base.proofs.of_rows.maps.PublishKeepsMaps.{publishing_keeps_owners, publishing_keeps_content}
use Rattle.broker.specs.declared.tables.tables.Tables.{Tables}
use Rattle.broker.specs.tables.Tables.{by_connection, state_in, stepped, IsTied}
use Rattle.broker.proofs.of_tables.Losses.{loss_step}
use Rattle.broker.proofs.of_tables.TiesOfRows.{tied_to}

module _ (tables : Tables) (x : ConnectionName) (c : Client) (kept : ClientSession) (served : ServesClient (state_in tables) x c kept) (p : Publish) where
  -- another try
  pub repeat_of : repeats_taken kept p.delivery ≡ true →
      stepped tables (commands.Packet x (packets.Publish p)) ≡ (state_in tables, acknowledged x p.delivery)
  unfolding stepped
  repeat_of again = repeat_step usual_limits 64 (state_in tables) x c kept served p again

  -- one for which there is no room
  pub refused_of : repeats_taken kept p.delivery ≡ false → is_refused_by_rows usual_limits (state_in tables) (publication_of p) ≡ true →
      stepped tables (commands.Packet x (packets.Publish p)) ≡ ((stepped tables (commands.Lost x)).0, outputs.Close x ∷ [])
  unfolding stepped
  refused_of new refused =
      refused_step usual_limits 64 (state_in tables) x c kept served p new refused
      ∙ ap (λ s. (s, outputs.Close x ∷ [])) (sym (ap (λ q. q.0) (loss_step tables x c kept served)))

  -- the sessions after one that is taken
  abbrev pub sessions_after : List Row → Tables → Type 0
  sessions_after granted after =
      after.sessions.entries ≡ all_delivered tables.window (publication_of p) granted (session_changed c (received_on p.delivery) tables.sessions.entries)

  -- one that is taken
  pub taken_of : repeats_taken kept p.delivery ≡ false → is_refused_by_rows usual_limits (state_in tables) (publication_of p) ≡ false →
      (granted : List Row) → granted ≡ granted_rows p.topic tables.sessions.entries →
      stepped tables (commands.Packet x (packets.Publish p))
      ≡ (
        record {
          window = tables.window;
          sessions = all_delivered tables.window (publication_of p) granted (session_changed c (received_on p.delivery) tables.sessions.entries);
          retained = retains (publication_of p) tables.retained;
        },
        acknowledged x p.delivery
            ++ answered_in_turn tables.window (publication_of p) granted (session_changed c (received_on p.delivery) tables.sessions.entries),
      )
  unfolding stepped
  taken_of new taken granted is =
      taken_step usual_limits 64 (state_in tables) x c kept served p new taken
      ∙ ap (λ rows. (
        record {
          window = tables.window;
          sessions = all_delivered tables.window (publication_of p) rows (session_changed c (received_on p.delivery) tables.sessions.entries);
          retained = retains (publication_of p) tables.retained;
        },
        acknowledged x p.delivery
            ++ answered_in_turn tables.window (publication_of p) rows (session_changed c (received_on p.delivery) tables.sessions.entries),
      )) (sym is)

  -- each session that is granted one finds room for it when its turn comes
  pub room_of_taken : is_refused_by_rows usual_limits (state_in tables) (publication_of p) ≡ false →
      (granted : List Row) → granted ≡ granted_rows p.topic tables.sessions.entries →
      (noted : Sessions) → noted ≡ session_changed c (received_on p.delivery) tables.sessions.entries →
      HaveRoomInTurn usual_limits tables.window (publication_of p) granted noted
  room_of_taken taken granted is noted after =
      subst (λ (rows : List Row). HaveRoomInTurn usual_limits tables.window (publication_of p) rows noted) (sym is)
      (subst (λ (sessions : Sessions). HaveRoomInTurn usual_limits tables.window (publication_of p) (granted_rows p.topic tables.sessions.entries) sessions) (sym after)
      (room_lasts usual_limits tables.window (publication_of p) c p.delivery tables.sessions.entries served.sound.by_client
      (or_parts
      (list_any (λ (row : Row). session_lacks_room usual_limits (publication_of p) row.1 (session_in row.0 tables.sessions.entries)) (granted_rows p.topic tables.sessions.entries))
      (is_one_topic_over usual_limits tables.retained (publication_of p)) taken).0))

-- the ties after it
pub ties_of_taken : (tables after : Tables) (c : Client) (p : Publish) (granted : List Row) → IsTied tables →
    after.sessions.entries ≡ all_delivered tables.window (publication_of p) granted (session_changed c (received_on p.delivery) tables.sessions.entries) →
    after.owners.entries ≡ tables.owners.entries → content_of after.index ≡ content_of tables.index → IsTied after
ties_of_taken tables after c p granted tied is owners index =
    tied_to after (all_delivered tables.window (publication_of p) granted (session_changed c (received_on p.delivery) tables.sessions.entries)) is
    (λ q.
    ap (lookup (is_at (by_connection q))) owners ∙ tied.owners q
    ∙ sym (publishing_keeps_owners tables.window (publication_of p) granted c p.delivery tables.sessions.entries q))
    (index ∙ tied.index ∙ sym (publishing_keeps_content tables.window (publication_of p) granted c p.delivery tables.sessions.entries))
