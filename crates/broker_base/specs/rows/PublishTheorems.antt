-- The step of a PUBLISH of a served client that is no repeat. It is refused as a whole, or it is
-- taken, and then only the granted rows are touched, each once (MQTT 3.3.1.3, 3.3.4, 3.3.5, 4.3).
use Rattle.std.specs.Prelude.{◌≡◌, ℕ, Bool, false, true, ◌||◌, List, [], ◌∷◌, ◌++◌, Some, None}
use Rattle.std.specs.List.{list_any}
use Rattle.packet.specs.declared.publish.Publish.{Publish}
use Rattle.packet.specs.declared.delivery.Delivery.{Delivery}
use Rattle.packet.specs.declared.packet.Packet.TheVariants as packets
use Rattle.session_base.specs.declared.publication.Publication.{Publication}
use Rattle.session_base.specs.Publication.{publication_of}
use Rattle.broker_spec.specs.Connection.{ConnectionName}
use Rattle.broker_spec.specs.Place.{Client, Limits}
use Rattle.broker_spec.specs.Answers.{acknowledged}
use Rattle.broker_spec.specs.Retained.{retains}
use Rattle.broker_base.specs.ClientSession.{ClientSession}
use Rattle.broker_base.specs.State.{Sessions, State, session_in}
use Rattle.broker_base.specs.Decisions.{is_one_topic_over, repeats_taken}
use Rattle.broker_base.specs.StateTheorems.{AreByClient}
use Rattle.broker_base.specs.Step.{step}
use Rattle.broker_spec.specs.declared.command.Command.TheVariants as commands
use Rattle.broker_spec.specs.declared.command.Output.TheVariants.{Close}
use Rattle.subs_base.specs.Granted.{Row}
use Rattle.broker_base.specs.rows.Touched.{written}
use Rattle.broker_base.specs.rows.Served.{ServesClient, with_session, left_off}
use Rattle.broker_base.specs.rows.Published.{granted_rows, session_changed, received_on, delivered_on}
use Rattle.broker_base.specs.rows.Published.{all_delivered, session_lacks_room, answered_in_turn}

-- whether a granted session is full for the publication, or retaining it would exceed the topic
-- limit
abbrev pub is_refused_by_rows : Limits → State → Publication → Bool
is_refused_by_rows limits state publication =
    list_any (λ row. session_lacks_room limits publication row.1 (session_in row.0 state.sessions))
    (granted_rows publication.topic state.sessions)
    || is_one_topic_over limits state.retained publication

-- a refused publication closes its publisher's connection, and no client gets it (MQTT 4.8)
abbrev pub RefusedStep : Type 0
RefusedStep =
    (limits : Limits) → (later : ℕ) → (state : State) → (connection : ConnectionName) →
    (client : Client) → (kept : ClientSession) →
    ServesClient state connection client kept → (publish : Publish) →
    repeats_taken kept publish.delivery ≡ false →
    is_refused_by_rows limits state (publication_of publish) ≡ true →
    step limits later state (commands.Packet connection (packets.Publish publish))
    ≡ (with_session client (left_off kept) state, Close connection ∷ [])

-- A taken publication is retained if it has RETAIN 1, its publisher's session registers its
-- identifier, and each granted session gets its copy. The publisher is acknowledged first (MQTT
-- 3.3.4), then each granted client is served in turn.
abbrev pub TakenStep : Type 0
TakenStep =
    (limits : Limits) → (later : ℕ) → (state : State) → (connection : ConnectionName) →
    (client : Client) → (kept : ClientSession) →
    ServesClient state connection client kept → (publish : Publish) →
    repeats_taken kept publish.delivery ≡ false →
    is_refused_by_rows limits state (publication_of publish) ≡ false →
    let granted = granted_rows publish.topic state.sessions in
    let noted = session_changed client (received_on publish.delivery) state.sessions in
    step limits later state (commands.Packet connection (packets.Publish publish))
    ≡ (
      record {
        window = state.window;
        sessions = all_delivered state.window (publication_of publish) granted noted;
        retained = retains (publication_of publish) state.retained;
      },
      acknowledged connection publish.delivery
          ++ answered_in_turn state.window (publication_of publish) granted noted,
    )

-- ---- room

-- each granted row's session still has room when its copy is queued
abbrev pub HaveRoomInTurn : Limits → ℕ → Publication → List Row → Sessions → Type 0
HaveRoomInTurn limits window publication (row ∷ granted) rows =
    (session_lacks_room limits publication row.1 (session_in row.0 rows) ≡ false)
    × HaveRoomInTurn limits window publication granted
    (session_changed row.0 (delivered_on window publication row.1) rows)
HaveRoomInTurn limits window publication [] rows = Unit {0}

-- if no granted session is full beforehand, each still has room when its copy is queued
abbrev pub RoomLastsToItsTurn : Type 0
RoomLastsToItsTurn =
    (limits : Limits) → (window : ℕ) → (publication : Publication) → (publisher : Client) →
    (delivery : Delivery) → (rows : Sessions) → AreByClient rows →
    list_any (λ row. session_lacks_room limits publication row.1 (session_in row.0 rows))
    (granted_rows publication.topic rows)
    ≡ false →
    HaveRoomInTurn limits window publication (granted_rows publication.topic rows)
    (session_changed publisher (received_on delivery) rows)

-- ---- one session changed

-- changing a client's session writes it in its place; nothing changes if there is no session, or if
-- the change has no effect
abbrev pub ChangeIsOfOneRow : Type 0
ChangeIsOfOneRow =
    (client : Client) → (change : ClientSession → ClientSession) → (rows : Sessions) →
    ((kept : ClientSession) → session_in client rows ≡ Some kept →
    session_changed client change rows ≡ written client (Some (change kept)) rows)
    × ((kept : ClientSession) → session_in client rows ≡ Some kept → change kept ≡ kept →
    session_changed client change rows ≡ rows)
    × (session_in client rows ≡ None → session_changed client change rows ≡ rows)
