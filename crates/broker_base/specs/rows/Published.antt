-- A taken publication in terms of the rows that an index grants it (MQTT 3.3.5): who gets it, whose
-- room it takes, and what each of them is sent.
use Rattle.std.specs.Prelude.{ℕ, Bool, false, ◌&&◌, ◌==◌, List, [], ◌∷◌, ◌++◌, Option, Some}
use Rattle.std.specs.Prelude.{None, option_map}
use Rattle.std.specs.List.{fold}
use Rattle.packet_base.specs.declared.qos.QoS.{QoS}
use Rattle.packet.specs.declared.delivery.Delivery.{Delivery}
use Rattle.session_base.specs.declared.publication.Publication.{Publication}
use Rattle.session_base.specs.Publication.{is_answered}
use Rattle.packet_base.specs.QoS.{lower_qos}
use Rattle.session_base.specs.Queue.{room}
use Rattle.session_base.specs.Session.{with_received, with_queue}
use Rattle.session_base.specs.EntryPackets.{copies_sent}
use Rattle.broker_spec.specs.Place.{Client, Limits}
use Rattle.session_base.specs.Subscriptions.{granted_qos}
use Rattle.broker_spec.specs.Entries.{copy_of}
use Rattle.broker_spec.specs.Received.{receives}
use Rattle.broker_base.specs.SessionStep.{copied_queue}
use Rattle.broker_base.specs.ClientSession.{ClientSession}
use Rattle.broker_base.specs.State.{Sessions, session_in}
use Rattle.broker_base.specs.StepAnswers.{sent_on}
use Rattle.broker_spec.specs.declared.command.Output.{Output}
use Rattle.subs_base.specs.Granted.{Row, row_of}
use Rattle.broker_base.specs.rows.Touched.{written}
use Rattle.broker_base.specs.rows.Served.{with_content}

-- a row for each session with a matching subscription, with the greatest QoS of those
abbrev pub granted_rows : List ℕ → Sessions → List Row
granted_rows topic (row ∷ rows) =
    row_of row.0 (granted_qos topic row.1.state.subscriptions) ++ granted_rows topic rows
granted_rows topic [] = []

-- ---- sessions

-- the client's session changed in its place, if the client has one
abbrev pub session_changed : Client → (ClientSession → ClientSession) → Sessions → Sessions
session_changed client change rows =
    written client (option_map change (session_in client rows)) rows

-- a session registers the identifier of a PUBLISH at QoS 2 (MQTT 4.3.3)
abbrev pub received_on : Delivery → ClientSession → ClientSession
received_on delivery kept =
    with_content (with_received (receives delivery kept.state.received) kept.state) kept

-- a session that is granted a publication at this QoS gets its copy, and then what may start starts
abbrev pub delivered_on : ℕ → Publication → QoS → ClientSession → ClientSession
delivered_on window publication qos kept =
    with_content
    (with_queue
    (copied_queue window kept.connection
    (copy_of publication (Some (lower_qos publication.qos qos))) kept.state.queue)
    kept.state) kept

-- each granted row's session, one after another
abbrev pub all_delivered : ℕ → Publication → List Row → Sessions → Sessions
all_delivered window publication granted sessions =
    fold (λ rows row. session_changed row.0 (delivered_on window publication row.1) rows) sessions
    granted

-- ---- room and answers, of a granted row's session

-- whether a granted session, if there is one, would have to queue the publication and is full
abbrev pub session_lacks_room : Limits → Publication → QoS → Option ClientSession → Bool
session_lacks_room limits publication qos (Some kept) =
    is_answered (lower_qos publication.qos qos) && (room limits.entries kept.state.queue == 0)
session_lacks_room limits publication qos None = false

-- what the client of a granted session is sent
abbrev pub copy_answered : ℕ → Publication → QoS → Option ClientSession → List Output
copy_answered window publication qos (Some kept) =
    sent_on kept.connection
    (copies_sent window (copy_of publication (Some (lower_qos publication.qos qos)))
    kept.state.queue)
copy_answered window publication qos None = []

-- what the clients of the granted rows are sent, each by the session that those before it left
abbrev pub answered_in_turn : ℕ → Publication → List Row → Sessions → List Output
answered_in_turn window publication (row ∷ granted) rows =
    copy_answered window publication row.1 (session_in row.0 rows)
    ++ answered_in_turn window publication granted
    (session_changed row.0 (delivered_on window publication row.1) rows)
answered_in_turn window publication [] rows = []
