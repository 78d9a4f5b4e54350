-- What fields of steps about a session, and of their answers, stand for.
use Rattle.std.specs.Prelude.{ℕ, false, List, [], ◌∷◌, length, map, codes, Option, Some, None, Result, Ok, Err}
use Rattle.rows.specs.Fields.{Text}
use Rattle.rows.specs.Answers.{word}
use Rattle.rows.specs.Playing.{Answers}
use Rattle.packet_base.specs.declared.qos.QoS.{QoS}
use Rattle.packet_base.specs.declared.stop.Stop.{Stop}
use Rattle.session_base.specs.declared.publication.Publication.{Publication}
use Rattle.session_base.specs.Queue.{Queue}
use Rattle.session_base.specs.EntryPackets.{fill_sends}
use Rattle.session_base.specs.Session.{SessionState}
use Rattle.broker_rows.specs.Values.{qos_text, packet_fields}

-- a publication with RETAIN 0
abbrev pub publication_of : Text → QoS → List ℕ → Publication
publication_of topic qos payload =
    record { retain = false; qos = qos; topic = topic; payload = payload }

-- `qos 1`, or `none`
abbrev pub granted_fields : Option QoS → List Text
granted_fields (Some qos) = codes "qos" ∷ qos_text qos ∷ []
granted_fields None = word (codes "none")

-- what goes out while fewer entries than the window are on their way
abbrev pub sent_within : ℕ → Queue → Answers
sent_within window queue =
    map packet_fields (fill_sends window queue.in_flight queue.waiting)

-- the session that was read, if reading did not stop, and how many bytes are after it
abbrev pub thawed : Result (SessionState × List ℕ) Stop → Option (SessionState × ℕ)
thawed (Ok read) = Some (read.0, length read.1)
thawed (Err stop) = None
