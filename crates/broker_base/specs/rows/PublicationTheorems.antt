-- A taken publication depends only on the rows that an index grants (MQTT 3.3.5).
use Rattle.std.specs.Prelude.{◌≡◌, ℕ, List, flat_map}
use Rattle.std.specs.List.{list_any}
use Rattle.packet.specs.declared.publish.Publish.{Publish}
use Rattle.retained.specs.Retained.{RetainedTopics}
use Rattle.session_base.specs.declared.publication.Publication.{Publication}
use Rattle.session_base.specs.Publication.{publication_of}
use Rattle.subs_base.specs.Content.{Content}
use Rattle.subs_base.specs.Granted.{Row, IsGranted}
use Rattle.broker_spec.specs.Connection.{ConnectionName}
use Rattle.broker_spec.specs.Place.{Client, Limits}
use Rattle.broker_spec.specs.EntryTheorems.{place_of_taken}
use Rattle.broker_base.specs.State.{Sessions, session_in}
use Rattle.broker_base.specs.StateTheorems.{AllSound, AreByClient}
use Rattle.broker_base.specs.Decisions.{row_lacks_room}
use Rattle.broker_base.specs.StepAnswers.{copies_answered}
use Rattle.broker_base.specs.rows.Indexed.{content_in}
use Rattle.broker_base.specs.rows.Published.{granted_rows, session_lacks_room, copy_answered}

-- an index that agrees with the sessions grants exactly the sessions that match
abbrev pub GrantedRowsMatch : Type 0
GrantedRowsMatch =
    (content : Content) → (topic : List ℕ) → (sessions : Sessions) → (rows : List Row) →
    AreByClient sessions → AllSound sessions →
    content ≡ content_in sessions → IsGranted content topic rows →
    rows ≡ granted_rows topic sessions

-- some session lacks room for a publication exactly if a granted one does
abbrev pub RoomIsOfGrantedRows : Type 0
RoomIsOfGrantedRows =
    (limits : Limits) → (publication : Publication) → (rows : Sessions) → AreByClient rows →
    list_any (row_lacks_room limits publication) rows
    ≡ list_any (λ row. session_lacks_room limits publication row.1 (session_in row.0 rows))
    (granted_rows publication.topic rows)

-- what all clients are sent of a publication is what the granted ones are sent, in order
abbrev pub AnswersAreOfGrantedRows : Type 0
AnswersAreOfGrantedRows =
    (window : ℕ) → (connection : ConnectionName) → (publish : Publish) → (publisher : Client) →
    (content : RetainedTopics) → (rows : Sessions) → AreByClient rows →
    flat_map (copies_answered window (place_of_taken connection publish publisher) content) rows
    ≡ flat_map (λ row. copy_answered window (publication_of publish) row.1 (session_in row.0 rows))
    (granted_rows publish.topic rows)
