-- Theorems about a session's entries: which ones wait, how the list grows, and which publications
-- enter it.
use Rattle.std.specs.Prelude.{◌≡◌, ◌≤◌, ℕ, ◌+◌, if◌then◌else◌, true, false, List, [], ◌∷◌, ◌++◌}
use Rattle.std.specs.Prelude.{length, filter, Some, None, is_some, ◌⊎◌}
use Rattle.std.specs.List.{AllByRecursion}
use Rattle.packet.specs.declared.publish.Publish.{Publish}
use Rattle.packet.specs.declared.packet.Packet.TheVariants as packets
use Rattle.broker_spec.specs.Connection.{ConnectionName}
use Rattle.broker_spec.specs.Place.{Client, Mark, Place, Past, Limits}
use Rattle.broker_spec.specs.Sessions.{current_connection, clean_session_of, begins}
use Rattle.session_base.specs.declared.publication.Publication.{Publication}
use Rattle.session_base.specs.Publication.{publication_of}
use Rattle.broker_spec.specs.Subscriptions.{effective_qos}
use Rattle.broker_spec.specs.Marks.{is_queued_at}
use Rattle.broker_spec.specs.Entries.{Entry, is_unfinished}
use Rattle.broker_spec.specs.OriginTheorems.{is_from_publish}
use Rattle.broker_spec.specs.Times.{entries_of, window_at}
use Rattle.broker_spec.specs.declared.command.Command.TheVariants as commands

-- ---- what waits

-- an entry waits only if its client is not connected, or earlier entries fill the window (MQTT 4.6)
abbrev pub NothingWaitsInVain : Type 0
NothingWaitsInVain =
    (limits : Limits) (past : Past) (client : Client) (before after : List Entry) (made : ℕ)
    (publication : Publication)
    → entries_of limits past client ≡ before ++ Entry.Queued made publication ∷ after
    → (current_connection past client ≡ None)
    ⊎ (window_at limits past ≤ length (filter is_unfinished before))

-- ---- how the list grows

-- One place later, at this place: a queued entry is still queued or starts here; a sent one stays
-- so, is released or is done here; a done one stays. Identifier, publication and times do not
-- change.
abbrev pub EntryGoesOn : ℕ → Entry → Entry → Type 0
EntryGoesOn place (Entry.Queued made publication) later =
    (later ≡ Entry.Queued made publication)
    ⊎ ((id : ℕ) × (later ≡ Entry.Sent made publication id place))
EntryGoesOn place (Entry.Sent made publication id start) later =
    (later ≡ Entry.Sent made publication id start)
    ⊎ ((later ≡ Entry.Released made publication id start place)
    ⊎ (later ≡ Entry.Done made publication id start None place))
EntryGoesOn place (Entry.Released made publication id start release) later =
    (later ≡ Entry.Released made publication id start release)
    ⊎ (later ≡ Entry.Done made publication id start (Some release) place)
EntryGoesOn place (Entry.Done made publication id start release finish) later =
    later ≡ Entry.Done made publication id start release finish

-- an entry that this place made: it is queued, or started there
abbrev pub IsMadeAt : ℕ → Entry → Type 0
IsMadeAt place (Entry.Queued made publication) = made ≡ place
IsMadeAt place (Entry.Sent made publication id start) = (made ≡ place) × (start ≡ place)
IsMadeAt place _ = ⊥

-- earlier entries keep their order and change as `EntryGoesOn` says, and the entries after them
-- were made at this place
abbrev pub GrowsTo : ℕ → List Entry → List Entry → Type 0
GrowsTo place (entry ∷ entries) (later ∷ others) =
    EntryGoesOn place entry later × GrowsTo place entries others
GrowsTo place (entry ∷ entries) [] = ⊥
GrowsTo place [] others = AllByRecursion (IsMadeAt place) others

-- while a session lasts its entries only grow, and an entry that has started stays started
abbrev pub EntriesOnlyGrow : Type 0
EntriesOnlyGrow =
    (limits : Limits) (place : Place) (past : Past) (client : Client)
    → is_some (clean_session_of (place ∷ past) client) ≡ true → begins place past client ≡ false
    → GrowsTo (length past) (entries_of limits past client)
    (entries_of limits (place ∷ past) client)

-- the place of a taken PUBLISH of this client
abbrev pub place_of_taken : ConnectionName → Publish → Client → Place
place_of_taken connection publish publisher = record {
  command = commands.Packet connection (packets.Publish publish);
  mark = Mark.Taken publisher;
}

-- a taken PUBLISH gives a session one entry if its effective QoS is 1 or 2, and otherwise none
-- (MQTT 3.3.5)
abbrev pub TakenPublishAddsOne : Type 0
TakenPublishAddsOne =
    (limits : Limits) (past : Past) (connection : ConnectionName) (publish : Publish)
    (publisher receiver : Client)
    → is_some (clean_session_of (place_of_taken connection publish publisher ∷ past) receiver)
    ≡ true
    → length (entries_of limits (place_of_taken connection publish publisher ∷ past) receiver)
    ≡ length (entries_of limits past receiver)
    + (if is_queued_at (effective_qos past receiver (publication_of publish)) then 1 else 0)

-- at the place where it is taken, a publication enters exactly the sessions with an effective QoS
-- of 1 or 2, once (MQTT 3.3.5)
abbrev pub PublicationEnters : Type 0
PublicationEnters =
    (limits : Limits) (past : Past) (connection : ConnectionName) (publish : Publish)
    (publisher receiver : Client)
    → length (filter (is_from_publish (length past))
    (entries_of limits (place_of_taken connection publish publisher ∷ past) receiver))
    ≡ (if is_queued_at (effective_qos past receiver (publication_of publish)) then 1 else 0)
