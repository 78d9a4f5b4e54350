-- When the entries of a session start, are released and are done (MQTT 4.3.2, 4.3.3, 4.4, 4.6).
use Rattle.std.specs.Prelude.{ℕ, ◌-◌, not, ◌&&◌, ◌==◌, nat_lt, if◌then◌else◌, List, [], ◌∷◌, ◌++◌}
use Rattle.std.specs.Prelude.{length, map, filter, Option, Some, None}
use Rattle.packet.specs.declared.packet.Packet.TheVariants as packets
use Rattle.session_base.specs.Identifiers.{least_free}
use Rattle.broker_spec.specs.Connection.{ConnectionName}
use Rattle.broker_spec.specs.Place.{Client, same_client, Mark, Past, Limits}
use Rattle.broker_spec.specs.Sessions.{current_connection, clean_session_of, begins, in_session}
use Rattle.session_base.specs.Publication.{is_qos1}
use Rattle.broker_spec.specs.Entries.{Entry, copies_at, queued, is_unfinished}
use Rattle.broker_spec.specs.declared.command.Command.{Command}
use Rattle.broker_spec.specs.declared.command.Command.TheVariants as commands

-- ---- acknowledgements at a place

-- PUBACK finishes a QoS 1 entry with this identifier (MQTT 4.3.2)
abbrev pub at_puback : ℕ → ℕ → Entry → Entry
at_puback place id (Entry.Sent made publication other start) =
    if (id == other) && is_qos1 publication.qos
    then Entry.Done made publication other start None place
    else Entry.Sent made publication other start
at_puback place id entry = entry

-- PUBREC releases a QoS 2 entry (MQTT 4.3.3)
abbrev pub at_pubrec : ℕ → ℕ → Entry → Entry
at_pubrec place id (Entry.Sent made publication other start) =
    if (id == other) && not (is_qos1 publication.qos)
    then Entry.Released made publication other start place
    else Entry.Sent made publication other start
at_pubrec place id entry = entry

-- PUBCOMP finishes a released entry (MQTT 4.3.3)
abbrev pub at_pubcomp : ℕ → ℕ → Entry → Entry
at_pubcomp place id (Entry.Released made publication other start release) =
    if id == other then Entry.Done made publication other start (Some release) place
    else Entry.Released made publication other start release
at_pubcomp place id entry = entry

-- the entries after an acknowledgement of the client at a place
abbrev pub answered_by : Command → Mark → ℕ → Client → List Entry → List Entry
answered_by (commands.Packet connection (packets.Puback id)) (Mark.Handled sender)
    place client entries =
    if same_client sender client then map (at_puback place id) entries else entries
answered_by (commands.Packet connection (packets.Pubrec id)) (Mark.Handled sender)
    place client entries =
    if same_client sender client then map (at_pubrec place id) entries else entries
answered_by (commands.Packet connection (packets.Pubcomp id)) (Mark.Handled sender)
    place client entries =
    if same_client sender client then map (at_pubcomp place id) entries else entries
answered_by _ _ place client entries = entries

-- ---- what starts

-- Goes along the entries with the identifiers of the earlier unfinished ones. A queued entry starts
-- if fewer than the window are unfinished before it, with the least identifier that none of them
-- has; otherwise no later one starts (MQTT 4.6).
abbrev pub start_all : ℕ → ℕ → List ℕ → List Entry → List Entry
start_all window place busy (Entry.Queued made publication ∷ entries) =
    if nat_lt (length busy) window
    then Entry.Sent made publication (least_free busy) place
    ∷ start_all window place (least_free busy ∷ busy) entries
    else Entry.Queued made publication ∷ entries
start_all window place busy (Entry.Sent made publication id start ∷ entries) =
    Entry.Sent made publication id start ∷ start_all window place (id ∷ busy) entries
start_all window place busy (Entry.Released made publication id start release ∷ entries) =
    Entry.Released made publication id start release ∷ start_all window place (id ∷ busy) entries
start_all window place busy (Entry.Done made publication id start release finish ∷ entries) =
    Entry.Done made publication id start release finish ∷ start_all window place busy entries
start_all window place busy [] = []

-- entries start only while there is a current connection
abbrev pub started : ℕ → ℕ → Option ConnectionName → List Entry → List Entry
started window place (Some connection) entries = start_all window place [] entries
started window place None entries = entries

-- ---- the entries

-- the most entries of a session in flight, after these places
abbrev pub window_at : Limits → Past → ℕ
window_at limits past = limits.window past

-- The entries of a client's session, in the order in which they were made. A place first applies
-- the client's acknowledgement, then adds the entries that it makes, and then starts what may
-- start.
unfoldable pub entries_of : Limits → Past → Client → List Entry
entries_of limits [] client = []
entries_of limits (place ∷ past) client =
    in_session (clean_session_of (place ∷ past) client) (begins place past client) []
    (started (window_at limits (place ∷ past)) (length past)
    (current_connection (place ∷ past) client)
    (answered_by place.command place.mark (length past) client (entries_of limits past client)
    ++ map (Entry.Queued (length past)) (queued (copies_at place past client))))

-- how many more entries a client's session can hold
abbrev pub room_of : Limits → Past → Client → ℕ
room_of limits past client =
    limits.entries - length (filter is_unfinished (entries_of limits past client))
