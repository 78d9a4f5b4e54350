-- What a client is sent for the entries of its session (MQTT 3.3.1.1, 4.3, 4.4).
use Rattle.std.specs.Prelude.{ℕ, Bool, true, false, ◌==◌, if◌then◌else◌, List, [], ◌∷◌, ◌++◌}
use Rattle.std.specs.Prelude.{length, map, take, drop, flat_map, Option, Some, None}
use Rattle.packet.specs.declared.packet.Packet.TheVariants as packets
use Rattle.broker_spec.specs.Connection.{ConnectionName}
use Rattle.broker_spec.specs.Place.{Client, Place, Past, Limits}
use Rattle.broker_spec.specs.Sessions.{current_connection}
use Rattle.session_base.specs.declared.publication.Publication.{Publication}
use Rattle.session_base.specs.Publication.{publish_for, is_answered}
use Rattle.broker_spec.specs.Entries.{Entry, copies_at}
use Rattle.broker_spec.specs.Readings.{made_at, released_below}
use Rattle.broker_spec.specs.Times.{entries_of}
use Rattle.broker_spec.specs.declared.command.Output.{Output}
use Rattle.broker_spec.specs.declared.command.Output.TheVariants.{Send}

-- a PUBLISH to the client
abbrev pub publish_output : ConnectionName → Bool → ℕ → Publication → Output
publish_output connection dup id publication =
    Send connection (packets.Publish (publish_for dup id publication))

-- an entry that starts at this place is sent for the first time, with DUP 0 (MQTT 3.3.1.1)
abbrev pub first_output : ConnectionName → ℕ → Entry → List Output
first_output connection place (Entry.Sent made publication id start) =
    if start == place then publish_output connection false id publication ∷ [] else []
first_output connection place _ = []

-- all entries that start at this place, in order
abbrev pub all_started : ConnectionName → ℕ → List Entry → List Output
all_started connection place = flat_map (first_output connection place)

-- the retransmission, with DUP 1, of an entry that was sent below this place and is not
-- acknowledged (MQTT 4.4)
abbrev pub repeated_output : ConnectionName → ℕ → Entry → List Output
repeated_output connection place (Entry.Sent made publication id start) =
    if start == place then [] else publish_output connection true id publication ∷ []
repeated_output connection place _ = []

-- What a client that reconnects at this place is sent: PUBREL for each released entry, in the order
-- of release; then the sent entries, in order; then what starts now (MQTT 4.4).
abbrev pub resent_outputs : ConnectionName → ℕ → List Entry → List Output
resent_outputs connection place entries =
    map (λ id. Send connection (packets.Pubrel id)) (released_below place entries)
    ++ flat_map (repeated_output connection place) entries ++ all_started connection place entries

-- What a connection is sent for the copies that this place made, in order: each copy at QoS 0 at
-- once, and each other one if its entry starts here. The entries are those that the place made, in
-- order.
abbrev pub copy_outputs : ConnectionName → ℕ → List Publication → List Entry → List Output
copy_outputs connection place (publication ∷ copies) entries =
    if is_answered publication.qos
    then all_started connection place (take 1 entries)
    ++ copy_outputs connection place copies (drop 1 entries)
    else publish_output connection false 0 publication
    ∷ copy_outputs connection place copies entries
copy_outputs connection place [] entries = []

-- the same for a client that may have no connection: then nothing
abbrev pub handed_to : Option ConnectionName → ℕ → List Publication → List Entry → List Output
handed_to (Some connection) place copies entries = copy_outputs connection place copies entries
handed_to None place copies entries = []

-- what a client is sent for the copies that a place makes for its session
abbrev pub deliveries_to : Limits → Place → Past → Client → List Output
deliveries_to limits place past client =
    handed_to (current_connection past client) (length past) (copies_at place past client)
    (made_at (length past) (entries_of limits (place ∷ past) client))
