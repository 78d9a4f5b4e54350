-- What holds for a client as a subscriber, whatever happens: what it accepts, and in which order.
use Rattle.std.specs.Prelude.{◌≡◌, ℕ, Bool, true, false, List, [], ◌∷◌, ◌++◌, map, filter, Option, Some, None}
use Rattle.session_base.specs.declared.publication.Publication.{Publication}
use Rattle.broker_spec.specs.Place.{Limits}
use Rattle.broker_spec.specs.Entries.{Entry}
use Rattle.broker_spec.specs.Readings.{publication_in, release_place}
use Rattle.broker_spec.specs.Times.{entries_of}
use Rattle.lists.specs.Lists.{Each}
use Rattle.exactly_once.specs.Sides.{ClientConnection}
use Rattle.exactly_once.specs.Story.{Story}
use Rattle.exactly_once.specs.Carried.{is_qos2}

-- whether an entry was queued at QoS 2
abbrev pub is_qos2_entry : Entry → Bool
is_qos2_entry entry = is_qos2 (publication_in entry).qos

-- the QoS 2 entries of a session
abbrev pub qos2_entries : List Entry → List Entry
qos2_entries = filter is_qos2_entry

-- what the client accepted, connection by connection, the oldest first
abbrev pub accepted_on : List ClientConnection → List Publication
accepted_on (connection ∷ connections) = accepted_on connections ++ connection.accepted
accepted_on [] = []

-- whether a PUBREC of the client has released an entry (MQTT 4.3.3)
abbrev pub is_entry_released : Entry → Bool
is_entry_released entry = is_there (release_place entry)
  where
    is_there : Option ℕ → Bool
    is_there (Some place) = true
    is_there None = false

-- the client accepted a prefix of the QoS 2 entries of its session, and each that is released is
-- among them
pub record AcceptedInOrder (limits : Limits) (story : Story) : Type 0 where
  pub prefix : List Entry
  pub others : List Entry
  pub is : qos2_entries (entries_of limits story.past story.keeper.client) ≡ prefix ++ others
  pub accepted : accepted_on story.connections ≡ map publication_in prefix
  pub rest : Each (λ entry. is_entry_released entry ≡ false) others
