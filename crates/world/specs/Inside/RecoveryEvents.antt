-- The events of a recovery, by arithmetic, and the member whose log is fetched.
use Rattle.std.specs.Prelude.{◌≡◌, ◌≤◌, ℕ, suc, ◌+◌, ◌-◌, ◌*◌, Bool, List, ◌∷◌, ◌++◌, Some, length, map, slice_get}
use Rattle.std.specs.List.{position}
use Rattle.ballot_base.specs.Service.{max_places}
use Rattle.recovery.specs.replicas.Deliveries.{recovery_messages}
use Rattle.world_nodes.specs.RunningNodes.{is_running, numbered_node}
use Rattle.world_pipes.specs.declared.events.event.Event.{Event}
use Rattle.world_pipes.specs.declared.events.event.Event.TheVariants as events
use Rattle.world_pipes.specs.events.EscapeEvents.{answer_events, client_events}
use Rattle.world.specs.Recovery.{configuration_of, log_length_of}
use Rattle.world.specs.World.{WorldState}

-- ---- the member of the active configuration whose log is fetched

-- the first running member is at this index and has this number, and its log has two places left
pub record IsFetchedFrom (world : WorldState) (index source : ℕ) : Type 0 where
  pub first : position (is_running world.nodes.nodes) world.nodes.master.members ≡ Some index
  pub asked : slice_get world.nodes.master.members index ≡ Some source
  pub room : log_length_of (numbered_node world.nodes.nodes source) + 2 ≤ max_places

-- ---- the events

-- the ballot is led to its start
abbrev pub group_events : WorldState → List ℕ → ℕ → List Event
group_events world members index =
    events.Assign (configuration_of members)
    ∷ map events.Deliver
    (recovery_messages (length world.nodes.sent) (length world.nodes.master.members) index
    (length members - 1))

-- how many messages were sent when the ballot has begun
abbrev pub sent_then : WorldState → ℕ → ℕ
sent_then world others =
    length world.nodes.sent + length world.nodes.master.members + 5 * others + 4

-- the events of a recovery: those of the group, of the client, and of the answer to it
abbrev pub escaping_events : WorldState → List ℕ → ℕ → Bool → List ℕ → ℕ → List Event
escaping_events world members index holds name bytes =
    group_events world members index
    ++ (client_events holds name (configuration_of members).primary
    (suc (length world.connections)) bytes
    ++ answer_events (sent_then world (length members - 1)) (length members - 1)
    (suc (length world.connections)))
