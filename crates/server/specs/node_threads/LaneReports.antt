-- What a lane reports of its connections, and what a node's own lane sends.
use Rattle.std.specs.Prelude.{◌≡◌, ℕ, ◌+◌, List, [], ◌∷◌, ◌++◌, length, Option, None, Some}
use mathlib.Core.List.{IsPrefix}
use Rattle.world_base.specs.declared.node_core.item.Item.{Item}
use Rattle.world_base.specs.declared.node_core.item.Item.TheVariants.{Bytes, Tick, Cut}
use Rattle.world_base.specs.declared.node_connections.port.Port.{Port}
use Rattle.mailbox.specs.Ends.{LaneView}
use Rattle.node_base.specs.declared.connection.ending.Ending.{Ending}
use Rattle.node_base.specs.connection.Reports.{Hears}
use Rattle.streams.specs.Ports.{port_of}
use Rattle.ballot_base.specs.declared.message.Message.{Message}
use Rattle.broker_spec.specs.declared.command.Command.{Command}
use Rattle.run_history.specs.declared.event.RunEvent.{RunEvent}
use Rattle.run_history.specs.Log.{sent_in}
use Rattle.post.specs.outbox.Queued.{IsPosted}
use Rattle.server.specs.declared.node_threads.lane_threads.TheConstants.{MAX_CONNECTIONS_OF_LANE}

-- A lane that had sent these items sent the whole report of one connection, and nothing else. Of a
-- socket, no bytes are known but those that came.
pub record SendsWhole (port : Port) (before after : List Item) : Type 0 where
  pub ending : Ending
  pub hears : Hears port before after ending None None

-- A lane that had sent these items sent the whole report of one connection, or nothing if that was
-- closed at once.
pub data ReportsOne (port : Port) (before : List Item) : List Item → Type 0 where
  -- it was closed at once
  closed_at_once : ReportsOne port before before
  -- it was served
  served : {after : List Item} → SendsWhole port before after → ReportsOne port before after

-- A lane that had sent these items sent the reports of this many connections, one after another,
-- and nothing else.
pub data ReportsEach (lane : ℕ) (before : List Item) : ℕ → List Item → Type 0 where
  -- no connection yet
  begins : ReportsEach lane before 0 before
  -- one more connection
  goes_on : {count : ℕ} {sent : List Item} (after : List Item)
      → ReportsEach lane before count sent → ReportsOne (port_of lane count) sent after
      → ReportsEach lane before (count + 1) after

-- how many bytes of a client an item carries
abbrev pub client_bytes : Item → ℕ
client_bytes (Bytes port piece now) = length piece
client_bytes _ = 0

-- a lane sent the reports of any number of its connections
pub record SendsRow (lane : ℕ) (before after : List Item) : Type 0 where
  pub count : ℕ
  pub reports : ReportsEach lane before count after

-- Why a lane serves no more: its thread has the witness of this node's listener; or it has none,
-- and the lane served one connection at each of its ports.
abbrev pub EndsBy : (node lane : ℕ) → Option ℕ → (before after : List Item) → Type 0
EndsBy node lane (Some closed) before after = closed ≡ node
EndsBy node lane None before after = ReportsEach lane before MAX_CONNECTIONS_OF_LANE after

-- the lane by which everything is sent to a node that does not come from its clients, the node's
-- number, and a prefix of the run's log, by which what the lane sent was sent to this node
pub record OwnLaneView : Type 0 where
  pub number : ℕ
  pub lane : LaneView Item
  pub log : List RunEvent

-- what a node's own thread sends by itself: a tick with the time, or a cut of the log
pub data IsOwn : Item → Type 0 where
  -- a tick
  tick : (now : ℕ) → IsOwn (Tick now)
  -- a cut
  cut : IsOwn Cut

-- The own lane of this node sent ticks, cuts of the log, and what was queued for the node, after
-- what it had sent before. These messages were sent in the run by then.
pub data SendsOwn (messages : List (ℕ × Message Command)) (number : ℕ) (before : List Item) :
    List Item → Type 0 where
  -- it sent nothing more
  starts : SendsOwn messages number before before
  -- a tick with the time
  ticks : {sent : List Item} (now : ℕ) → SendsOwn messages number before sent
      → SendsOwn messages number before (sent ++ Tick now ∷ [])
  -- a cut of the log
  cuts : {sent : List Item} → SendsOwn messages number before sent
      → SendsOwn messages number before (sent ++ Cut ∷ [])
  -- an item that was queued for the node
  hands : {sent : List Item} (item : Item) → SendsOwn messages number before sent
      → IsPosted messages number item → SendsOwn messages number before (sent ++ item ∷ [])

-- the own lane of a node sent that, and knows no less of the run's log
pub record SendsMore (old new : OwnLaneView) : Type 0 where
  pub number : new.number ≡ old.number
  pub log : IsPrefix old.log new.log
  pub sends : SendsOwn (sent_in new.log) old.number old.lane.sent new.lane.sent
