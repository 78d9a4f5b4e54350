-- The event that a line asks for.
use Rattle.std.specs.Prelude.{ℕ, Bool, nat_le, if◌then◌else◌, ◌&&◌, List, Option, Some, None, length, option_map}
use Rattle.std.specs.List.{list_all}
use Rattle.script.specs.declared.script_line.Amount.{Amount}
use Rattle.script.specs.declared.script_line.Amount.TheVariants as amounts
use Rattle.script.specs.declared.script_line.ScriptLine.{ScriptLine}
use Rattle.script.specs.declared.script_line.ScriptLine.TheVariants as lines
use Rattle.world_pipes.specs.declared.events.event.Event.{Event}
use Rattle.world_pipes.specs.declared.events.event.Event.TheVariants as events
use Rattle.world.specs.Found.{pair_of}
use Rattle.world.specs.Cannot.{down_of, up_of}
use Rattle.world.specs.World.{WorldState}

-- whether a byte can have this value, and so the number of a node in code
abbrev pub is_byte : ℕ → Bool
is_byte number = nat_le number 255

-- the number of the node that a line names, if it is a byte
abbrev pub node_of : ℕ → Option ℕ
node_of number = if is_byte number then Some number else None

-- a configuration is assigned, if each number is a byte
abbrev pub assign_of : List ℕ → ℕ → Option Event
assign_of members primary =
    if list_all is_byte members && is_byte primary
    then Some (events.Assign (record { members = members; primary = primary })) else None

-- how many of the waiting bytes an amount stands for
abbrev pub count_of : ℕ → Amount → ℕ
count_of waiting amounts.All = waiting
count_of waiting (amounts.Bytes count) = count

-- the event of a line, if this many bytes wait on the connection that it names
abbrev pub event_of : ℕ → ScriptLine → Option Event
event_of waiting (lines.Assign members primary) = assign_of members primary
event_of waiting (lines.Deliver message) = Some (events.Deliver message)
event_of waiting (lines.Tick node) = option_map events.Tick (node_of node)
event_of waiting (lines.Cut node) = option_map events.Cut (node_of node)
event_of waiting (lines.Crash node) = option_map events.Crash (node_of node)
event_of waiting (lines.Expel client node) = option_map (events.Expel client) (node_of node)
event_of waiting (lines.Open client node) = option_map (events.Open client) (node_of node)
event_of waiting (lines.CarryUp connection amount) =
    Some (events.CarryUp connection (count_of waiting amount))
event_of waiting (lines.CarryDown connection amount) =
    Some (events.CarryDown connection (count_of waiting amount))
event_of waiting (lines.Abandon client) = Some (events.Abandon client)
event_of waiting (lines.Disconnect client) = Some (events.Disconnect client)
event_of waiting (lines.Notice connection) = Some (events.Notice connection)
event_of waiting (lines.Publish client publication) = Some (events.Publish client publication)
event_of waiting (lines.Subscribe client filter qos) = Some (events.Subscribe client filter qos)
event_of waiting (lines.Unsubscribe client filter) = Some (events.Unsubscribe client filter)

-- how many bytes wait on the connection that a line names, in the direction in which it carries
-- them
abbrev pub waiting_for : ScriptLine → WorldState → ℕ
waiting_for (lines.CarryUp connection amount) world = length (up_of (pair_of connection world))
waiting_for (lines.CarryDown connection amount) world = length (down_of (pair_of connection world))
waiting_for _ world = 0

-- the event that a line asks for in a world
abbrev pub asked_in : WorldState → ScriptLine → Option Event
asked_in world line = event_of (waiting_for line world) line
