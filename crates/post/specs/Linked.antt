-- What waits for nodes of other programs, and for a master that is elsewhere.
use Rattle.std.specs.Prelude.{◌≡◌, ℕ, zero, suc, Bool, true, false, List, [], ◌∷◌, ◌++◌, length, filter, Option, Some, None}
use Rattle.ballot_base.specs.declared.config.Config.{Config}
use Rattle.ballot_base.specs.declared.message.Body.{Body}
use Rattle.ballot_base.specs.declared.message.Body.TheVariants as bodies
use Rattle.ballot_base.specs.declared.message.Message.{Message}
use Rattle.broker_spec.specs.declared.command.Command.{Command}
use Rattle.broker_spec.specs.declared.command.Command.TheVariants as commands
use Rattle.links.specs.declared.link_queue.queue.Waiting.{Waiting}
use Rattle.links.specs.link_queue.Queues.{QueueView, has_waiting}
use Rattle.lists.specs.Lists.{Each, In}
use Rattle.packet.specs.declared.packet.Packet.{Packet}
use Rattle.packet.specs.declared.packet.Packet.TheVariants as packets
use Rattle.run_history.specs.declared.event.RunEvent.{RunEvent}
use Rattle.run_history.specs.Linked.{IsRun}
use Rattle.run_history.specs.Log.{sent_in}

-- a node whose other nodes and master are in other programs: its number, and how many rows the table
-- of its cluster has
pub record LinkedView : Type 0 where
  pub number : ℕ
  pub rows : ℕ

-- ---- routes

-- the row of each route to a node, counted from 0, where the table has so many
abbrev pub rows_of : ℕ → List (Option ℕ)
rows_of zero = []
rows_of (suc rows) = rows_of rows ++ Some rows ∷ []

-- what waits for a link, the number of the node to which the link leads now, if it ever came up,
-- whether who takes is to be woken for what waits, and whether it was told so
pub record RouteView : Type 0 where
  pub leads : Option ℕ
  pub queue : QueueView Command
  pub urgent : Bool
  pub told : Bool

-- nothing waits for the link, which never came up
abbrev pub unused_route : RouteView
unused_route = record {
  leads = None;
  queue = record { waiting = []; logs = []; dropped = 0 };
  urgent = false;
  told = false;
}

-- the link broke: the logs in transit are forgotten
abbrev pub forgotten : QueueView Command → QueueView Command
forgotten queue =
    record queue { logs = filter (λ name. has_waiting queue.waiting name) queue.logs }

-- another node answers: nothing waits for it
abbrev pub emptied : QueueView Command → QueueView Command
emptied queue = record queue { waiting = []; logs = [] }

-- the route after the link came up with the node of a number, which is the one that it led to or not
abbrev pub met : Bool → ℕ → RouteView → RouteView
met true number route = record route { queue = forgotten route.queue }
met _ number route =
    record { leads = Some number; queue = emptied route.queue; urgent = false; told = false }

-- Each of these messages was sent to the node of this number. Where there is none, nothing waits.
abbrev pub AreSentTo : List (ℕ × Message Command) → Option ℕ → List (Waiting Command) → Type 0
AreSentTo sent (Some number) waiting = Each (λ one. In (number, one.message) sent) waiting
AreSentTo sent None waiting = waiting ≡ []

-- an event of a run of this group sent the message to the node of this number
pub record IsSentTo (linked : Bool) (nodes : ℕ) (config : Config) (number : ℕ)
    (one : Waiting Command) : Type 0 where
  pub log : List RunEvent
  pub run : IsRun linked nodes config log
  pub sent : In (number, one.message) (sent_in log)

-- ---- payloads

abbrev pub packet_payload : Packet → ℕ
packet_payload (packets.Publish publish) = length publish.payload
packet_payload _ = 0

abbrev pub command_payload : Command → ℕ
command_payload (commands.Packet name packet) = packet_payload packet
command_payload _ = 0

-- the bytes that count against what may wait: those of the publication in an Append
abbrev pub body_payload : Body Command → ℕ
body_payload (bodies.Append ballot place command) = command_payload command
body_payload _ = 0
