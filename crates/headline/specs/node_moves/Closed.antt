-- A node sends nothing more on a connection that it has closed.
use Rattle.std.specs.Prelude.{◌≡◌, ℕ, true, if◌then◌else◌, List, [], ◌∷◌, ◌++◌, Option, Some}
use Rattle.std.specs.List.{find}
use Rattle.packet.specs.declared.packet.Packet.{Packet}
use Rattle.packet.specs.declared.packet.Packet.TheVariants as packets
use Rattle.packet.specs.declared.connack.Connack.TheVariants as connacks
use Rattle.broker_spec.specs.Connection.{ConnectionName, same_connection}
use Rattle.lists.specs.Lists.{IsPrefixOf}
use Rattle.exactly_once.specs.Sends.{sends_to}
use Rattle.world_base.specs.declared.node_connections.connection.Connection.{Connection}
use Rattle.world_base.specs.node_connections.Connections.{is_closed}
use Rattle.world_base.specs.node_core.Core.{CoreState, StepOutcome}
use Rattle.headline.specs.node_moves.Ends.{IsOrderly, open_named}
use Rattle.headline.specs.node_moves.Moves.{NodeMove}
use Rattle.headline.specs.node_moves.Moves.NodeMove.{refuses}
use Rattle.headline.specs.node_moves.Puts.{move_effects, outputs_of, spelled}

-- the connection of a name: open, or closed with pending output
abbrev pub listed_named : ConnectionName → CoreState → Option Connection
listed_named name core = find (λ connection. same_connection connection.name name) core.connections

-- the answer to a CONNECT that the node refuses itself in a move without losses (MQTT 3.2.2.3)
abbrev pub exact_refusal : ConnectionName → {core : CoreState} {outcome : StepOutcome} →
    NodeMove core outcome →
    List Packet
exact_refusal name (refuses port connection code at first is) =
    if same_connection connection.name name
    then packets.Connack (connacks.Refused code) ∷ [] else []
exact_refusal name _ = []

-- how a connection that is closed after a move without losses was closed
pub data IsExactlyClosedBy (name : ConnectionName) {core : CoreState} {outcome : StepOutcome}
    (move : NodeMove core outcome) (new : Connection) : Type 0 where
  -- it was closed before, with the same pending output
  was_closed : (old : Connection) → listed_named name core ≡ Some old → is_closed old.stage ≡ true →
      new.pending ≡ old.pending → IsExactlyClosedBy name move new
  -- it was open, and got no more in this move than a prefix of what is sent to it
  closes_now : (old : Connection) (front : List ℕ) → open_named name core ≡ Some old →
      new.pending ≡ old.pending ++ front →
      IsPrefixOf front
      (spelled (exact_refusal name move ++ sends_to name (outputs_of (move_effects move)))) →
      IsExactlyClosedBy name move new

-- each connection that is closed after a move was closed in one of the ways of `IsExactlyClosedBy`
abbrev pub NothingOnClosed : Type 0
NothingOnClosed =
    (core : CoreState) (outcome : StepOutcome) (move : NodeMove core outcome) → IsOrderly core →
    (name : ConnectionName) (new : Connection) → listed_named name outcome.core ≡ Some new →
    is_closed new.stage ≡ true → IsExactlyClosedBy name move new
