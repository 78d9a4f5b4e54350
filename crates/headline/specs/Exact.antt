-- What holds for every world of clients and a group of nodes: the headline for each client, by the
-- list on which the nodes agree.
use Rattle.std.specs.Prelude.{◌≡◌, ◌≤◌, ℕ, List, ◌∷◌, Some, slice_get}
use Rattle.lists.specs.Lists.{Each}
use Rattle.ballot_base.specs.declared.config.Config.{Config}
use Rattle.broker_spec.specs.declared.command.Command.{Command}
use Rattle.broker_spec.specs.Commands.{past_of, usual_limits}
use Rattle.broker_spec.specs.Connection.{ConnectionName}
use Rattle.broker_spec.specs.EndingTheorems.{EndsWithTheSession, connects_of}
use Rattle.broker_spec.specs.Place.{Client}
use Rattle.client_base.specs.History as history
use Rattle.client_base.specs.State.{ClientState}
use Rattle.exactly_once.specs.Acceptance.{accepted_on}
use Rattle.exactly_once.specs.InStep.{IsInStep}
use Rattle.exactly_once.specs.LivesAreExact.{ExactlyOnceOverSessions}
use Rattle.exactly_once.specs.Unexpelled.{HasOneSession, IsUnexpelled}
use Rattle.exactly_once.specs.Sides.{ClientConnection}
use Rattle.exactly_once.specs.Story.{Story}
use Rattle.agreement.specs.cut_logs.Moments.{IsAgreed}
use Rattle.headline.specs.packet_world.World.{ClientsAreApart}
use Rattle.headline.specs.node_group.Group.{moment_of_nodes}
use Rattle.headline.specs.node_group.Steps.{all_proposed, groups_on_trace}
use Rattle.headline.specs.node_group.GroupMoments.{HasMoments}
use Rattle.headline.specs.byte_world.World.{ClientPipes, HasPipe, Pipe, ByteWorld}
use Rattle.headline.specs.byte_world.Carried.{trace_of}
use Rattle.headline.specs.byte_world.Accepted.{accepted_at_qos2}
use Rattle.headline.specs.byte_world.Published.{published_of, published_on_way}
use Rattle.headline.specs.byte_world.Steps.{Reached}
use Rattle.headline.specs.byte_world.InPipes.{IsInOrder}
use Rattle.headline.specs.Promise.{Promise}

-- one client's story, by the list on which the nodes agree
abbrev pub story_of : List Command → ClientPipes → Story
story_of agreed client =
    record {
      past = past_of usual_limits agreed;
      connections = client.connections;
      keeper = client.keeper;
    }

-- what a client is promised over its sessions, as long as it is in step
abbrev pub IsExactInStep : List Command → ClientPipes → Type 0
IsExactInStep agreed client =
    IsInStep (story_of agreed client) →
    ExactlyOnceOverSessions usual_limits (story_of agreed client)

-- a client that no Expel names has one session at most, which lasts once it began, so it is in step
abbrev pub IsInOneSession : List Command → ClientPipes → Type 0
IsInOneSession agreed client =
    IsUnexpelled client.keeper.client (past_of usual_limits agreed) →
    HasOneSession (story_of agreed client)

-- the parts that a client without history shows
pub record IsShownBy (client : ClientPipes) (state : ClientState) : Type 0 where
  pub keeper : history.KeeperStandsFor client.keeper state
  pub accepted : accepted_at_qos2 state.accepted ≡ accepted_on client.connections

-- what a world is promised if this is the list on which its nodes agree
pub record IsExactBy (agreed : List Command) (world : ByteWorld) : Type 0 where
  -- each client that is in step publishes once, and accepts in order in each of its sessions
  pub clients : Each (IsExactInStep agreed) world.clients
  pub unexpelled : Each (IsInOneSession agreed) world.clients
  -- an ended session gets nothing more, since each connection has a name of its own
  pub names : (name : ConnectionName) → connects_of name (past_of usual_limits agreed) ≤ 1
  pub sessions : EndsWithTheSession usual_limits (past_of usual_limits agreed)
  -- connections carry their packets in order, both ways
  pub pipes : (index : ℕ) (client : ClientPipes) (nth : ℕ) (connection : ClientConnection)
      (pipe : Pipe) → HasPipe world index client nth connection pipe →
      IsInOrder agreed connection pipe

-- A world that is reached by these steps: the steps of its group are a past, there is a list on
-- which the nodes agree at its end, and the world is exact by that list.
pub record IsExact {nodes : ℕ} {config : Config} {clients : List Client} {world : ByteWorld}
    (trail : Reached nodes config clients world) : Type 0 where
  pub of : HasMoments config world.group (groups_on_trace (trace_of trail))
      (all_proposed (trace_of trail))
  pub agreed : List Command
  pub is_agreed : IsAgreed config (moment_of_nodes world.group ∷ of.earlier) agreed
  pub exact : (list : List Command) →
      IsAgreed config (moment_of_nodes world.group ∷ of.earlier) list → IsExactBy list world
  -- what a client shows, with what it was asked to publish in these steps, is as promised
  pub promises : (list : List Command) →
      IsAgreed config (moment_of_nodes world.group ∷ of.earlier) list →
      (index : ℕ) (client : ClientPipes) (state : ClientState) →
      slice_get world.clients index ≡ Some client → IsShownBy client state →
      Promise client.connections (published_of index (published_on_way trail)) list state

-- each world of clients with identifiers of their own is exact, whatever its steps
abbrev pub WorldsAreExact : Type 0
WorldsAreExact =
    (nodes : ℕ) (config : Config) (clients : List Client) (world : ByteWorld) →
    ClientsAreApart clients → (trail : Reached nodes config clients world) → IsExact trail
