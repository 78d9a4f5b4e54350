-- What holds for every world of clients and nodes.
use Rattle.std.specs.Prelude.{◌≤◌, ℕ, suc, List, [], ◌∷◌, length, filter}
use Rattle.broker_spec.specs.Connection.{ConnectionName}
use Rattle.broker_spec.specs.Place.{Client}
use Rattle.broker_spec.specs.Commands.{past_of, usual_limits}
use Rattle.broker_spec.specs.EndingTheorems.{connects_of, EndsWithTheSession}
use Rattle.broker_spec.specs.declared.command.Command.{Command}
use Rattle.lists.specs.Lists.{Each, IsPrefixOf}
use Rattle.client_base.specs.Keeper.{Written}
use Rattle.exactly_once.specs.Sends.{put_to}
use Rattle.exactly_once.specs.Sides.{ClientConnection}
use Rattle.exactly_once.specs.StoryCommands.{command_of, is_packet_of}
use Rattle.exactly_once.specs.InStep.{IsInStep}
use Rattle.exactly_once.specs.LivesAreExact.{ExactlyOnceOverSessions}
use Rattle.headline.specs.packet_world.World.{End, ClientEnds, PacketWorld, story_of, ClientsAreApart}
use Rattle.headline.specs.packet_world.Steps.{Reached}

-- the commands that a connection's written packets become
abbrev pub commands_from : ConnectionName → ℕ → List Written → List Command
commands_from name count (written ∷ more) =
    command_of name count written.packet ∷ commands_from name (suc count) more
commands_from name count [] = []

-- A connection's commands in the agreed list are a prefix of what its client wrote, in order. What
-- its node sent is a prefix of the answers to it, and its client handled a prefix of that.
pub record PipeInOrder (agreed : List Command) (connection : ClientConnection)
    (end : End) : Type 0 where
  pub up : IsPrefixOf (filter (λ command. is_packet_of command connection.name) agreed)
      (commands_from connection.name 0 connection.written)
  pub down : IsPrefixOf end.put (put_to usual_limits (past_of usual_limits agreed) connection.name)
  pub handled : connection.handled ≤ length end.put

-- `PipeInOrder` of each connection of a client and the node's end of it
abbrev pub PipesInOrder : List Command → List ClientConnection → List End → Type 0
PipesInOrder agreed (connection ∷ connections) (end ∷ ends) =
    PipeInOrder agreed connection end × PipesInOrder agreed connections ends
PipesInOrder agreed [] [] = Unit {0}
PipesInOrder agreed _ _ = ⊥

-- what a client is promised over its sessions, as long as it is in step
abbrev pub IsExactInStep : List Command → ClientEnds → Type 0
IsExactInStep agreed client =
    IsInStep (story_of agreed client) →
    ExactlyOnceOverSessions usual_limits (story_of agreed client)

-- what is promised in a world: for its connections, its clients, and ended sessions
pub record PacketWorldIsExact (world : PacketWorld) : Type 0 where
  -- connections carry packets in order, both ways
  pub pipes : Each
      (λ (client : ClientEnds). PipesInOrder world.agreed client.connections client.ends)
      world.clients
  -- the publications of each client that is in step are published once, and it accepts in order in
  -- each of its sessions
  pub clients : Each (IsExactInStep world.agreed) world.clients
  -- an ended session gets nothing more, since each connection has a name of its own
  pub names : (name : ConnectionName) → connects_of name (past_of usual_limits world.agreed) ≤ 1
  pub sessions : EndsWithTheSession usual_limits (past_of usual_limits world.agreed)

-- each world that clients with identifiers of their own reach is exact
abbrev pub PacketWorldsAreExact : Type 0
PacketWorldsAreExact =
    (clients : List Client) (world : PacketWorld) → ClientsAreApart clients →
    Reached clients world → PacketWorldIsExact world
