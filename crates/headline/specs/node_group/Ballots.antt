-- In which ballot the packets of a connection are proposed to a replica.
use Rattle.std.specs.Prelude.{◌≡◌, ℕ, true}
use Rattle.lists.specs.Lists.{Each}
use Rattle.ballot_base.specs.declared.config.Config.{Config}
use Rattle.broker_spec.specs.declared.command.Command.{Command}
use Rattle.broker_spec.specs.Connection.{ConnectionName}
use Rattle.exactly_once.specs.StoryCommands.{is_packet_of}
use Rattle.headline.specs.node_group.Group.{Group}
use Rattle.headline.specs.node_group.Steps.{GroupTrace, all_proposed}

-- a packet of a connection, its CONNECT too, with the ballot that the connection's name has
abbrev pub IsInItsBallot : ℕ × Command → Type 0
IsInItsBallot put =
    (connection : ConnectionName) → is_packet_of put.1 connection ≡ true →
    connection.ballot ≡ put.0

-- all that nodes of a group propose for a connection is proposed in the ballot of its name
abbrev pub PutsInTheBallotOfTheName : Type 0
PutsInTheBallotOfTheName =
    (nodes : ℕ) (config : Config) (group : Group) (went : GroupTrace nodes config group) →
    Each IsInItsBallot (all_proposed went)
