-- A node proposes a Connect only for a connection on which that CONNECT came first.
use Rattle.std.specs.Prelude.{◌≡◌, ℕ, Bool, List, Ok}
use Rattle.lists.specs.Lists.{In}
use Rattle.packet.specs.Verdict.{verdict}
use Rattle.packet.specs.declared.connect.Connect.{Connect}
use Rattle.packet.specs.declared.packet.Packet.TheVariants as packets
use Rattle.ballot_base.specs.declared.config.Config.{Config}
use Rattle.agreement.specs.Proposals.{commands_of}
use Rattle.broker_spec.specs.Connection.{ConnectionName}
use Rattle.broker_spec.specs.Place.{Client}
use Rattle.broker_spec.specs.declared.command.Command.TheVariants as commands
use Rattle.headline.specs.node_group.Group.{Group}
use Rattle.headline.specs.node_group.Steps.{GroupTrace, all_proposed}
use Rattle.headline.specs.node_group.Streams.{came_up}
use Rattle.one_client.specs.Calls.{AreFaithful}

-- the bytes begin with a CONNECT of this client
pub record ConnectsAs (bytes : List ℕ) (client : Client) : Type 0 where
  pub connect : Connect
  pub rest : List ℕ
  pub first : verdict bytes ≡ Ok (packets.Connect connect, rest)
  pub is : connect.client ≡ client

-- whatever bytes come to the nodes, if one proposes a Connect under a name, the bytes that came on
-- the connection of this name begin with a CONNECT of its client
abbrev pub ConnectsCameFirst : Type 0
ConnectsCameFirst =
    (nodes : ℕ) (config : Config) (group : Group) (went : GroupTrace nodes config group)
    (name : ConnectionName) (client : Client) (clean : Bool) → AreFaithful went →
    In (commands.Connect name client clean) (commands_of (all_proposed went)) →
    ConnectsAs (came_up name went) client
