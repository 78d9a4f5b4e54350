-- What nodes propose for connections on which any bytes come.
use Rattle.std.specs.Prelude.{◌≡◌, ℕ, ◌≤◌, true, List, ◌∷◌, filter, length}
use Rattle.ballot_base.specs.declared.config.Config.{Config}
use Rattle.broker_spec.specs.Connection.{ConnectionName}
use Rattle.broker_spec.specs.EndingTheorems.{is_connect_of}
use Rattle.broker_spec.specs.Logged.{IsBrokerCommand}
use Rattle.broker_spec.specs.declared.command.Command.{Command}
use Rattle.broker_spec.specs.declared.command.Command.TheVariants as commands
use Rattle.lists.specs.Lists.{Each, In}
use Rattle.agreement.specs.Proposals.{commands_of}
use Rattle.agreement.specs.cut_logs.Moments.{IsAgreed}
use Rattle.headline.specs.node_group.Group.{Group, moment_of_nodes}
use Rattle.headline.specs.node_group.GroupMoments.{HasMoments}
use Rattle.headline.specs.node_group.Steps.{GroupTrace, all_proposed, groups_on_trace}
use Rattle.headline.specs.packet_world.Steps.{is_of_connection}
use Rattle.one_client.specs.Calls.{AreFaithful, BringsBytes, calls_on}

-- a packet, or a CONNECT, is in its ranges; another command may name any connection or client
abbrev pub IsInRange : Command → Type 0
IsInRange (commands.Connect name client clean) =
    IsBrokerCommand (commands.Connect name client clean)
IsInRange (commands.Packet name packet) = IsBrokerCommand (commands.Packet name packet)
IsInRange (commands.Lost name) = Unit {0}
IsInRange (commands.Start ballot) = Unit {0}
IsInRange (commands.Expel client) = Unit {0}

-- whatever bytes come to the nodes, each packet that they propose is in its ranges
abbrev pub ProposalsAreInRange : Type 0
ProposalsAreInRange =
    (nodes : ℕ) (config : Config) (group : Group) (went : GroupTrace nodes config group) →
    AreFaithful went → Each BringsBytes (calls_on went) →
    Each IsInRange (commands_of (all_proposed went))

-- whatever bytes come to the nodes, they propose at most one Connect under each name
abbrev pub NamesConnectOnce : Type 0
NamesConnectOnce =
    (nodes : ℕ) (config : Config) (group : Group) (went : GroupTrace nodes config group)
    (name : ConnectionName) → AreFaithful went → Each BringsBytes (calls_on went) →
    length (filter (is_connect_of name) (commands_of (all_proposed went))) ≤ 1

-- each packet in a list on which nodes agree was proposed by a node; so nobody else uses a client's
-- identifier in such a list if no node proposes a Connect with it on another connection
abbrev pub AgreedPacketsWereProposed : Type 0
AgreedPacketsWereProposed =
    (nodes : ℕ) (config : Config) (group : Group) (went : GroupTrace nodes config group)
    (of : HasMoments config group (groups_on_trace went) (all_proposed went))
    (list : List Command) → IsAgreed config (moment_of_nodes group ∷ of.earlier) list →
    (command : Command) → In command list → is_of_connection command ≡ true →
    In command (commands_of (all_proposed went))
