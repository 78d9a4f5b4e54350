-- What is promised to one client among others that do as they like.
use Rattle.std.specs.Prelude.{◌≡◌, ℕ, Bool, true, List, ◌∷◌}
use Rattle.lists.specs.Lists.{In}
use Rattle.ballot_base.specs.declared.config.Config.{Config}
use Rattle.broker_spec.specs.Connection.{ConnectionName, same_connection}
use Rattle.broker_spec.specs.Place.{Client}
use Rattle.broker_spec.specs.declared.command.Command.{Command}
use Rattle.broker_spec.specs.declared.command.Command.TheVariants as commands
use Rattle.client_base.specs.State.{ClientState}
use Rattle.exactly_once.specs.Sides.{ClientConnection}
use Rattle.exactly_once.specs.StoryCommands.{any_named}
use Rattle.agreement.specs.cut_logs.Moments.{IsAgreed}
use Rattle.headline.specs.Exact.{IsShownBy}
use Rattle.headline.specs.Promise.{Promise}
use Rattle.headline.specs.byte_world.World.{ClientPipes}
use Rattle.headline.specs.node_group.Group.{Group, moment_of_nodes}
use Rattle.headline.specs.node_group.GroupMoments.{HasMoments}
use Rattle.headline.specs.node_group.Steps.{GroupTrace, all_proposed, groups_on_trace}
use Rattle.one_client.specs.Along.{Along, published_along}
use Rattle.one_client.specs.Names.{AreNamed}

-- nobody else uses the client's identifier: each Connect in the list that has it is on one of the
-- client's connections
abbrev pub IsAlone : Client → List ClientConnection → List Command → Type 0
IsAlone client connections list =
    (name : ConnectionName) (clean : Bool) → In (commands.Connect name client clean) list →
    any_named (same_connection name) connections ≡ true

-- The client gets what is promised, by each list on which the nodes agree at the end of the steps
-- and in which nobody else uses its identifier. There is a list on which they agree.
pub record IsPromised {nodes : ℕ} {config : Config} {client : Client} {group : Group}
    {went : GroupTrace nodes config group} {one : ClientPipes}
    (along : Along nodes config client group went one) : Type 0 where
  pub of : HasMoments config group (groups_on_trace went) (all_proposed went)
  pub agreed : List Command
  pub is_agreed : IsAgreed config (moment_of_nodes group ∷ of.earlier) agreed
  pub promises : (list : List Command) → IsAgreed config (moment_of_nodes group ∷ of.earlier) list →
      IsAlone client one.connections list → (state : ClientState) → IsShownBy one state →
      Promise one.connections (published_along along) list state

-- In all steps of any group, each client that keeps its side is promised the same as a client of a
-- world in which all clients keep theirs. Nothing is asked of the other clients but that none uses
-- its identifier.
abbrev pub OneClientIsPromised : Type 0
OneClientIsPromised =
    (nodes : ℕ) (config : Config) (client : Client) (group : Group)
    (went : GroupTrace nodes config group) (one : ClientPipes)
    (along : Along nodes config client group went one) →
    AreNamed went one.connections one.pipes → IsPromised along
