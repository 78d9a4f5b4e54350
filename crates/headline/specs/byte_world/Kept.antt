-- The sessions of a world's clients are kept: no Connect in the list on which its nodes agree asks
-- for a clean session (MQTT 3.1.2.4).
use Rattle.std.specs.Prelude.{◌≡◌, Bool, false, ℕ, List, ◌∷◌, Some}
use Rattle.ballot_base.specs.declared.config.Config.{Config}
use Rattle.lists.specs.Lists.{In, IsPrefixOf}
use Rattle.broker_spec.specs.declared.command.Command.{Command}
use Rattle.broker_spec.specs.declared.command.Command.TheVariants as commands
use Rattle.broker_spec.specs.Commands.{past_of, usual_limits}
use Rattle.broker_spec.specs.Connection.{ConnectionName}
use Rattle.broker_spec.specs.Sessions.{clean_session_of}
use Rattle.broker_spec.specs.Place.{Client}
use Rattle.agreement.specs.cut_logs.Moments.{IsAgreed}
use Rattle.headline.specs.node_group.Group.{moment_of_nodes}
use Rattle.headline.specs.node_group.Steps.{all_proposed, groups_on_trace}
use Rattle.headline.specs.node_group.GroupMoments.{HasMoments}
use Rattle.headline.specs.byte_world.Carried.{trace_of}
use Rattle.headline.specs.byte_world.Steps.{Reached}
use Rattle.headline.specs.byte_world.World.{ByteWorld}

-- none of these commands is a Connect that asks for a clean session
abbrev pub NoneIsClean : List Command → Type 0
NoneIsClean list =
    (name : ConnectionName) (client : Client) (clean : Bool) →
    In (commands.Connect name client clean) list →
    clean ≡ false

-- no list that is agreed at the end of the group's steps on the way to the world has a Connect that
-- asks for a clean session
pub record AsksForNoneClean {nodes : ℕ} {config : Config} {clients : List Client}
    {world : ByteWorld} (trail : Reached nodes config clients world) : Type 0 where
  pub of : HasMoments config world.group (groups_on_trace (trace_of trail))
      (all_proposed (trace_of trail))
  pub none : (agreed : List Command) →
      IsAgreed config (moment_of_nodes world.group ∷ of.earlier) agreed →
      NoneIsClean agreed

-- in each world that can be reached no agreed list asks for a clean session
abbrev pub NoConnectIsClean : Type 0
NoConnectIsClean =
    (nodes : ℕ) (config : Config) (clients : List Client) (world : ByteWorld)
    (trail : Reached nodes config clients world) → AsksForNoneClean trail

-- if no Connect of a list asks for a clean session, no session that a client has after any prefix
-- of the list is clean
abbrev pub NoSessionIsClean : Type 0
NoSessionIsClean =
    (list : List Command) → NoneIsClean list → (front : List Command) → IsPrefixOf front list →
    (client : Client) (clean : Bool) →
    clean_session_of (past_of usual_limits front) client ≡ Some clean → clean ≡ false
