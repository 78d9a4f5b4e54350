-- A client whose session was kept is answered with session present after the start of a ballot, and
-- its connection is not closed (MQTT 3.1.2.4, 3.2.2.2).
use Rattle.std.specs.Prelude.{◌≡◌, ℕ, true, false, List, [], ◌∷◌, ◌++◌, Some}
use Rattle.lists.specs.Lists.{Each}
use Rattle.machine.specs.Machine.{replay}
use Rattle.broker_spec.specs.Answers.{welcome}
use Rattle.broker_spec.specs.declared.command.Command.{Command}
use Rattle.broker_spec.specs.declared.command.Command.TheVariants as commands
use Rattle.broker_spec.specs.Commands.{past_of, usual_limits}
use Rattle.broker_spec.specs.Connection.{ConnectionName}
use Rattle.broker_spec.specs.declared.command.Output.{Output}
use Rattle.broker_spec.specs.declared.command.Output.TheVariants.{Send, Close}
use Rattle.broker_spec.specs.Sessions.{clean_session_of}
use Rattle.broker_spec.specs.Place.{Client}
use Rattle.world_base.specs.node_core.Core.{rules}

-- an output that is a packet for this connection
abbrev pub IsSentTo : ConnectionName → Output → Type 0
IsSentTo connection (Send receiver packet) = receiver ≡ connection
IsSentTo connection (Close receiver) = ⊥

-- after these commands and the start of a ballot a Connect is answered with CONNACK 0 and session
-- present, and then only with packets
pub record IsWelcomedBack (list : List Command) (ballot : ℕ) (connection : ConnectionName)
    (client : Client) : Type 0 where
  pub rest : List Output
  pub gives : rules.gives (replay rules (list ++ commands.Start ballot ∷ []))
      (commands.Connect connection client false) ≡ welcome connection true ∷ rest
  pub sent : Each (IsSentTo connection) rest

-- each client whose session exists and is not clean is welcomed back
abbrev pub KeptSessionsAreWelcomed : Type 0
KeptSessionsAreWelcomed =
    (list : List Command) (ballot : ℕ) (connection : ConnectionName) (client : Client) →
    clean_session_of (past_of usual_limits list) client ≡ Some false →
    IsWelcomedBack list ballot connection client
