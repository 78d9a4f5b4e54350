-- A connection's stream, wherever its token is kept.
use Rattle.std.specs.Prelude.{◌≡◌, ℕ, ◌==◌, Bool, Option, None, Some, if◌then◌else◌}
use Rattle.ballot_base.specs.declared.config.Config.{Config}
use Rattle.world_base.specs.declared.node_connections.port.Port.{Port}
use Rattle.node_base.specs.connection.Whole.{OutflowView, IsWhole}
use Rattle.streams.specs.Taps.{HandsNone, HandsOut, TapView}
use Rattle.streams.specs.declared.socket.Socket.{Socket}

-- All that the tap's node handed over for its port, from the first byte on, by a prefix of the run's
-- log, is what was written on the socket, followed by what is left. Nothing else is known of the
-- socket's bytes.
abbrev pub HasWholeStream : Bool → ℕ → Config → OutflowView TapView Socket → Type 0
HasWholeStream linked nodes config token =
    IsWhole (HandsNone nodes config) (HandsOut linked nodes config) token.tap None token.left

-- this token writes what is handed over for a port
abbrev pub IsTokenOf : Port → OutflowView TapView Socket → Type 0
IsTokenOf port token = token.tap.port.0 ≡ port.0

-- the token that is kept, if it is the port's
abbrev pub token_of :
    Port → Option (OutflowView TapView Socket) → Option (OutflowView TapView Socket)
token_of port None = None
token_of port (Some token) = if token.tap.port.0 == port.0 then Some token else None
