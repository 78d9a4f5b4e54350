-- A client's connections, by the names that the broker knows them by.
use Rattle.broker_spec.specs.Connection.{ConnectionName}
use Rattle.client_base.specs.Keeper as keeper

-- a connection that the client opened, with what it wrote and received on it
abbrev pub ClientConnection : Type 0
ClientConnection = keeper.ClientConnection ConnectionName

-- the client's side of one connection
abbrev pub Side : Type 0
Side = keeper.Side ConnectionName
