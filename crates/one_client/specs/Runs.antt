-- What is promised to a client of nodes whose steps are on record, as those of a server are.
use Rattle.std.specs.Prelude.{ℕ, List}
use Rattle.ballot_base.specs.declared.config.Config.{Config}
use Rattle.broker_spec.specs.Place.{Client}
use Rattle.headline.specs.byte_world.World.{ClientPipes}
use Rattle.run_history.specs.declared.event.RunEvent.{RunEvent}
use Rattle.run_history.specs.History.{IsHistory}
use Rattle.one_client.specs.Along.{Along}
use Rattle.one_client.specs.Ports.{HasOwnPorts, IsPromisedAtPorts, NobodyElseConnects}

-- The log is a run of the model. Each client that keeps its side along the steps of that run is
-- promised the same, if its connections have ports of their own, and nobody else uses its
-- identifier.
abbrev pub ClientsOfRunsArePromised : Type 0
ClientsOfRunsArePromised =
    (nodes : ℕ) (config : Config) (log : List RunEvent) (history : IsHistory nodes config log)
    (client : Client) (one : ClientPipes)
    (along : Along nodes config client history.group history.went one) →
    HasOwnPorts history.went one.pipes → NobodyElseConnects client history.went one.pipes →
    IsPromisedAtPorts along
