-- What is promised to a client of nodes that were served.
use Rattle.std.specs.Prelude.{◌≡◌, ℕ, false, List, [], ◌∷◌}
use Rattle.std.specs.List.{list_any}
use Rattle.ballot_base.specs.LawfulConfig.{max_node}
use Rattle.ballot_base.specs.declared.config.Config.{Config}
use Rattle.broker_spec.specs.Place.{Client}
use Rattle.headline.specs.byte_world.World.{ClientPipes, Pipe, leads_to}
use Rattle.one_client.specs.Along.{Along}
use Rattle.one_client.specs.Ports.{IsPromisedAtPorts, NobodyElseConnects}
use Rattle.server.specs.Ends.{IsServedRun}
use Rattle.server.specs.declared.served_run.ServedRun.{ServedRun}

-- no two of these pipes lead to one port of a node
abbrev pub LeadApart : List Pipe → Type 0
LeadApart [] = Unit {0}
LeadApart (pipe ∷ pipes) =
    (list_any (leads_to pipe.node pipe.port) pipes ≡ false) × LeadApart pipes

-- The nodes of a run were served. Each client that keeps its side along the steps of that run is
-- promised the same as in any run, if no two of its connections have one port, and nobody else uses
-- its identifier: that a port is used for one connection is what the server does.
abbrev pub ServedClientsArePromised : Type 0
ServedClientsArePromised =
    (config : Config) (numbers : List ℕ) (run : ServedRun)
    (served : IsServedRun config numbers run) (client : Client) (one : ClientPipes)
    (along : Along max_node config client served.history.group served.history.went one) →
    LeadApart one.pipes → NobodyElseConnects client served.history.went one.pipes →
    IsPromisedAtPorts along
