-- How often the nodes of a run were told that a connection was opened at a port.
use Rattle.std.specs.Prelude.{ℕ, ◌+◌, ◌≤◌, ◌==◌, Bool, false, if◌then◌else◌, List, [], ◌∷◌}
use Rattle.ballot_base.specs.declared.config.Config.{Config}
use Rattle.run_history.specs.Log.{items_taken}
use Rattle.world_base.specs.declared.node_connections.port.Port.{Port}
use Rattle.world_base.specs.declared.node_core.item.Item.{Item}
use Rattle.world_base.specs.declared.node_core.item.Item.TheVariants.{Opened}
use Rattle.server.specs.Ends.{IsServedRun}
use Rattle.server.specs.declared.served_run.ServedRun.{ServedRun}

-- whether an item tells that a connection was opened at the port
abbrev pub tells_opened : Port → Item → Bool
tells_opened port (Opened at now) = at.0 == port.0
tells_opened port item = false

-- how many of these items tell so
abbrev pub openings_at : Port → List Item → ℕ
openings_at port [] = 0
openings_at port (item ∷ items) =
    (if tells_opened port item then 1 else 0) + openings_at port items

-- By the log of a run that was served, each node took once at most that a connection was opened at a
-- port: no port of a node is used for two connections.
abbrev pub PortsComeOnce : Type 0
PortsComeOnce =
    (config : Config) (numbers : List ℕ) (run : ServedRun) → IsServedRun config numbers run →
    (number : ℕ) (port : Port) → openings_at port (items_taken number run.log) ≤ 1
