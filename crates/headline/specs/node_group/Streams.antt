-- The bytes of a connection in a group of nodes: what came up on it, and what was handed over to go
-- down.
use Rattle.std.specs.Prelude.{ℕ, if◌then◌else◌, List, [], ◌++◌, Option, Some, None}
use Rattle.ballot_base.specs.declared.config.Config.{Config}
use Rattle.broker_spec.specs.Connection.{ConnectionName, same_connection}
use Rattle.world_base.specs.declared.node_connections.connection.Connection.{Connection}
use Rattle.world_base.specs.node_core.Core.{CoreState, StepOutcome}
use Rattle.world_base.specs.node_core.PortOutput.{listed_at}
use Rattle.headline.specs.node_moves.RunProposals.{bytes_on}
use Rattle.headline.specs.node_moves.ItemRuns.{came_with}
use Rattle.headline.specs.node_moves.Moves.{NodeMove, MoveTrace}
use Rattle.headline.specs.node_moves.Moves.NodeMove.{hands}
use Rattle.headline.specs.node_moves.Moves.MoveTrace.{rests, goes_on}
use Rattle.headline.specs.node_group.Group.{Group}
use Rattle.headline.specs.node_group.Steps.{GroupStep, GroupTrace}
use Rattle.headline.specs.node_group.Steps.GroupStep.{node_acts, node_loses, master_assigns, master_hears, assigns_unheard, answers_unheard}
use Rattle.headline.specs.node_group.Steps.GroupTrace.{opened, then_went}

-- ---- up

-- what comes on the connection of a name, at any node
abbrev pub comes_up : ConnectionName → {group next : Group} → GroupStep group next → List ℕ
comes_up connection (node_acts node core node_call outcome run at is first sent) =
    bytes_on connection run
comes_up connection (node_loses node core item outcome kept by at runs sent thinned) =
    came_with connection item core
comes_up connection (master_assigns config) = []
comes_up connection (master_hears from ballot sent) = []
comes_up connection (assigns_unheard config) = []
comes_up connection (answers_unheard from ballot sent) = []

-- what came up on a connection in all steps, in order
abbrev pub came_up : ConnectionName → {nodes : ℕ} {config : Config} {group : Group} →
    GroupTrace nodes config group → List ℕ
came_up connection (opened greatest can) = []
came_up connection (then_went went step) = came_up connection went ++ comes_up connection step

-- ---- down

-- the bytes that are queued on a connection, if it has this name
abbrev pub bytes_named : ConnectionName → Option Connection → List ℕ
bytes_named named None = []
bytes_named named (Some connection) =
    if same_connection connection.name named then connection.pending else []

-- what is handed over on a connection in a move
abbrev pub handed_on : ConnectionName → {core : CoreState} {outcome : StepOutcome} →
    NodeMove core outcome → List ℕ
handed_on connection {core = core} (hands port) = bytes_named connection (listed_at port core)
handed_on connection _ = []

-- what is handed over on a connection in a run, in order
abbrev pub handed_in_run : ConnectionName → {core : CoreState} {outcome : StepOutcome} →
    MoveTrace core outcome →
    List ℕ
handed_in_run connection rests = []
handed_in_run connection (goes_on move run) =
    handed_on connection move ++ handed_in_run connection run

-- what is handed over on a connection in a step of a group: nothing if an item is taken with losses
abbrev pub goes_down : ConnectionName → {group next : Group} → GroupStep group next → List ℕ
goes_down connection (node_acts node core node_call outcome run at is first sent) =
    handed_in_run connection run
goes_down connection (node_loses node core item outcome kept by at runs sent thinned) = []
goes_down connection (master_assigns config) = []
goes_down connection (master_hears from ballot sent) = []
goes_down connection (assigns_unheard config) = []
goes_down connection (answers_unheard from ballot sent) = []

-- what went down on a connection in all steps, in order
abbrev pub went_down : ConnectionName → {nodes : ℕ} {config : Config} {group : Group} →
    GroupTrace nodes config group → List ℕ
went_down connection (opened greatest can) = []
went_down connection (then_went went step) = went_down connection went ++ goes_down connection step
