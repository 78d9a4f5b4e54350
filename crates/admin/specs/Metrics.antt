-- The metrics, in the text format of Prometheus (version 0.0.4).
use Rattle.std.specs.Prelude.{◌≡◌, ℕ, List, [], ◌++◌, Option, Some, None, Result, OnOk, codes, decimal}
use Rattle.std.specs.List.{flat_map}
use Rattle.admin.specs.declared.view.AdminView.{AdminView}
use Rattle.admin.specs.declared.view.Counters.{Counters}
use Rattle.admin.specs.declared.view.Details.{Details}
use Rattle.admin.specs.declared.view.Filled.{Filled}
use Rattle.admin.specs.declared.view.NodeLine.{NodeLine}
use Rattle.admin.specs.declared.view.OrderCounts.{OrderCounts}
use Rattle.admin.specs.declared.view.RefusalCount.{RefusalCount}

-- this text was appended, if memory did not run out
pub record AddsText {E : Type 0} (r : Result (Unit {0}) E) (old new text : List ℕ) : Type 0 where
  pub added : OnOk r (new ≡ old ++ text)

-- the help and the type of a metric
abbrev pub head_text : List ℕ → List ℕ → List ℕ → List ℕ
head_text name kind help = codes "# HELP vbroker_" ++ (name ++ (codes " " ++ (help
    ++ (codes "\n# TYPE vbroker_" ++ (name ++ (codes " " ++ (kind ++ codes "\n")))))))

-- a metric with one value
abbrev pub metric_text : List ℕ → List ℕ → List ℕ → ℕ → List ℕ
metric_text name kind help value = head_text name kind help
    ++ (codes "vbroker_" ++ (name ++ (codes " " ++ (decimal value ++ codes "\n"))))

-- the help and the type of the metric with a limit
abbrev pub limit_head_text : List ℕ → List ℕ
limit_head_text name = codes "# HELP vbroker_" ++ (name
    ++ (codes "_limit At most.\n# TYPE vbroker_" ++ (name ++ codes "_limit gauge\n")))

-- the metric with a limit
abbrev pub limit_text : List ℕ → ℕ → List ℕ
limit_text name limit = limit_head_text name
    ++ (codes "vbroker_" ++ (name ++ (codes "_limit " ++ (decimal limit ++ codes "\n"))))

-- a level, and its limit
abbrev pub level_text : List ℕ → List ℕ → Filled → List ℕ
level_text name help filled =
    metric_text name (codes "gauge") help filled.count ++ limit_text name filled.limit

-- a count since the start
abbrev pub count_text : List ℕ → List ℕ → ℕ → List ℕ
count_text name help count = metric_text name (codes "counter") help count

-- a sample with a label whose value is a number
abbrev pub labelled_text : List ℕ → List ℕ → ℕ → ℕ → List ℕ
labelled_text name label number value =
    codes "vbroker_" ++ (name ++ (codes "{" ++ (label ++ (codes "=\"" ++ (decimal number
    ++ (codes "\"} " ++ (decimal value ++ codes "\n")))))))

-- what fills up, each with its limit
abbrev pub filled_text : Counters → List ℕ
filled_text counters =
    level_text (codes "connections") (codes "Connections.") counters.connections
    ++ level_text (codes "sessions") (codes "Sessions.") counters.sessions
    ++ level_text (codes "retained") (codes "Retained messages.") counters.retained
    ++ level_text (codes "longest_queue") (codes "Messages in it.") counters.queue

-- what was counted since the start
abbrev pub counts_text : Counters → List ℕ
counts_text counters =
    count_text (codes "publications_total") (codes "Taken.") counters.publications
    ++ count_text (codes "losses_total") (codes "Steps without memory.") counters.losses
    ++ count_text (codes "received_bytes_total") (codes "Of clients.") counters.received_bytes
    ++ count_text (codes "sent_bytes_total") (codes "For clients.") counters.sent_bytes

-- levels and counts
abbrev pub counters_text : Counters → List ℕ
counters_text counters = filled_text counters ++ counts_text counters

-- what only a look into the nodes shows, if somebody looked
abbrev pub details_text : Option Details → List ℕ
details_text None = []
details_text (Some details) = counters_text details.counters

-- how often an order was refused with a number
abbrev pub refused_text : RefusalCount → List ℕ
refused_text refusal =
    labelled_text (codes "refusals_total") (codes "number") refusal.number refusal.count

-- the same of each number
abbrev pub refusals_text : List RefusalCount → List ℕ
refusals_text refusals =
    head_text (codes "refusals_total") (codes "counter") (codes "Of orders.")
    ++ flat_map refused_text refusals

-- what orders did
abbrev pub orders_text : OrderCounts → List ℕ
orders_text orders = count_text (codes "takeovers_total") (codes "Takeovers.") orders.takeovers
    ++ refusals_text orders.refusals.items

-- how many commands a node holds
abbrev pub held_text : NodeLine → List ℕ
held_text node = labelled_text (codes "commands_held") (codes "node") node.number node.held

-- of how many a node knows that all members hold them
abbrev pub committed_text : NodeLine → List ℕ
committed_text node =
    labelled_text (codes "commands_committed") (codes "node") node.number node.committed

-- the same of each node
abbrev pub nodes_text : List NodeLine → List ℕ
nodes_text nodes =
    head_text (codes "commands_held") (codes "gauge") (codes "Held by a node.")
    ++ flat_map held_text nodes
    ++ head_text (codes "commands_committed") (codes "gauge") (codes "As a node knows.")
    ++ flat_map committed_text nodes

-- the page `/metrics`
abbrev pub metrics_text : AdminView → List ℕ
metrics_text view =
    details_text view.details ++ orders_text view.orders ++ nodes_text view.nodes.items
