-- Calmly.antt: a step on an item that takes no memory says nothing, and puts nothing out.
use Rattle.std.proofs.Common.{◌≡◌, ◌⊎◌, inl, inr, Bool, true, false, if◌then◌else◌, Option, Some, None, List, [], ◌∷◌, length, map, refl, sym, ap, subst, ◌∙◌}
use Rattle.std.specs.List.{filter, find}
use Rattle.lists.specs.Lists.{Each}
use Rattle.broker_spec.specs.declared.command.Command.{Command}
use Rattle.broker_spec.specs.declared.command.Output.{Output}
use Rattle.ballot_base.specs.declared.message.Effect.{Effect}
use Rattle.ballot_base.specs.declared.message.Message.{Message}
use Rattle.ballot_base.specs.Protocol.Input.{Receives}
use Rattle.world_base.specs.declared.node_connections.port.Port.{Port}
use Rattle.world_base.specs.declared.node_connections.connection.Connection.{Connection}
use Rattle.world_base.specs.node_connections.Connections.{has_failed, is_at, is_listed, is_open_at}
use Rattle.world_base.specs.node_connections.ConnectionChanges.{changed_where, closed_connection, nothing_pending}
use Rattle.world_base.specs.declared.node_core.item.Item.{Item}
use Rattle.world_base.specs.declared.node_core.item.Item.TheVariants.{Peer, Tick, Opened, Bytes, Ended, Expel, Cut, Crash}
use Rattle.world_base.specs.node_core.Core.{CoreState, StepOutcome, serves}
use Rattle.world_base.specs.node_core.FailedConnections.{reports_all_failed, reports_failed}
use Rattle.world_base.specs.node_connections.PendingOutput.{pending_bytes}
use Rattle.world_base.specs.node_core.PortOutput.{hands_over, left_by, listed_at}
use Rattle.world_base.specs.node_core.Losses.{IsHeardQuietly, IsIgnored, ReadsNone, ItemTakesNoMemory, WaitsNothing, was_proposed}
use Rattle.world_base.specs.node_core.PacketInput.{changes, port_closed, loses_open, open_at}
use Rattle.world_base.specs.node_core.Step.{acts_on, crashed, node_step, settled, does_item}
use Rattle.world_base.specs.node_core.Effects.{handled_all, drives, outcome_of_input, without_messages, then_also}
use Rattle.world_base.proofs.of_node_core.Failures.{failed_next}
use Rattle.world_base.proofs.of_node_core.Idle.{closing_fails_none, repeated_without_messages, takes_nothing}

-- ---- what waits to be handed over

closing_keeps : (test : Connection → Bool) (cs : List Connection) → Each (λ (c : Connection). c.pending ≡ []) cs → Each (λ (c : Connection). c.pending ≡ []) (changed_where test closed_connection cs)
closing_keeps test [] each = tt
closing_keeps test (c ∷ cs) each = by (test c) (closing_keeps test cs each.1)
  where
    by : (b : Bool) → Each (λ (c : Connection). c.pending ≡ []) (changed_where test closed_connection cs)
        → Each (λ (c : Connection). c.pending ≡ []) (if b then closed_connection c ∷ cs else c ∷ changed_where test closed_connection cs)
    by true rest = (each.0, each.1)
    by false rest = (each.0, rest)

all_closed : (cs : List Connection) → Each (λ (c : Connection). c.pending ≡ []) cs → Each (λ (c : Connection). c.pending ≡ []) (map closed_connection cs)
all_closed [] each = tt
all_closed (c ∷ cs) each = (each.0, all_closed cs each.1)

some_left : (test : Connection → Bool) (cs : List Connection) → Each (λ (c : Connection). c.pending ≡ []) cs → Each (λ (c : Connection). c.pending ≡ []) (filter test cs)
some_left test [] each = tt
some_left test (c ∷ cs) each = by (test c) (some_left test cs each.1)
  where
    by : (b : Bool) → Each (λ (c : Connection). c.pending ≡ []) (filter test cs) → Each (λ (c : Connection). c.pending ≡ []) (if b then c ∷ filter test cs else filter test cs)
    by true rest = (each.0, rest)
    by false rest = rest

settled_waits : (core : CoreState) → WaitsNothing core → WaitsNothing (settled core)
unfolding settled
settled_waits core each = by (serves core)
  where
    by : (b : Bool) → Each (λ (c : Connection). c.pending ≡ []) (filter is_listed (if b then core.connections else map closed_connection core.connections))
    by true = some_left is_listed core.connections each
    by false = some_left is_listed (map closed_connection core.connections) (all_closed core.connections each)

handed_waits : (test : Connection → Bool) (cs : List Connection) → Each (λ (c : Connection). c.pending ≡ []) cs → Each (λ (c : Connection). c.pending ≡ []) (changed_where test nothing_pending cs)
handed_waits test [] each = tt
handed_waits test (c ∷ cs) each = by (test c) (handed_waits test cs each.1)
  where
    by : (b : Bool) → Each (λ (c : Connection). c.pending ≡ []) (changed_where test nothing_pending cs)
        → Each (λ (c : Connection). c.pending ≡ []) (if b then nothing_pending c ∷ cs else c ∷ changed_where test nothing_pending cs)
    by true rest = (refl, each.1)
    by false rest = (each.0, rest)

none_waits : (test : Connection → Bool) (cs : List Connection) → Each (λ (c : Connection). c.pending ≡ []) cs → pending_bytes (find test cs) ≡ []
none_waits test [] each = refl
none_waits test (c ∷ cs) each = by (test c) (none_waits test cs each.1)
  where
    by : (b : Bool) → pending_bytes (find test cs) ≡ [] → pending_bytes (if b then Some c else find test cs) ≡ []
    by true rest = each.0
    by false rest = rest

-- nothing is handed over if nothing waits
pub nothing_handed : (port : Port) (core : CoreState) → WaitsNothing core → pending_bytes (listed_at port core) ≡ []
nothing_handed port core each = none_waits (is_at port) core.connections each

pub hands_over_waits : (port : Port) (core : CoreState) → WaitsNothing core → WaitsNothing (hands_over port core)
unfolding hands_over
hands_over_waits port core each = by (listed_at port core)
  where
    by : (o : Option Connection) → WaitsNothing (left_by port core o)
    by None = each
    by (Some c) = some_left is_listed (changed_where (is_at port) nothing_pending core.connections) (handed_waits (is_at port) core.connections each)

-- ---- an item

-- what it does to a node, without messages
record GoesCalmly (item : Item) (core : CoreState) : Type 0 where
  next : CoreState
  is : does_item item core ≡ without_messages next
  fails_none : find has_failed core.connections ≡ None → find has_failed next.connections ≡ None
  waits : WaitsNothing core → WaitsNothing next

nothing_goes : (item : Item) (core : CoreState) → does_item item core ≡ without_messages core → GoesCalmly item core
nothing_goes item core is = record { next = core; is = is; fails_none = λ none. none; waits = λ each. each }

ends_calmly : (port : Port) (core : CoreState) → was_proposed (open_at port core) ≡ false → GoesCalmly (Ended port) core
unfolding port_closed changes
ends_calmly port core unproposed = by (open_at port core) refl unproposed
  where
    by : (o : Option Connection) → open_at port core ≡ o → was_proposed o ≡ false → GoesCalmly (Ended port) core
    by None is none = nothing_goes (Ended port) core (ap (loses_open port core) is)
    by (Some c) is none =
        record {
          next = changes port closed_connection core;
          is = ap (loses_open port core) is ∙ rw none refl;
          fails_none = λ e. closing_fails_none (is_open_at port) core.connections e;
          waits = λ each. closing_keeps (is_open_at port) core.connections each;
        }

-- a message of which the replica learns something, and no more
hears_calmly : (message : Message Command) (core : CoreState) → IsHeardQuietly message core → GoesCalmly (Peer message) core
unfolding drives
hears_calmly message core heard_so =
    record {
      next = learnt;
      is = ap (λ (es : List (Effect Command Output)). handled_all es learnt) heard_so.nothing_sent;
      fails_none = λ none. none;
      waits = λ each. each;
    }
  where
    learnt : CoreState
    learnt = record core { replica = record core.replica { state = (outcome_of_input (Receives message) core.replica.state).state } }

message_calmly : (message : Message Command) (core : CoreState) → IsIgnored (Receives message) core ⊎ IsHeardQuietly message core → ReadsNone message core →
    GoesCalmly (Peer message) core
message_calmly message core (inl ignored) reads = nothing_goes (Peer message) core (takes_nothing (Peer message) core (ignored, reads))
message_calmly message core (inr heard_so) reads = hears_calmly message core heard_so

goes_calmly : (item : Item) (core : CoreState) → ItemTakesNoMemory item core → GoesCalmly item core
goes_calmly (Peer message) core takes = message_calmly message core takes.0 takes.1
goes_calmly (Tick now) core takes = nothing_goes (Tick now) core (takes_nothing (Tick now) core takes)
goes_calmly (Opened port now) core takes = nothing_goes (Opened port now) core (takes_nothing (Opened port now) core takes)
goes_calmly (Bytes port piece now) core takes = nothing_goes (Bytes port piece now) core (takes_nothing (Bytes port piece now) core takes)
goes_calmly (Ended port) core takes = ends_calmly port core takes
goes_calmly (Expel client) core takes = nothing_goes (Expel client) core (takes_nothing (Expel client) core takes)
goes_calmly Cut core takes = nothing_goes Cut core (takes_nothing Cut core takes)
goes_calmly Crash core takes = record { next = crashed core; is = refl; fails_none = λ none. none; waits = λ each. each }

-- ---- the step

acts_calmly : (item : Item) (core : CoreState) (g : GoesCalmly item core) → find has_failed core.connections ≡ None → acts_on item core ≡ without_messages g.next
acts_calmly item core g none =
    ap (λ (t : StepOutcome). then_also t reports_all_failed) g.is
    ∙ ap (λ (t : StepOutcome). then_also (without_messages g.next) (λ _. t))
    (repeated_without_messages reports_failed (length g.next.connections) g.next (failed_next g.next (g.fails_none none)))

pub says_nothing : (item : Item) (core : CoreState) → ItemTakesNoMemory item core → find has_failed core.connections ≡ None → (node_step item core).messages ≡ []
says_nothing item core takes none = ap (λ (t : StepOutcome). t.messages) (acts_calmly item core (goes_calmly item core takes) none)

pub step_waits : (item : Item) (core : CoreState) → ItemTakesNoMemory item core → find has_failed core.connections ≡ None → WaitsNothing core → WaitsNothing (node_step item core).core
step_waits item core takes none each =
    let g = goes_calmly item core takes in
    subst (λ (t : StepOutcome). WaitsNothing (settled t.core)) (sym (acts_calmly item core g none)) (settled_waits g.next (g.waits each))
