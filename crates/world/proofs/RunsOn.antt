-- No message stops a replica, and no step on a message or on bytes stops a node; one that leads a
-- ballot leads it on.
use Rattle.std.proofs.Common.{◌≡◌, ◌⊎◌, inl, inr, ◌∙◌, ℕ, Bool, true, false, if◌then◌else◌, Option, Some, None, List, length, refl, ap, subst}
use Rattle.std.specs.Prelude.{nat_le, nat_lt, ◌&&◌, ◌==◌}
use Rattle.std.specs.List.{list_any}
use Rattle.std.proofs.lemmas.Bool.{cases_Bool}
use Rattle.machine.specs.Machine.{Rules}
use Rattle.ballot_base.specs.Activation.{on_activated, on_installed, on_superseded}
use Rattle.ballot_base.specs.declared.message.Body.{Body}
use Rattle.ballot_base.specs.declared.message.Body.TheVariants.{NewBallot, Join, State as LogState, Install, Installed, Activate, Activated, Superseded, Append, Held, Commit}
use Rattle.ballot_base.specs.declared.message.Message.{Message}
use Rattle.ballot_base.specs.declared.status.Role.TheVariants.{Active, Backup}
use Rattle.ballot_base.specs.Logs.{Log, places}
use Rattle.ballot_base.specs.Protocol.{received, replica_step}
use Rattle.ballot_base.specs.Protocol.Input.{Receives, Proposes, Ticks}
use Rattle.ballot_base.specs.Replica.{ReplicaState, is_installing}
use Rattle.ballot_base.specs.Service.{commit, follows, leads, least, max_places, on_append, on_commit, on_held, raised}
use Rattle.ballot_base.specs.StepOutcome.{Outcome, nothing_done}
use Rattle.ballot_base.specs.TakenLog.{read_into, taken, with_places}
use Rattle.ballot_base.specs.Transfer.{answers_installed, installs_taken, lacks, on_install, on_join, on_new_ballot, on_state, waits_for}
use Rattle.ballot_base.proofs.StepRows.{added-stopped, commit-stopped}
use Rattle.broker_base.specs.State.{State}
use Rattle.broker_spec.specs.declared.command.Command.{Command}
use Rattle.broker_spec.specs.declared.command.Output.{Output}
use Rattle.headline.specs.node_moves.BallotNames.{moves_replica}
use Rattle.headline.specs.node_moves.Moves.{NodeMove, MoveTrace}
use Rattle.headline.specs.node_moves.Moves.NodeCall.{takes}
use Rattle.headline.specs.node_moves.Moves.NodeMove.{hears, opens_one, holds, reads_first, reads_later, closes, refuses, loses_one, loses_next, expels_one, cuts_log, crashes, settles, hands}
use Rattle.headline.specs.node_moves.Moves.MoveTrace.{rests, goes_on}
use Rattle.headline.proofs.of_node_moves.MovesOfReplica.{move_same, moved_replica}
use Rattle.headline.proofs.of_node_moves.PartsOfMoves.{BeginsWith, IsBare, Part, part_in}
use Rattle.headline.proofs.of_node_moves.ReplicaStays.{Same, commit_same}
use Rattle.headline.proofs.of_node_moves.StepsMove.{node_calls_begin}
use Rattle.recovery.specs.one_node.Delivery.{heard_by}
use Rattle.world_base.specs.declared.node_connections.port.Port.{Port}
use Rattle.world_base.specs.declared.node_core.item.Item.TheVariants.{Bytes, Peer}
use Rattle.world_base.specs.node_core.Core.{CoreState, StepOutcome, rules as node_rules}
use Rattle.world_base.specs.node_core.Effects.{drives, outcome_of_input}
use Rattle.world_base.specs.node_core.Step.{node_step}

-- ---- no message stops a replica

abbrev Keeps : {S C O : Type 0} → ReplicaState S C → Outcome S C O → Type 0
Keeps r o = o.state.stopped ≡ r.stopped

keeps_if : {S C O : Type 0} (r : ReplicaState S C) (b : Bool) (x y : Outcome S C O) → Keeps r x → Keeps r y → Keeps r (if b then x else y)
keeps_if r true x y p q = p
keeps_if r false x y p q = q

new_ballot_keeps : {S C : Type 0} (O : Type 0) (r : ReplicaState S C) (b : ℕ) (members : List ℕ) (a : ℕ) (old : List ℕ) → Keeps r (on_new_ballot O r b members a old)
unfolding on_new_ballot
new_ballot_keeps O r b members a old = keeps_if r (nat_lt r.joined b) _ (nothing_done O r) refl refl

join_keeps : {S C : Type 0} (O : Type 0) (r : ReplicaState S C) (from b a : ℕ) → Keeps r (on_join O r from b a)
unfolding on_join
join_keeps {S = S} {C = C} O r from b a = keeps_if r (nat_le r.joined b && nat_le a r.held_in) _ (nothing_done O r) (joins (nat_lt r.joined b)) refl
  where
    joins : (t : Bool) → (let s : ReplicaState S C = if t then record r { joined = b; role = Backup } else r in s).stopped ≡ r.stopped
    joins true = refl
    joins false = refl

taken_keeps : {S C O : Type 0} (rules : Rules S C O) (r : ReplicaState S C) (b : ℕ) (log : Log C) → Keeps {O = O} r (installs_taken O r b (taken rules r log))
taken_keeps {S = S} {O = O} rules r b log = by (nat_lt r.log.base log.base) (rules.thawed log.snapshot)
  where
    by : (over : Bool) (read : Option S) → Keeps {O = O} r (installs_taken O r b (if over then read_into r log read else Some (with_places r log)))
    by true None = refl
    by true (Some machine) = refl
    by false read = refl

state_keeps : {S C O : Type 0} (rules : Rules S C O) (r : ReplicaState S C) (b : ℕ) (log : Log C) → Keeps {O = O} r (on_state rules r b log)
unfolding on_state
state_keeps {O = O} rules r b log = keeps_if r (waits_for r b (places log)) (installs_taken O r b (taken rules r log)) (nothing_done O r) (taken_keeps rules r b log) refl

answered_keeps : {S C O : Type 0} (rules : Rules S C O) (r : ReplicaState S C) (from b held : ℕ) (log : Log C) → Keeps {O = O} r (answers_installed O r from b held (taken rules r log))
answered_keeps {S = S} {O = O} rules r from b held log = by (nat_lt r.log.base log.base) (rules.thawed log.snapshot)
  where
    by : (over : Bool) (read : Option S) → Keeps {O = O} r (answers_installed O r from b held (if over then read_into r log read else Some (with_places r log)))
    by true None = refl
    by true (Some machine) = refl
    by false read = refl

install_keeps : {S C O : Type 0} (rules : Rules S C O) (r : ReplicaState S C) (from b : ℕ) (log : Log C) → Keeps {O = O} r (on_install rules r from b log)
unfolding on_install
install_keeps {O = O} rules r from b log =
    keeps_if r (lacks r b (places log)) (answers_installed O r from b (places log) (taken rules r log)) _ (answered_keeps rules r from b (places log) log)
    (keeps_if r (r.joined == b && r.held_in == b) _ (nothing_done O r) refl refl)

installed_keeps : {S C : Type 0} (O : Type 0) (r : ReplicaState S C) (from b : ℕ) → Keeps r (on_installed O r from b)
unfolding on_installed
installed_keeps O r from b = keeps_if r ((r.joined == b && is_installing r.role) && list_any (λ member. member == from) r.lacking) _ (nothing_done O r) refl refl

activated_keeps : {S C O : Type 0} (rules : Rules S C O) (r : ReplicaState S C) (b : ℕ) → Keeps {O = O} r (on_activated rules r b)
unfolding on_activated
activated_keeps {O = O} rules r b =
    keeps_if r ((r.joined == b && is_installing r.role) && (nat_le (length r.lacking) 0 && nat_lt (places r.log) max_places)) _ (nothing_done O r)
    (added-stopped rules _ (rules.start_of b)) refl

superseded_keeps : {S C : Type 0} (O : Type 0) (r : ReplicaState S C) (b : ℕ) → Keeps r (on_superseded O r b)
unfolding on_superseded
superseded_keeps O r b = keeps_if r (r.joined == b && is_installing r.role) _ (nothing_done O r) refl refl

append_keeps : {S C : Type 0} (O : Type 0) (r : ReplicaState S C) (from b place : ℕ) (c : C) → Keeps r (on_append O r from b place c)
unfolding on_append
append_keeps O r from b place c = keeps_if r (follows r b && nat_le place (places r.log)) _ (nothing_done O r) refl refl

held_keeps : {S C O : Type 0} (rules : Rules S C O) (r : ReplicaState S C) (from b held : ℕ) → Keeps {O = O} r (on_held rules r from b held)
unfolding on_held
held_keeps {O = O} rules r from b held = keeps_if r (leads r b) _ (nothing_done O r) (commit-stopped rules _) refl

commit_keeps : {S C O : Type 0} (rules : Rules S C O) (r : ReplicaState S C) (b held : ℕ) → Keeps {O = O} r (on_commit rules r b held)
unfolding on_commit
commit_keeps {O = O} rules r b held = keeps_if r (follows r b && nat_le held (places r.log)) _ (nothing_done O r) refl refl

received_keeps : {S C O : Type 0} (rules : Rules S C O) (r : ReplicaState S C) (from : ℕ) (body : Body C) → Keeps {O = O} r (received rules r from body)
received_keeps {O = O} rules r from (NewBallot b members a old) = new_ballot_keeps O r b members a old
received_keeps {O = O} rules r from (Join b a) = join_keeps O r from b a
received_keeps rules r from (LogState b log) = state_keeps rules r b log
received_keeps rules r from (Install b log) = install_keeps rules r from b log
received_keeps {O = O} rules r from (Installed b held) = installed_keeps O r from b
received_keeps rules r from (Activate b) = refl
received_keeps rules r from (Activated b) = activated_keeps rules r b
received_keeps {O = O} rules r from (Superseded b) = superseded_keeps O r b
received_keeps {O = O} rules r from (Append b place c) = append_keeps O r from b place c
received_keeps rules r from (Held b held) = held_keeps rules r from b held
received_keeps rules r from (Commit b held) = commit_keeps rules r b held

-- ---- the moves of a step after its first one

same_then : {S C : Type 0} (r s t : ReplicaState S C) → Same r s → Same s t → Same r t
same_then r s t p q = record { role = q.role ∙ p.role; joined = q.joined ∙ p.joined; stopped = q.stopped ∙ p.stopped; base = q.base ∙ p.base }

bare_same : {core : CoreState} {outcome : StepOutcome} (run : MoveTrace core outcome) → IsBare run → Same core.replica.state outcome.core.replica.state
bare_same rests bare = record { role = refl; joined = refl; stopped = refl; base = refl }
bare_same {core = core} (goes_on {first = first} {next = next} m run) bare =
    same_then core.replica.state first.core.replica.state next.core.replica.state (move_same core first m bare.0.0) (bare_same run bare.1)

-- ---- a step on bytes

bytes_calm : {core : CoreState} {t : StepOutcome} (m : NodeMove core t) (port : Port) (piece : List ℕ) → part_in m ≡ Part.bytes_in port piece → moves_replica m ≡ false
bytes_calm (hears (Receives message) is) port piece part = absurd cc
bytes_calm (hears (Proposes command) is) port piece part = absurd cc
bytes_calm (hears Ticks is) port piece part = absurd cc
bytes_calm (opens_one other) port piece part = refl
bytes_calm (holds other bytes) port piece part = refl
bytes_calm (reads_first now other c connect rest at first is room) port piece part = refl
bytes_calm (reads_later now other c packet rest at later is room) port piece part = refl
bytes_calm (closes other) port piece part = refl
bytes_calm (refuses other c code at first is) port piece part = refl
bytes_calm (loses_one other c at asked_before) port piece part = refl
bytes_calm (loses_next c at) port piece part = refl
bytes_calm (expels_one client) port piece part = refl
bytes_calm (cuts_log can) port piece part = absurd cc
bytes_calm crashes port piece part = absurd cc
bytes_calm settles port piece part = refl
bytes_calm (hands other) port piece part = refl

bytes_run : {core : CoreState} {outcome : StepOutcome} (run : MoveTrace core outcome) (port : Port) (piece : List ℕ) → BeginsWith (Part.bytes_in port piece) run →
    Same core.replica.state outcome.core.replica.state
bytes_run rests port piece begins = absurd cc
bytes_run {core = core} (goes_on {first = first} {next = next} m run) port piece begins =
    same_then core.replica.state first.core.replica.state next.core.replica.state (move_same core first m (bytes_calm m port piece begins.0)) (bare_same run begins.1)

pub bytes_same : (port : Port) (piece : List ℕ) (now : ℕ) (core : CoreState) → Same core.replica.state (node_step (Bytes port piece now) core).core.replica.state
bytes_same port piece now core = let f = node_calls_begin (takes (Bytes port piece now)) core in bytes_run f.0 port piece f.1

-- ---- a step on a message

driven : (message : Message Command) (core : CoreState) → core.replica.state.stopped ≡ false → (drives (Receives message) core).core.replica.state ≡ (heard_by core message).state
unfolding drives
driven message core runs =
    moved_replica (outcome_of_input (Receives message) core.replica.state) core
    ∙ ap (λ (b : Bool). (let o : Outcome State Command Output = if b then nothing_done Output core.replica.state else replica_step node_rules core.replica.state (Receives message) in o).state) runs

one_heard : (n m : Message Command) → Part.heard n ≡ Part.heard m → n ≡ m
one_heard n m e = cc

heard_first : {core : CoreState} {t : StepOutcome} (m : NodeMove core t) (message : Message Command) → part_in m ≡ Part.heard message → core.replica.state.stopped ≡ false →
    t.core.replica.state ≡ (heard_by core message).state
heard_first {core = core} (hears (Receives n) is) message part runs = driven n core runs ∙ ap (λ (l : Message Command). (heard_by core l).state) (one_heard n message part)
heard_first (hears (Proposes command) is) message part runs = absurd cc
heard_first (hears Ticks is) message part runs = absurd cc
heard_first (opens_one port) message part runs = absurd cc
heard_first (holds port piece) message part runs = absurd cc
heard_first (reads_first now port c connect rest at first is room) message part runs = absurd cc
heard_first (reads_later now port c packet rest at later is room) message part runs = absurd cc
heard_first (closes port) message part runs = absurd cc
heard_first (refuses port c code at first is) message part runs = absurd cc
heard_first (loses_one port c at asked_before) message part runs = absurd cc
heard_first (loses_next c at) message part runs = absurd cc
heard_first (expels_one client) message part runs = absurd cc
heard_first (cuts_log can) message part runs = absurd cc
heard_first crashes message part runs = absurd cc
heard_first settles message part runs = absurd cc
heard_first (hands port) message part runs = absurd cc

heard_run : {core : CoreState} {outcome : StepOutcome} (run : MoveTrace core outcome) (message : Message Command) → BeginsWith (Part.heard message) run → core.replica.state.stopped ≡ false →
    Same (heard_by core message).state outcome.core.replica.state
heard_run rests message begins runs = absurd cc
heard_run (goes_on {next = next} m run) message begins runs =
    subst (λ (r : ReplicaState State Command). Same r next.core.replica.state) (heard_first m message begins.0 runs) (bare_same run begins.1)

heard_same : (message : Message Command) (core : CoreState) → core.replica.state.stopped ≡ false → Same (heard_by core message).state (node_step (Peer message) core).core.replica.state
heard_same message core runs = let f = node_calls_begin (takes (Peer message)) core in heard_run f.0 message f.1 runs

-- it does not stop the node
pub heard_keeps : (message : Message Command) (core : CoreState) → core.replica.state.stopped ≡ false → (node_step (Peer message) core).core.replica.state.stopped ≡ core.replica.state.stopped
heard_keeps message core runs = (heard_same message core runs).stopped ∙ received_keeps node_rules core.replica.state message.from message.body

-- ---- the primary of a ballot

pub record IsLeading (ballot : ℕ) (r : ReplicaState State Command) : Type 0 where
  pub runs : r.stopped ≡ false
  pub joined : r.joined ≡ ballot
  pub role : r.role ≡ Active

pub leading_same : (ballot : ℕ) (r s : ReplicaState State Command) → Same r s → IsLeading ballot r → IsLeading ballot s
leading_same ballot r s same l = record { runs = same.stopped ∙ l.runs; joined = same.joined ∙ l.joined; role = same.role ∙ l.role }

held_same : {S C O : Type 0} (rules : Rules S C O) (r : ReplicaState S C) (from b held : ℕ) → Same r (on_held {O = O} rules r from b held).state
unfolding on_held commit
held_same {O = O} rules r from b held = by (cases_Bool (leads r b))
  where
    by : (leads r b ≡ true) ⊎ (leads r b ≡ false) → Same r (on_held {O = O} rules r from b held).state
    by (inl e) =
        rw e (let s = commit_same rules (record r { progress = raised from held r.progress }) (least (places r.log) (raised from held r.progress)) in
        record { role = s.role; joined = s.joined; stopped = s.stopped; base = s.base })
    by (inr e) = rw e (record { role = refl; joined = refl; stopped = refl; base = refl })

-- it leads on when another member tells what it holds
pub leading_held : (ballot from b held : ℕ) (core : CoreState) → IsLeading ballot core.replica.state →
    IsLeading ballot (node_step (Peer (record { from = from; body = Held b held })) core).core.replica.state
leading_held ballot from b held core l =
    let message : Message Command = record { from = from; body = Held b held } in
    leading_same ballot core.replica.state (node_step (Peer message) core).core.replica.state
    (same_then core.replica.state (heard_by core message).state (node_step (Peer message) core).core.replica.state (held_same node_rules core.replica.state from b held) (heard_same message core l.runs)) l
