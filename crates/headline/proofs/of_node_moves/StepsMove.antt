-- All that a node does is a run of moves.
use Rattle.std.proofs.Common.{◌≡◌, ℕ, zero, suc, Bool, true, false, not, ◌&&◌, if◌then◌else◌, List, [], ◌∷◌, length, Option, Some, None, Result, Ok, Err, refl, sym, ap, ◌∙◌, subst, append_assoc}
use Rattle.std.specs.List.{find}
use Rattle.std.proofs.lemmas.List.{append-nil}
use Rattle.packet_base.specs.declared.stop.Stop.{Stop}
use Rattle.packet_base.specs.declared.stop.Stop.TheVariants as stops
use Rattle.packet.specs.declared.packet.Packet.{Packet}
use Rattle.packet.specs.declared.packet.Packet.TheVariants as packets
use Rattle.packet.specs.declared.connect.Connect.{Connect}
use Rattle.packet_base.specs.declared.refusal_code.RefusalCode.{RefusalCode}
use Rattle.packet.specs.Verdict.{verdict}
use Rattle.ballot_base.specs.declared.message.Effect.{Effect}
use Rattle.ballot_base.specs.Protocol.Input.{Receives, Ticks}
use Rattle.broker_spec.specs.declared.command.Command.{Command}
use Rattle.broker_spec.specs.declared.command.Command.TheVariants as commands
use Rattle.broker_spec.specs.declared.command.Output.{Output}
use Rattle.world_base.specs.declared.node_connections.port.Port.{Port}
use Rattle.world_base.specs.declared.node_core.item.Item.{Item}
use Rattle.world_base.specs.declared.node_core.item.Item.TheVariants.{Peer, Tick, Opened, Bytes, Ended, Expel, Cut, Crash}
use Rattle.world_base.specs.declared.node_connections.connection.Connection.{Connection}
use Rattle.world_base.specs.node_connections.Connections.{is_closed, awaits_first_packet, is_proposed, has_failed, is_at, is_open_at}
use Rattle.world_base.specs.node_connections.ConnectionChanges.{noted_proposed, with_unread, left_with, closed_connection, changed_where}
use Rattle.world_base.specs.node_core.Core.{CoreState, StepOutcome}
use Rattle.world_base.specs.node_core.PacketInput.{changes, open_at, loses, loses_open, port_closed, connect_proposed, proposes_packet, takes_first_packet, reads, reads_of, reads_next, unread_of}
use Rattle.world_base.specs.node_connections.Refusals.{connect_refused}
use Rattle.ballot_base.specs.Compaction.{can_cut}
use Rattle.world_base.specs.node_core.Step.{node_step, acts_on, cuts, settled, does_item, with_cut}
use Rattle.world_base.specs.node_core.FailedConnections.{reports_failed, reports_if}
use Rattle.world_base.specs.node_core.KeepAlive.{ends_if, ends_silent}
use Rattle.world_base.specs.node_connections.Silent.{lowest_silent}
use Rattle.world_base.specs.node_core.Effects.{without_messages, proposes, drives, has_room, repeated}
use Rattle.headline.specs.node_moves.Receipts.{NodeCallsHearAtFirst}
use Rattle.headline.specs.node_moves.Moves.{NodeMove, MoveTrace, NodeCall, and_then, done, NodeCallsAreMoves}
use Rattle.headline.specs.node_moves.Moves.NodeCall.{takes, hands_out}
use Rattle.headline.specs.node_moves.Moves.NodeMove.{hears, opens_one, holds, reads_first, reads_later, closes, refuses, loses_one, loses_next, expels_one, cuts_log, crashes, settles, hands}
use Rattle.headline.specs.node_moves.Moves.MoveTrace.{rests, goes_on}
use Rattle.headline.proofs.of_node_moves.PartsOfMoves.{BeginsWith, IsBare, IsBareMove, Part, begins_hearing, part_in, part_of}

abbrev Given : Type 0
Given = List (Effect Command Output)

-- ---- runs join

pub runs_join : {core : CoreState} {a b : StepOutcome} → MoveTrace core a → MoveTrace a.core b → MoveTrace core (and_then a b)
runs_join rests r = r
runs_join {b = b} (goes_on {core = core} {first = first} {next = next} m r) q =
    subst (λ (given : Given). MoveTrace core (let t : StepOutcome = record { core = b.core; messages = given } in t)) (sym (append_assoc first.messages next.messages b.messages))
    (goes_on m (runs_join r q))

-- runs of bare moves, and those of which the first one may have a part
abbrev pub Calm : CoreState → StepOutcome → Type 0
Calm core outcome = (run : MoveTrace core outcome) × IsBare run

abbrev pub First : Part → CoreState → StepOutcome → Type 0
First part core outcome = (run : MoveTrace core outcome) × BeginsWith part run

calm_then : {core : CoreState} {a b : StepOutcome} (run : MoveTrace core a) → IsBare run → Calm a.core b → Calm core (and_then a b)
calm_then rests calm r = r
calm_then {b = b} (goes_on {core = core} {first = first} {next = next} m run) calm r =
    let rest = calm_then run calm.1 r in
    subst (λ (given : Given). Calm core (let t : StepOutcome = record { core = b.core; messages = given } in t)) (sym (append_assoc first.messages next.messages b.messages))
    (goes_on m rest.0, (calm.0, rest.1))

calm_join : {core : CoreState} {a b : StepOutcome} → Calm core a → Calm a.core b → Calm core (and_then a b)
calm_join q r = calm_then q.0 q.1 r

calm_move : {core : CoreState} {t : StepOutcome} (m : NodeMove core t) → IsBareMove m → Calm core t
calm_move {core = core} {t = t} m calm =
    subst (λ (given : Given). Calm core (let u : StepOutcome = record { core = t.core; messages = given } in u)) (append-nil t.messages) (goes_on m rests, (calm, tt))

calm_first : {core : CoreState} {a : StepOutcome} (run : MoveTrace core a) → IsBare run → First Part.nothing core a
calm_first rests calm = (rests, refl)
calm_first (goes_on m run) calm = (goes_on m run, (calm.0.1, calm.1))

first_then : (part : Part) {core : CoreState} {a b : StepOutcome} (run : MoveTrace core a) → BeginsWith part run → Calm a.core b → First part core (and_then a b)
first_then part {a = a} {b = b} rests begins r = subst (λ p. First p a.core b) begins (calm_first r.0 r.1)
first_then part {b = b} (goes_on {core = core} {first = first} {next = next} m run) begins r =
    let rest = calm_then run begins.1 r in
    subst (λ (given : Given). First part core (let t : StepOutcome = record { core = b.core; messages = given } in t)) (sym (append_assoc first.messages next.messages b.messages))
    (goes_on m rest.0, (begins.0, rest.1))

first_join : {part : Part} {core : CoreState} {a b : StepOutcome} → First part core a → Calm a.core b → First part core (and_then a b)
first_join {part = part} q r = first_then part q.0 q.1 r

first_move : {core : CoreState} {t : StepOutcome} (m : NodeMove core t) → First (part_in m) core t
first_move {core = core} {t = t} m =
    subst (λ (given : Given). First (part_in m) core (let u : StepOutcome = record { core = t.core; messages = given } in u)) (append-nil t.messages) (goes_on m rests, (refl, tt))

-- ---- what changes a connection before it is closed leaves no trace

pub twice : (test : Connection → Bool) (f g : Connection → Connection) (cs : List Connection) → ((c : Connection) → test c ≡ true → test (g c) ≡ true)
    → changed_where test f (changed_where test g cs) ≡ changed_where test (λ c. f (g c)) cs
twice test f g [] kept = refl
twice test f g (c ∷ cs) kept = by (test c) refl (twice test f g cs kept)
  where
    by : (b : Bool) → test c ≡ b → changed_where test f (changed_where test g cs) ≡ changed_where test (λ d. f (g d)) cs
        → changed_where test f (if b then g c ∷ cs else c ∷ changed_where test g cs) ≡ (if b then f (g c) ∷ cs else c ∷ changed_where test (λ d. f (g d)) cs)
    by true e ih = rw (kept c e) refl
    by false e ih = rw e (ap (λ l. c ∷ l) ih)

still_closed : (port : Port) (g : Connection → Connection) (core : CoreState) → ((c : Connection) → is_open_at port c ≡ true → is_open_at port (g c) ≡ true)
    → ((c : Connection) → closed_connection (g c) ≡ closed_connection c) → changes port closed_connection (changes port g core) ≡ changes port (λ c. closed_connection (g c)) core
unfolding changes
still_closed port g core kept same = ap (λ (l : List Connection). record core { connections = l }) (twice (is_open_at port) closed_connection g core.connections kept)

closed_left : (now : ℕ) (port : Port) (rest : List ℕ) (core : CoreState) → changes port closed_connection (changes port (left_with now rest) core) ≡ changes port closed_connection core
closed_left now port rest core = still_closed port (left_with now rest) core (λ c e. e) (λ c. refl)

right_true : (a b : Bool) → (a && b) ≡ true → b ≡ true
right_true true b e = e
right_true false b e = cc

asked_open : (keep_alive : ℕ) (port : Port) (c : Connection) → is_open_at port c ≡ true → is_open_at port (noted_proposed keep_alive c) ≡ true
asked_open keep_alive port c e = right_true (not (is_closed c.stage)) (is_at port c) e

closed_asked : (keep_alive now : ℕ) (port : Port) (rest : List ℕ) (core : CoreState)
    → changes port closed_connection (changes port (noted_proposed keep_alive) (changes port (left_with now rest) core)) ≡ changes port closed_connection core
closed_asked keep_alive now port rest core = still_closed port (noted_proposed keep_alive) (changes port (left_with now rest) core) (asked_open keep_alive port) (λ c. refl) ∙ closed_left now port rest core

-- ---- changes of connections leave the replica as it is

room_kept : (port : Port) (change : Connection → Connection) (core : CoreState) → has_room (changes port change core) ≡ has_room core
unfolding changes
room_kept port change core = refl

-- ---- a connection is lost

lost_by : (port : Port) (c : Connection) (core : CoreState) → open_at port core ≡ Some c → (b : Bool) → is_proposed c.stage ≡ b
    → Calm core (if b then proposes (commands.Lost c.name) (changes port closed_connection core) else without_messages (changes port closed_connection core))
lost_by port c core at true e = calm_move (loses_one port c at e) (refl, refl)
lost_by port c core at false e = calm_move (closes port) (refl, refl)

lost_runs : (port : Port) (c : Connection) (core : CoreState) → open_at port core ≡ Some c → Calm core (loses port c core)
lost_runs port c core at = lost_by port c core at (is_proposed c.stage) refl

ended_runs : (port : Port) (core : CoreState) (o : Option Connection) → open_at port core ≡ o → Calm core (loses_open port core o)
ended_runs port core None at = (rests, tt)
ended_runs port core (Some c) at = lost_runs port c core at

ends_run : (port : Port) (core : CoreState) → Calm core (port_closed port core)
unfolding port_closed
ends_run port core = ended_runs port core (open_at port core) refl

-- ---- a packet is read

closes_with : (port : Port) (core later : CoreState) → later ≡ changes port closed_connection core → Calm core (without_messages later)
closes_with port core later same = subst (λ (z : CoreState). Calm core (without_messages z)) (sym same) (calm_move (closes port) (refl, refl))

first_runs : (now : ℕ) (port : Port) (c : Connection) (core : CoreState) (connect : Connect) (rest : List ℕ) → open_at port core ≡ Some c → awaits_first_packet c.stage ≡ true
    → verdict c.unread ≡ Ok (packets.Connect connect, rest)
    → Calm core (connect_proposed port c.name connect (changes port (noted_proposed connect.keep_alive) (changes port (left_with now rest) core)))
first_runs now port c core connect rest at first is = by (has_room core) refl
  where
    same : has_room (changes port (noted_proposed connect.keep_alive) (changes port (left_with now rest) core)) ≡ has_room core
    same = room_kept port (noted_proposed connect.keep_alive) (changes port (left_with now rest) core) ∙ room_kept port (left_with now rest) core

    by : (b : Bool) → has_room core ≡ b → Calm core (connect_proposed port c.name connect (changes port (noted_proposed connect.keep_alive) (changes port (left_with now rest) core)))
    by true room = rw (same ∙ room) (calm_move (reads_first now port c connect rest at first is room) (refl, refl))
    by false none = rw (same ∙ none) (closes_with port core _ (closed_asked connect.keep_alive now port rest core))

begins_runs : (now : ℕ) (port : Port) (c : Connection) (core : CoreState) (packet : Packet) (rest : List ℕ) → open_at port core ≡ Some c → awaits_first_packet c.stage ≡ true
    → verdict c.unread ≡ Ok (packet, rest) → Calm core (takes_first_packet port c.name packet (changes port (left_with now rest) core))
begins_runs now port c core (packets.Connect connect) rest at first is = first_runs now port c core connect rest at first is
begins_runs now port c core _ rest at first is = closes_with port core _ (closed_left now port rest core)

says_runs : (now : ℕ) (port : Port) (c : Connection) (core : CoreState) (packet : Packet) (rest : List ℕ) → open_at port core ≡ Some c → awaits_first_packet c.stage ≡ false
    → verdict c.unread ≡ Ok (packet, rest) → Calm core (proposes_packet port c.name packet (changes port (left_with now rest) core))
says_runs now port c core packet rest at later is = by (has_room core) refl
  where
    by : (b : Bool) → has_room core ≡ b → Calm core (proposes_packet port c.name packet (changes port (left_with now rest) core))
    by true room = rw (room_kept port (left_with now rest) core ∙ room) (calm_move (reads_later now port c packet rest at later is room) (refl, refl))
    by false none = rw (room_kept port (left_with now rest) core ∙ none) (closes_with port core _ (closed_left now port rest core))

packet_runs : (now : ℕ) (port : Port) (c : Connection) (core : CoreState) (packet : Packet) (rest : List ℕ) → open_at port core ≡ Some c
    → verdict c.unread ≡ Ok (packet, rest) → Calm core (reads now port c core (Ok (packet, rest)))
packet_runs now port c core packet rest at is = by (awaits_first_packet c.stage) refl
  where
    by : (b : Bool) → awaits_first_packet c.stage ≡ b
        → Calm core (if b then takes_first_packet port c.name packet (changes port (left_with now rest) core) else proposes_packet port c.name packet (changes port (left_with now rest) core))
    by true first = begins_runs now port c core packet rest at first is
    by false later = says_runs now port c core packet rest at later is

refused_runs : (now : ℕ) (port : Port) (c : Connection) (core : CoreState) (code : RefusalCode) → open_at port core ≡ Some c
    → verdict c.unread ≡ Err (stops.Refused code) → Calm core (reads now port c core (Err (stops.Refused code)))
refused_runs now port c core code at is = by (awaits_first_packet c.stage) refl
  where
    by : (b : Bool) → awaits_first_packet c.stage ≡ b → Calm core (if b then without_messages (changes port (connect_refused code) core) else loses port c core)
    by true first = calm_move (refuses port c code at first is) (refl, refl)
    by false later = lost_runs port c core at

front_runs : (now : ℕ) (port : Port) (c : Connection) (core : CoreState) (front : Result (Packet × List ℕ) Stop) → open_at port core ≡ Some c
    → verdict c.unread ≡ front → Calm core (reads now port c core front)
front_runs now port c core (Ok (packet, rest)) at is = packet_runs now port c core packet rest at is
front_runs now port c core (Err stops.More) at is = (rests, tt)
front_runs now port c core (Err (stops.Malformed kind)) at is = lost_runs port c core at
front_runs now port c core (Err (stops.Refused code)) at is = refused_runs now port c core code at is

read_runs : (now : ℕ) (port : Port) (core : CoreState) (o : Option Connection) → open_at port core ≡ o → Calm core (reads_of now port core o)
read_runs now port core None at = (rests, tt)
read_runs now port core (Some c) at = front_runs now port c core (verdict c.unread) at refl

next_runs : (now : ℕ) (port : Port) (core : CoreState) → Calm core (reads_next now port core)
unfolding reads_next
next_runs now port core = read_runs now port core (open_at port core) refl

-- ---- this many times

repeated_runs : (next : CoreState → StepOutcome) → ((core : CoreState) → Calm core (next core)) → (times : ℕ) (core : CoreState) → Calm core (repeated times next core)
unfolding repeated
repeated_runs next each zero core = (rests, tt)
repeated_runs next each (suc more) core = calm_join (each core) (repeated_runs next each more (next core).core)

-- ---- a connection is silent

silent_runs : (core : CoreState) (o : Option Port) → Calm core (ends_if o core)
silent_runs core None = (rests, tt)
silent_runs core (Some port) = ends_run port core

silent_run : (now : ℕ) (core : CoreState) → Calm core (ends_silent now core)
unfolding ends_silent
silent_run now core = silent_runs core (lowest_silent now core.connections)

-- ---- a connection failed

failed_runs : (core : CoreState) (o : Option Connection) → find has_failed core.connections ≡ o → Calm core (reports_if o core)
failed_runs core None at = (rests, tt)
failed_runs core (Some c) at = calm_move (loses_next c at) (refl, refl)

failed_run : (core : CoreState) → Calm core (reports_failed core)
unfolding reports_failed
failed_run core = failed_runs core (find has_failed core.connections) refl

-- ---- an Expel

expel_runs : (client : List ℕ) (core : CoreState) → Calm core (proposes (commands.Expel client) core)
expel_runs client core = calm_move (expels_one client) (refl, refl)

-- ---- a cut

cut_run : (core : CoreState) → First (part_of (takes Cut) core) core (without_messages (cuts core))
unfolding cuts
cut_run core = by (can_cut core.replica.state) refl
  where
    by : (b : Bool) → can_cut core.replica.state ≡ b → First (if b then Part.cut else Part.nothing) core (without_messages (if b then with_cut core else core))
    by true can = first_move (cuts_log can)
    by false cannot = calm_first rests tt

-- ---- a step

taken_in : (item : Item) (core : CoreState) → First (part_of (takes item) core) core (does_item item core)
taken_in (Peer message) core = first_move (hears (Receives message) refl)
taken_in (Tick now) core =
    first_join (first_move (hears Ticks refl))
    (repeated_runs (ends_silent now) (silent_run now) (length (drives Ticks core).core.connections) (drives Ticks core).core)
taken_in (Opened port now) core = first_move (opens_one port)
taken_in (Bytes port piece now) core =
    first_join (first_move (holds port piece))
    (repeated_runs (reads_next now port) (next_runs now port) (unread_of (open_at port (changes port (with_unread piece) core)))
    (changes port (with_unread piece) core))
taken_in (Ended port) core = let r = ends_run port core in calm_first r.0 r.1
taken_in (Expel client) core = let r = expel_runs client core in calm_first r.0 r.1
taken_in Cut core = cut_run core
taken_in Crash core = first_move crashes

acted_on : (item : Item) (core : CoreState) → First (part_of (takes item) core) core (acts_on item core)
acted_on item core =
    first_join (taken_in item core)
    (repeated_runs reports_failed failed_run (length (does_item item core).core.connections) (does_item item core).core)

step_runs : (item : Item) (core : CoreState) → First (part_of (takes item) core) core (node_step item core)
step_runs item core =
    subst (λ (given : Given). First (part_of (takes item) core) core (let t : StepOutcome = record { core = settled (acts_on item core).core; messages = given } in t))
    (append-nil (acts_on item core).messages) (first_join (acted_on item core) (calm_move settles (refl, refl)))

-- a call begins with its part, and the moves after it are bare
pub node_calls_begin : (node_call : NodeCall) (core : CoreState) → First (part_of node_call core) core (done node_call core)
node_calls_begin (takes item) core = step_runs item core
node_calls_begin (hands_out port) core = first_move (hands port)

pub node_calls_hear_at_first : NodeCallsHearAtFirst
node_calls_hear_at_first node_call core = let r = node_calls_begin node_call core in (r.0, begins_hearing (part_of node_call core) r.0 r.1)

pub node_calls_are_moves : NodeCallsAreMoves
node_calls_are_moves [] core = rests
node_calls_are_moves (node_call ∷ node_calls) core = runs_join (node_calls_begin node_call core).0 (node_calls_are_moves node_calls (done node_call core).core)
