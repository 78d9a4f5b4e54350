-- Each move in which memory may run out reads on in order, on each of a node's connections.
use Rattle.std.proofs.Common.{◌≡◌, ◌≤◌, ℕ, Bool, true, false, if◌then◌else◌, List, [], ◌∷◌, ◌++◌, length, Option, Some, None, Ok, refl, sym, ap, ◌∙◌, subst, filter, arith}
use Rattle.std.proofs.lemmas.List.{append-nil}
use Rattle.packet.specs.declared.packet.Packet.{Packet}
use Rattle.packet.specs.declared.packet.Packet.TheVariants as packets
use Rattle.packet.specs.declared.connect.Connect.{Connect}
use Rattle.packet.specs.Verdict.{verdict}
use Rattle.ballot_base.specs.Losses.{halted, one_more}
use Rattle.ballot_base.specs.Protocol.{Input}
use Rattle.ballot_base.specs.Replica.{CountedReplica, ReplicaState}
use Rattle.broker_base.specs.State.{State}
use Rattle.broker_spec.specs.declared.command.Command.{Command}
use Rattle.broker_spec.specs.declared.command.Command.TheVariants as commands
use Rattle.broker_spec.specs.Connection.{ConnectionName}
use Rattle.broker_spec.proofs.ConnectionNames.{same_name}
use Rattle.exactly_once.specs.StoryCommands.{is_packet_of}
use Rattle.world_base.specs.declared.node_connections.port.Port.{Port}
use Rattle.world_base.specs.declared.node_connections.connection.Connection.{Connection}
use Rattle.world_base.specs.node_connections.Connections.{is_at, awaits_first_packet, is_open_at}
use Rattle.world_base.specs.node_connections.ConnectionChanges.{noted_proposed, closed_connection, failing, left_with}
use Rattle.world_base.specs.node_core.Core.{CoreState, StepOutcome, rules}
use Rattle.world_base.specs.node_core.Lossy.{Account, Drives, TakesCommand}
use Rattle.world_base.specs.node_core.PacketInput.{changes, open_at}
use Rattle.world_base.specs.node_core.Effects.{outcome_of_input}
use Rattle.headline.specs.node_moves.Ends.{IsEnd, IsGiven, IsOrderly, packet_commands_from, is_nothing, open_named, piece_on}
use Rattle.headline.specs.node_moves.Ends.IsEnd.{is_over}
use Rattle.headline.specs.node_moves.LossyTheorems.{LossesReadInOrder, ReadsOn}
use Rattle.headline.specs.node_moves.Moves.{NodeMove}
use Rattle.headline.specs.node_moves.LossyMoves.{NodeMoveOrLost}
use Rattle.headline.specs.node_moves.LossyParts.{came_on, move_proposal}
use Rattle.headline.specs.node_moves.LossyMoves.NodeMoveOrLost.{exactly, hears_losing, first_losing, later_losing, tells_losing, expels_losing, forgets, halts, fails, unheard, drops}
use Rattle.headline.proofs.of_node_moves.Kept.{Stays, changed_orderly, closed_is_mild, heard_up, kept_same, left_true, live, named, named_kept, stays_at, stays_failed, stays_joined}
use Rattle.headline.proofs.of_node_moves.LossyOutputs.{failing_is_mild, stays_delivers}
use Rattle.headline.proofs.of_node_moves.NamesInOrder.{same_le}
use Rattle.headline.proofs.of_node_moves.NamesComeOnce.{steps_up}
use Rattle.headline.proofs.of_node_moves.ProposesInOrder.{front_of}
use Rattle.headline.proofs.of_node_moves.ReadsInOrder.{IsChange, asked_change, end_kept, first_command, found_given, later_command, left_change, nodes_read_in_order, read_then}
use Rattle.headline.proofs.of_node_moves.ReplicaStays.{added_same}
use Rattle.headline.proofs.of_node_moves.Views.{view_of_changed}

-- ---- the replica

pub replica_orderly : (core : CoreState) (replica : CountedReplica State Command) → core.replica.state.joined ≤ replica.state.joined → IsOrderly core →
    IsOrderly (record core { replica = replica })
replica_orderly core replica up o = let within = o.within in record { names = o.names; given = o.given; within = omega (arith, within, up) }

pub stays_replica : (core : CoreState) (replica : CountedReplica State Command) → core.replica.state.joined ≤ replica.state.joined → IsOrderly core →
    Stays core (record core { replica = replica })
stays_replica core replica up o =
    record { kept = λ x. kept_same (open_named x core); last = refl; orderly = replica_orderly core replica up o }

pub stays_drives : (input : Input Command) (core : CoreState) (account : Account) → Drives input core account → IsOrderly core → Stays core account.core
stays_drives input core account m o =
    let s = stays_replica core m.replica (steps_up core.replica m.replica (outcome_of_input input core.replica.state) account.given (heard_up input core) m.steps) o in
    stays_joined core (record core { replica = m.replica }) account.core s
    (stays_delivers account.given (record core { replica = m.replica }) account.core account.messages m.handles s.orderly)

pub taken_joined : (command : Command) (core : CoreState) (account : Account) (t : TakesCommand command core account) → t.replica.state.joined ≡ core.replica.state.joined
taken_joined command core account t =
    ap (λ (r : ReplicaState State Command). r.joined) t.done.state ∙ (added_same rules core.replica.state command).joined

pub stays_takes : (command : Command) (core : CoreState) (account : Account) → TakesCommand command core account → IsOrderly core → Stays core account.core
stays_takes command core account t o =
    let up = subst (λ (n : ℕ). core.replica.state.joined ≤ n) (sym (taken_joined command core account t)) (same_le core.replica.state.joined) in
    let s = stays_replica core t.replica up o in
    stays_joined core (record core { replica = t.replica }) account.core s
    (stays_delivers account.given (record core { replica = t.replica }) account.core account.messages t.handles s.orderly)

-- ---- moves that read nothing

none_more : (x : ConnectionName) {core : CoreState} {outcome : StepOutcome} (m : NodeMoveOrLost core outcome) (written read : List Packet) (later : List ℕ)
    → IsEnd x outcome.core written read later → filter (λ command. is_packet_of command x) (move_proposal m) ≡ [] → ReadsOn x m written read later
none_more x {outcome = outcome} m written read later end none =
    record { more = []; end = subst (λ (ps : List Packet). IsEnd x outcome.core written ps later) (sym (append-nil read)) end; proposed = none }

abbrev ReadsAll : {core : CoreState} {outcome : StepOutcome} → NodeMoveOrLost core outcome → Type 0
ReadsAll {core = core} {outcome = outcome} m = IsOrderly outcome.core
    × ((x : ConnectionName) (written read : List Packet) (in_transit later : List ℕ) → IsEnd x core written read in_transit → in_transit ≡ came_on x m ++ later
    → ReadsOn x m written read later)

stays_reads : {core : CoreState} {outcome : StepOutcome} (m : NodeMoveOrLost core outcome) → Stays core outcome.core → ((x : ConnectionName) → came_on x m ≡ [])
    → ((x : ConnectionName) → filter (λ command. is_packet_of command x) (move_proposal m) ≡ []) → ReadsAll m
stays_reads {core = core} {outcome = outcome} m s no_bytes none = (
  s.orderly,
  λ x written read in_transit later end same.
      none_more x m written read later
      (end_kept x core outcome.core written read later
      (subst (IsEnd x core written read) (same ∙ ap (λ (l : List ℕ). l ++ later) (no_bytes x)) end) (s.kept x) s.last) (none x),
)

-- ---- a packet is read and taken

abbrev first_move : (now : ℕ) (core : CoreState) (port : Port) (c : Connection) (connect : Connect) (rest : List ℕ) (account : Account) → open_at port core ≡ Some c → awaits_first_packet c.stage ≡ true
    → verdict c.unread ≡ Ok (packets.Connect connect, rest)
    → TakesCommand (commands.Connect c.name connect.client connect.clean) (changes port (noted_proposed connect.keep_alive) (changes port (left_with now rest) core)) account
    → NodeMoveOrLost core (record { core = account.core; messages = account.messages })
first_move now core port c connect rest account at first reads taken = first_losing now port c connect rest account at first reads taken

abbrev later_move : (now : ℕ) (core : CoreState) (port : Port) (c : Connection) (packet : Packet) (rest : List ℕ) (account : Account) → open_at port core ≡ Some c → awaits_first_packet c.stage ≡ false
    → verdict c.unread ≡ Ok (packet, rest) → TakesCommand (commands.Packet c.name packet) (changes port (left_with now rest) core) account
    → NodeMoveOrLost core (record { core = account.core; messages = account.messages })
later_move now core port c packet rest account at later reads taken = later_losing now port c packet rest account at later reads taken

first_reads : (now : ℕ) (core : CoreState) (port : Port) (c : Connection) (connect : Connect) (rest : List ℕ) (account : Account) (at : open_at port core ≡ Some c) (first : awaits_first_packet c.stage ≡ true)
    (reads : verdict c.unread ≡ Ok (packets.Connect connect, rest))
    (taken : TakesCommand (commands.Connect c.name connect.client connect.clean) (changes port (noted_proposed connect.keep_alive) (changes port (left_with now rest) core)) account) → IsOrderly core
    → ReadsAll (first_move now core port c connect rest account at first reads taken)
first_reads now core port c connect rest account at first reads taken o =
    (s.orderly, λ x written read in_transit rest_of end same. by x written read rest_of (subst (IsEnd x core written read) same end) (named x c) refl)
  where
    command : Command
    command = commands.Connect c.name connect.client connect.clean

    between : CoreState
    between = changes port (noted_proposed connect.keep_alive) (changes port (left_with now rest) core)

    h : IsChange core between port c (λ d. noted_proposed connect.keep_alive (left_with now rest d))
    h = asked_change connect.keep_alive now core port c rest at

    s : Stays between account.core
    s = stays_takes command between account taken (changed_orderly core between (is_open_at port) (λ d. noted_proposed connect.keep_alive (left_with now rest d)) o h.are h.same h.up h.name)

    with_name : (x : ConnectionName) (read : List Packet) (b : Bool) → named x c ≡ b → (more : List Packet) → more ≡ (if b then packets.Connect connect ∷ [] else [])
        → (b ≡ true → awaits_first_packet c.stage ≡ is_nothing read) → filter (λ z. is_packet_of z x) (command ∷ []) ≡ packet_commands_from x (length read) more
    with_name x read true e more is nothing = rw (e, is) (first_command x c connect read e (sym first ∙ nothing refl))
    with_name x read false e more is nothing = rw (e, is) refl

    by : (x : ConnectionName) (written read : List Packet) (rest_of : List ℕ) → IsEnd x core written read rest_of → (b : Bool) → named x c ≡ b
        → ReadsOn x (first_move now core port c connect rest account at first reads taken) written read rest_of
    by x written read rest_of end b e =
        let z = read_then x core between account.core port c (λ d. noted_proposed connect.keep_alive (left_with now rest d)) written read rest_of rest (packets.Connect connect) o h refl refl reads s end b e in
        record { more = z.0; end = z.1; proposed = with_name x read b e z.0 z.2 z.3 }

later_reads : (now : ℕ) (core : CoreState) (port : Port) (c : Connection) (packet : Packet) (rest : List ℕ) (account : Account) (at : open_at port core ≡ Some c) (later : awaits_first_packet c.stage ≡ false)
    (reads : verdict c.unread ≡ Ok (packet, rest)) (taken : TakesCommand (commands.Packet c.name packet) (changes port (left_with now rest) core) account) → IsOrderly core
    → ReadsAll (later_move now core port c packet rest account at later reads taken)
later_reads now core port c packet rest account at later reads taken o =
    (s.orderly, λ x written read in_transit rest_of end same. by x written read rest_of (subst (IsEnd x core written read) same end) (named x c) refl)
  where
    command : Command
    command = commands.Packet c.name packet

    between : CoreState
    between = changes port (left_with now rest) core

    h : IsChange core between port c (left_with now rest)
    h = left_change now core port c rest at

    s : Stays between account.core
    s = stays_takes command between account taken (changed_orderly core between (is_open_at port) (left_with now rest) o h.are h.same h.up h.name)

    with_name : (x : ConnectionName) (read : List Packet) (b : Bool) → named x c ≡ b → (more : List Packet) → more ≡ (if b then packet ∷ [] else [])
        → (b ≡ true → awaits_first_packet c.stage ≡ is_nothing read) → filter (λ z. is_packet_of z x) (command ∷ []) ≡ packet_commands_from x (length read) more
    with_name x read true e more is nothing = rw (e, is) (later_command x c packet read e (sym later ∙ nothing refl))
    with_name x read false e more is nothing = rw (e, is) refl

    by : (x : ConnectionName) (written read : List Packet) (rest_of : List ℕ) → IsEnd x core written read rest_of → (b : Bool) → named x c ≡ b
        → ReadsOn x (later_move now core port c packet rest account at later reads taken) written read rest_of
    by x written read rest_of end b e =
        let z = read_then x core between account.core port c (left_with now rest) written read rest_of rest packet o h refl later reads s end b e in
        record { more = z.0; end = z.1; proposed = with_name x read b e z.0 z.2 z.3 }

-- ---- bytes are dropped

-- the connection by a port is closed: of one of its name nothing more is read
closed_end : (x : ConnectionName) (core later : CoreState) (port : Port) (written read : List Packet) (in_transit rest : List ℕ) (c : Connection) → IsOrderly core → open_at port core ≡ Some c
    → named x c ≡ true → open_named x later ≡ None → later.last_name ≡ core.last_name → IsEnd x core written read in_transit → IsEnd x later written read rest
closed_end x core later port written read in_transit rest c o at is gone same end =
    is_over (subst (λ (y : ConnectionName). IsGiven y x) (sym same) given) gone (front_of x core written read in_transit end)
  where
    given : IsGiven core.last_name x
    given = subst (IsGiven core.last_name) (same_name c.name x is) (found_given core port c o at)

gone_closed : (x : ConnectionName) (core : CoreState) (port : Port) (c : Connection) → IsOrderly core → open_at port core ≡ Some c → named x c ≡ true →
    open_named x (changes port closed_connection core) ≡ None
unfolding changes
gone_closed x core port c o at is =
    (view_of_changed live (named x) (is_open_at port) closed_connection core.connections c (o.names x) (λ d e. left_true (live d) (is_at port d) e)
    (named_kept x closed_connection (λ d. refl)) at is).1

dropped_end : (x : ConnectionName) (core : CoreState) (port : Port) (piece : List ℕ) (written read : List Packet) (later : List ℕ) → IsOrderly core
    → Stays core (changes port closed_connection core) → (found : Option Connection) → open_at port core ≡ found → IsEnd x core written read (piece_on x piece found ++ later)
    → IsEnd x (changes port closed_connection core) written read later
dropped_end x core port piece written read later o s None at end = end_kept x core (changes port closed_connection core) written read later end (s.kept x) s.last
dropped_end x core port piece written read later o s (Some c) at end = by (named x c) refl
  where
    with_test : (b : Bool) → named x c ≡ b → IsEnd x core written read ((if b then piece else []) ++ later)
    with_test b e = subst (λ (t : Bool). IsEnd x core written read ((if t then piece else []) ++ later)) e end

    by : (b : Bool) → named x c ≡ b → IsEnd x (changes port closed_connection core) written read later
    by true e =
        closed_end x core (changes port closed_connection core) port written read (piece ++ later) later c o at e (gone_closed x core port c o at e) s.last (with_test true e)
    by false e = end_kept x core (changes port closed_connection core) written read later (with_test false e) (s.kept x) s.last

abbrev drop_move : (core : CoreState) (port : Port) (piece : List ℕ) → NodeMoveOrLost core (record { core = changes port closed_connection core; messages = [] })
drop_move core port piece = drops port piece

drop_reads : (core : CoreState) (port : Port) (piece : List ℕ) → IsOrderly core → ReadsAll (drop_move core port piece)
drop_reads core port piece o =
    let s = stays_at port closed_connection core o closed_is_mild in (
      s.orderly,
      λ x written read in_transit later end same.
          none_more x (drop_move core port piece) written read later
          (dropped_end x core port piece written read later o s (open_at port core) refl (subst (IsEnd x core written read) same end)) refl,
    )

-- ---- each move

exact_reads : {core : CoreState} {outcome : StepOutcome} (m : NodeMove core outcome) → IsOrderly core → ReadsAll (let k : NodeMoveOrLost core outcome = exactly m in k)
exact_reads {core = core} {outcome = outcome} m o =
    let r = nodes_read_in_order core outcome m o in (
      r.0,
      λ x written read in_transit later end same.
          let z = r.1 x written read in_transit later end same in record { more = z.more; end = z.end; proposed = z.proposed },
    )

pub losses_read_in_order : LossesReadInOrder
losses_read_in_order core outcome (exactly m) o = exact_reads m o
losses_read_in_order core outcome (hears_losing input account other drives) o =
    stays_reads (hears_losing input account other drives) (stays_drives input core account drives o) (λ x. refl) (λ x. refl)
losses_read_in_order core outcome (first_losing now port c connect rest account at first reads taken) o = first_reads now core port c connect rest account at first reads taken o
losses_read_in_order core outcome (later_losing now port c packet rest account at later reads taken) o = later_reads now core port c packet rest account at later reads taken o
losses_read_in_order core outcome (tells_losing name account taken) o =
    stays_reads (tells_losing name account taken) (stays_takes (commands.Lost name) core account taken o) (λ x. refl) (λ x. refl)
losses_read_in_order core outcome (expels_losing client account taken) o =
    stays_reads (expels_losing client account taken) (stays_takes (commands.Expel client) core account taken o) (λ x. refl) (λ x. refl)
losses_read_in_order core outcome forgets o =
    stays_reads forgets (stays_replica core (record core.replica { losses = one_more core.replica.losses }) (same_le core.replica.state.joined) o) (λ x. refl) (λ x. refl)
losses_read_in_order core outcome halts o =
    stays_reads halts
    (stays_replica core (record { state = halted rules core.replica.state; losses = one_more core.replica.losses }) (same_le core.replica.state.joined) o) (λ x. refl) (λ x. refl)
losses_read_in_order core outcome (fails port) o = stays_reads (fails port) (stays_at port failing core o failing_is_mild) (λ x. refl) (λ x. refl)
losses_read_in_order core outcome unheard o = stays_reads unheard (stays_failed core o) (λ x. refl) (λ x. refl)
losses_read_in_order core outcome (drops port piece) o = drop_reads core port piece o
