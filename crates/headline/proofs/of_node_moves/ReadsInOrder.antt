-- Each move of a node reads on in order, on each of its connections.
use Rattle.std.proofs.Common.{◌≡◌, inr, ◌≤◌, ℕ, Bool, true, false, if◌then◌else◌, List, [], ◌∷◌, ◌++◌, length, Option, Some, None, Ok, refl, sym, ap, ◌∙◌, subst, filter, append_assoc}
use Rattle.std.proofs.lemmas.List.{append-nil}
use Rattle.packet.specs.declared.packet.Packet.{Packet}
use Rattle.packet.specs.declared.packet.Packet.TheVariants as packets
use Rattle.packet.specs.declared.connect.Connect.{Connect}
use Rattle.packet_base.specs.declared.refusal_code.RefusalCode.{RefusalCode}
use Rattle.packet.specs.Verdict.{verdict}
use Rattle.broker_spec.specs.declared.command.Command.{Command}
use Rattle.broker_spec.specs.declared.command.Command.TheVariants as commands
use Rattle.broker_spec.specs.Connection.{ConnectionName}
use Rattle.broker_spec.proofs.ConnectionNames.{same_name}
use Rattle.headline.specs.node_moves.Pipe.{Joins, IsPiped}
use Rattle.exactly_once.specs.StoryCommands.{is_packet_of}
use Rattle.world_base.specs.declared.node_connections.port.Port.{Port}
use Rattle.world_base.specs.declared.node_connections.connection.Connection.{Connection}
use Rattle.world_base.specs.node_connections.Connections.{awaits_first_packet, is_at, is_open_at}
use Rattle.world_base.specs.node_connections.ConnectionChanges.{noted_proposed, with_unread, left_with, closed_connection, changed_where}
use Rattle.world_base.specs.node_core.Core.{CoreState, StepOutcome}
use Rattle.world_base.specs.node_core.PacketInput.{changes, open_at}
use Rattle.world_base.specs.node_connections.Refusals.{connect_refused}
use Rattle.world_base.specs.node_core.FailedConnections.{closes_failed}
use Rattle.world_base.specs.node_core.Step.{with_next_connection}
use Rattle.world_base.specs.node_core.Effects.{without_messages, proposes, has_room}
use Rattle.headline.specs.node_moves.Moves.{NodeMove}
use Rattle.headline.specs.node_moves.Moves.NodeMove.{hears, opens_one, holds, reads_first, reads_later, closes, refuses, loses_one, loses_next, expels_one, cuts_log, crashes, settles, hands}
use Rattle.headline.specs.node_moves.Ends.{Precedes, IsGiven, IsOrderly, IsEnd, open_named, move_proposal, came_on, piece_on, stream_of, is_nothing, packet_commands_from}
use Rattle.headline.specs.node_moves.ReadsInOrder.{ReadsOn, NodesReadInOrder}
use Rattle.headline.specs.node_moves.Ends.IsEnd.{not_yet, is_open, is_over}
use Rattle.headline.proofs.of_node_moves.StepsMove.{twice}
use Rattle.headline.proofs.of_node_moves.Views.{view, found_each, found_passes, same_some, some_none, none_changes, view_of_others, view_of_changed}
use Rattle.headline.proofs.of_node_moves.ByVerdict.{gives_next}
use Rattle.headline.proofs.of_node_moves.Kept.{Kept, Stays, IsMild, live, named, named_kept, kept_same, left_true, stays_at, stays_driven, stays_proposed, stays_failed, stays_cut, stays_crashed, stays_settled, stays_handed, stays_joined, closed_is_mild, changed_orderly}
use Rattle.headline.proofs.of_node_moves.NamesInOrder.{same_le, not_both}
use Rattle.headline.proofs.of_node_moves.Opening.{opens_well}
use Rattle.headline.proofs.of_node_moves.Kept.Kept.{never, still, ended}

-- ---- moves that read nothing

pub end_kept : (x : ConnectionName) (core later : CoreState) (written read : List Packet) (in_transit : List ℕ) → IsEnd x core written read in_transit
    → Kept (open_named x core) (open_named x later) → later.last_name ≡ core.last_name → IsEnd x later written read in_transit
end_kept x core later written read in_transit (not_yet below none piped) kept same = not_yet (subst (λ (y : ConnectionName). Precedes y x) (sym same) below) none piped
end_kept x core later written read in_transit (is_open c given is first piped) kept same = by (open_named x core) (open_named x later) kept is refl
  where
    within : IsGiven later.last_name x
    within = subst (λ (y : ConnectionName). IsGiven y x) (sym same) given

    by : (o p : Option Connection) → Kept o p → o ≡ Some c → open_named x later ≡ p → IsEnd x later written read in_transit
    by None None never e f = absurd (some_none c (sym e))
    by None (Some later_d) z e f = elim z [ ]
    by (Some d) (Some later_d) (still s u) e f =
        let one = same_some d c e in
        is_open later_d within f (ap awaits_first_packet s ∙ ap (λ (z : Connection). awaits_first_packet z.stage) one ∙ first)
        (subst (λ (l : List ℕ). IsPiped written read (stream_of l) in_transit) (sym (u ∙ ap (λ (z : Connection). z.unread) one)) piped)
    by (Some d) None ended e f = is_over within f (record { rest = piped.rest; is = piped.is })
end_kept x core later written read in_transit (is_over given is front) kept same = by (open_named x core) (open_named x later) kept is refl
  where
    by : (o p : Option Connection) → Kept o p → o ≡ None → open_named x later ≡ p → IsEnd x later written read in_transit
    by None (Some later_d) z e f = elim z [ ]
    by None None never e f = is_over (subst (λ (y : ConnectionName). IsGiven y x) (sym same) given) f front
    by (Some d) (Some later_d) (still s u) e f = absurd (some_none d e)
    by (Some d) None ended e f = absurd (some_none d e)

-- nothing more is read
none_more : (x : ConnectionName) {core : CoreState} {outcome : StepOutcome} (m : NodeMove core outcome) (written read : List Packet) (later : List ℕ)
    → IsEnd x outcome.core written read later → filter (λ command. is_packet_of command x) (move_proposal m) ≡ [] → ReadsOn x m written read later
none_more x {outcome = outcome} m written read later end none =
    record { more = []; end = subst (λ (ps : List Packet). IsEnd x outcome.core written ps later) (sym (append-nil read)) end; proposed = none }

-- what holds for each connection in a move
abbrev ReadsAll : {core : CoreState} {outcome : StepOutcome} → NodeMove core outcome → Type 0
ReadsAll {core = core} {outcome = outcome} m = IsOrderly outcome.core
    × ((x : ConnectionName) (written read : List Packet) (in_transit later : List ℕ) → IsEnd x core written read in_transit → in_transit ≡ came_on x m ++ later
    → ReadsOn x m written read later)

stays_reads : {core : CoreState} {outcome : StepOutcome} (m : NodeMove core outcome) → Stays core outcome.core → ((x : ConnectionName) → came_on x m ≡ [])
    → ((x : ConnectionName) → filter (λ command. is_packet_of command x) (move_proposal m) ≡ []) → ReadsAll m
stays_reads {core = core} {outcome = outcome} m s no_bytes none = (
  s.orderly,
  λ x written read in_transit later end same.
      none_more x m written read later
      (end_kept x core outcome.core written read later
      (subst (IsEnd x core written read) (same ∙ ap (λ (l : List ℕ). l ++ later) (no_bytes x)) end) (s.kept x) s.last) (none x),
)

-- ---- one connection is changed

-- the connection that is found is the open one of its name
pub found_open : (x : ConnectionName) (core : CoreState) (port : Port) (c : Connection) → IsOrderly core → open_at port core ≡ Some c → named x c ≡ true → open_named x core ≡ Some c
found_open x core port c o at is =
    (view_of_changed live (named x) (is_open_at port) (λ d. d) core.connections c (o.names x) (λ d e. left_true (live d) (is_at port d) e) (λ d. refl) at is).0

pub found_given : (core : CoreState) (port : Port) (c : Connection) → IsOrderly core → open_at port core ≡ Some c → IsGiven core.last_name c.name
found_given core port c o at = found_each (λ (d : Connection). IsGiven core.last_name d.name) (is_open_at port) core.connections c o.given at

pub record IsChange (core later : CoreState) (port : Port) (c : Connection) (f : Connection → Connection) : Type 0 where
  pub are : later.connections ≡ changed_where (is_open_at port) f core.connections
  pub same : later.last_name ≡ core.last_name
  pub up : core.replica.state.joined ≤ later.replica.state.joined
  pub at : open_at port core ≡ Some c
  pub name : (d : Connection) → (f d).name ≡ d.name
  pub lives : live (f c) ≡ true

change_other : (x : ConnectionName) (core later : CoreState) (port : Port) (c : Connection) (f : Connection → Connection) (written read : List Packet) (in_transit : List ℕ)
    → IsChange core later port c f → named x c ≡ false → IsEnd x core written read in_transit → IsEnd x later written read in_transit
change_other x core later port c f written read in_transit h other end =
    end_kept x core later written read in_transit end
    (subst (Kept (open_named x core)) (sym (ap (view live (named x)) h.are ∙ view_of_others live (named x) (is_open_at port) f core.connections c (named_kept x f h.name) h.at other))
    (kept_same (open_named x core)))
    h.same

change_there : (x : ConnectionName) (core later : CoreState) (port : Port) (c : Connection) (f : Connection → Connection) → IsOrderly core
    → IsChange core later port c f → named x c ≡ true → open_named x later ≡ Some (f c)
change_there x core later port c f o h is =
    ap (view live (named x)) h.are
    ∙ (view_of_changed live (named x) (is_open_at port) f core.connections c (o.names x) (λ d e. left_true (live d) (is_at port d) e) (named_kept x f h.name) h.at is).1
    ∙ rw h.lives refl

-- of the open connection: what is known about it, for it is given and not closed
record WasOpen (x : ConnectionName) (core : CoreState) (c : Connection) (written read : List Packet) (in_transit : List ℕ) : Type 0 where
  given : IsGiven core.last_name x
  first : awaits_first_packet c.stage ≡ is_nothing read
  piped : IsPiped written read (stream_of c.unread) in_transit

was_open : (x : ConnectionName) (core : CoreState) (port : Port) (c : Connection) (written read : List Packet) (in_transit : List ℕ) → IsOrderly core
    → open_at port core ≡ Some c → named x c ≡ true → IsEnd x core written read in_transit → WasOpen x core c written read in_transit
was_open x core port c written read in_transit o at is (not_yet below none piped) =
    absurd (not_both core.last_name x below (subst (IsGiven core.last_name) (same_name c.name x is) (found_given core port c o at)))
was_open x core port c written read in_transit o at is (is_open d given there first piped) =
    let one = same_some d c (sym there ∙ found_open x core port c o at is) in
    record {
      given = given;
      first = ap (λ (z : Connection). awaits_first_packet z.stage) (sym one) ∙ first;
      piped = subst (λ (z : Connection). IsPiped written read (stream_of z.unread) in_transit) one piped;
    }
was_open x core port c written read in_transit o at is (is_over given none front) = absurd (some_none c (sym (found_open x core port c o at is) ∙ none))

not_nothing : (read : List Packet) (p : Packet) → false ≡ is_nothing (read ++ p ∷ [])
not_nothing [] p = refl
not_nothing (q ∷ read) p = refl

-- a packet is read off it
one_read : (x : ConnectionName) (core later : CoreState) (port : Port) (c : Connection) (f : Connection → Connection) (written read : List Packet) (in_transit rest : List ℕ)
    (packet : Packet) → IsOrderly core → IsChange core later port c f → named x c ≡ true → (f c).unread ≡ rest → awaits_first_packet (f c).stage ≡ false
    → verdict c.unread ≡ Ok (packet, rest) → WasOpen x core c written read in_transit → IsEnd x later written (read ++ packet ∷ []) in_transit
one_read x core later port c f written read in_transit rest packet o h is left second reads was =
    is_open (f c) (subst (λ (y : ConnectionName). IsGiven y x) (sym h.same) was.given) (change_there x core later port c f o h is) (second ∙ not_nothing read packet)
    (subst (λ (l : List ℕ). IsPiped written (read ++ packet ∷ []) (stream_of l) in_transit) (sym left)
    (gives_next written read c.unread in_transit rest packet was.piped reads))

-- bytes come in on it
one_held : (x : ConnectionName) (core later : CoreState) (port : Port) (c : Connection) (written read : List Packet) (piece in_transit : List ℕ) → IsOrderly core
    → IsChange core later port c (with_unread piece) → named x c ≡ true → WasOpen x core c written read (piece ++ in_transit) → IsEnd x later written read in_transit
one_held x core later port c written read piece in_transit o h is was =
    is_open (with_unread piece c) (subst (λ (y : ConnectionName). IsGiven y x) (sym h.same) was.given) (change_there x core later port c (with_unread piece) o h is) was.first
    (record {
      rest = was.piped.rest;
      is = was.piped.is;
      joined = subst (Joins was.piped.rest) (sym (append_assoc c.unread piece in_transit)) was.piped.joined;
      sound = refl;
    })

-- ---- a packet is read and proposed

-- the connection is changed, and then the command is put to the replica
pub read_then : (x : ConnectionName) (core between later : CoreState) (port : Port) (c : Connection) (f : Connection → Connection) (written read : List Packet)
    (in_transit rest : List ℕ) (packet : Packet) → IsOrderly core → IsChange core between port c f → (f c).unread ≡ rest → awaits_first_packet (f c).stage ≡ false
    → verdict c.unread ≡ Ok (packet, rest) → Stays between later → IsEnd x core written read in_transit → (b : Bool) → named x c ≡ b
    → (more : List Packet) × IsEnd x later written (read ++ more) in_transit
    × (more ≡ (if b then packet ∷ [] else [])) × (b ≡ true → awaits_first_packet c.stage ≡ is_nothing read)
read_then x core between later port c f written read in_transit rest packet o h left second reads s end true is =
    let was = was_open x core port c written read in_transit o h.at is end in (
      packet ∷ [],
      end_kept x between later written (read ++ packet ∷ []) in_transit (one_read x core between port c f written read in_transit rest packet o h is left second reads was) (s.kept x) s.last,
      refl,
      λ e. was.first,
    )
read_then x core between later port c f written read in_transit rest packet o h left second reads s end false other = (
  [],
  subst (λ (ps : List Packet). IsEnd x later written ps in_transit) (sym (append-nil read))
      (end_kept x between later written read in_transit (change_other x core between port c f written read in_transit h other end) (s.kept x) s.last),
  refl,
  λ e. absurd cc,
)

pub first_command : (x : ConnectionName) (c : Connection) (connect : Connect) (read : List Packet) → named x c ≡ true → true ≡ is_nothing read
    → commands.Connect c.name connect.client connect.clean ∷ [] ≡ packet_commands_from x (length read) (packets.Connect connect ∷ [])
first_command x c connect [] is nothing = ap (λ (y : ConnectionName). let one : Command = commands.Connect y connect.client connect.clean in one ∷ []) (same_name c.name x is)
first_command x c connect (p ∷ read) is nothing = absurd cc

pub later_command : (x : ConnectionName) (c : Connection) (packet : Packet) (read : List Packet) → named x c ≡ true → false ≡ is_nothing read
    → commands.Packet c.name packet ∷ [] ≡ packet_commands_from x (length read) (packet ∷ [])
later_command x c packet [] is nothing = absurd cc
later_command x c packet (p ∷ read) is nothing = ap (λ (y : ConnectionName). let one : Command = commands.Packet y packet in one ∷ []) (same_name c.name x is)

pub asked_change : (keep_alive now : ℕ) (core : CoreState) (port : Port) (c : Connection) (rest : List ℕ) → open_at port core ≡ Some c
    → IsChange core (changes port (noted_proposed keep_alive) (changes port (left_with now rest) core)) port c (λ d. noted_proposed keep_alive (left_with now rest d))
unfolding changes
asked_change keep_alive now core port c rest at =
    record { are = twice (is_open_at port) (noted_proposed keep_alive) (left_with now rest) core.connections (λ d e. e); same = refl; up = same_le core.replica.state.joined; at = at; name = λ d. refl; lives = refl }

pub left_change : (now : ℕ) (core : CoreState) (port : Port) (c : Connection) (rest : List ℕ) → open_at port core ≡ Some c → IsChange core (changes port (left_with now rest) core) port c (left_with now rest)
unfolding changes
left_change now core port c rest at =
    record {
      are = refl;
      same = refl;
      up = same_le core.replica.state.joined;
      at = at;
      name = λ d. refl;
      lives = left_true (live c) (is_at port c) (found_passes (is_open_at port) core.connections c at);
    }

abbrev first_move : (now : ℕ) (core : CoreState) (port : Port) (c : Connection) (connect : Connect) (rest : List ℕ) → open_at port core ≡ Some c → awaits_first_packet c.stage ≡ true
    → verdict c.unread ≡ Ok (packets.Connect connect, rest) → has_room core ≡ true
    → NodeMove core (proposes (commands.Connect c.name connect.client connect.clean) (changes port (noted_proposed connect.keep_alive) (changes port (left_with now rest) core)))
first_move now core port c connect rest at first reads room = reads_first now port c connect rest at first reads room

abbrev later_move : (now : ℕ) (core : CoreState) (port : Port) (c : Connection) (packet : Packet) (rest : List ℕ) → open_at port core ≡ Some c → awaits_first_packet c.stage ≡ false
    → verdict c.unread ≡ Ok (packet, rest) → has_room core ≡ true → NodeMove core (proposes (commands.Packet c.name packet) (changes port (left_with now rest) core))
later_move now core port c packet rest at later reads room = reads_later now port c packet rest at later reads room

first_reads : (now : ℕ) (core : CoreState) (port : Port) (c : Connection) (connect : Connect) (rest : List ℕ) (at : open_at port core ≡ Some c) (first : awaits_first_packet c.stage ≡ true)
    (reads : verdict c.unread ≡ Ok (packets.Connect connect, rest)) (room : has_room core ≡ true) → IsOrderly core → ReadsAll (first_move now core port c connect rest at first reads room)
first_reads now core port c connect rest at first reads room o =
    (s.orderly, λ x written read in_transit rest_of end same. by x written read rest_of (subst (IsEnd x core written read) same end) (named x c) refl)
  where
    command : Command
    command = commands.Connect c.name connect.client connect.clean

    between : CoreState
    between = changes port (noted_proposed connect.keep_alive) (changes port (left_with now rest) core)

    h : IsChange core between port c (λ d. noted_proposed connect.keep_alive (left_with now rest d))
    h = asked_change connect.keep_alive now core port c rest at

    s : Stays between (proposes command between).core
    s = stays_proposed command between (changed_orderly core between (is_open_at port) (λ d. noted_proposed connect.keep_alive (left_with now rest d)) o h.are h.same h.up h.name)

    with_name : (x : ConnectionName) (read : List Packet) (b : Bool) → named x c ≡ b → (more : List Packet) → more ≡ (if b then packets.Connect connect ∷ [] else [])
        → (b ≡ true → awaits_first_packet c.stage ≡ is_nothing read) → filter (λ z. is_packet_of z x) (command ∷ []) ≡ packet_commands_from x (length read) more
    with_name x read true e more is nothing = rw (e, is) (first_command x c connect read e (sym first ∙ nothing refl))
    with_name x read false e more is nothing = rw (e, is) refl

    by : (x : ConnectionName) (written read : List Packet) (rest_of : List ℕ) → IsEnd x core written read rest_of → (b : Bool) → named x c ≡ b
        → ReadsOn x (first_move now core port c connect rest at first reads room) written read rest_of
    by x written read rest_of end b e =
        let z = read_then x core between (proposes command between).core port c (λ d. noted_proposed connect.keep_alive (left_with now rest d)) written read rest_of rest (packets.Connect connect) o h refl refl reads s end b e in
        record { more = z.0; end = z.1; proposed = with_name x read b e z.0 z.2 z.3 }

later_reads : (now : ℕ) (core : CoreState) (port : Port) (c : Connection) (packet : Packet) (rest : List ℕ) (at : open_at port core ≡ Some c) (later : awaits_first_packet c.stage ≡ false)
    (reads : verdict c.unread ≡ Ok (packet, rest)) (room : has_room core ≡ true) → IsOrderly core → ReadsAll (later_move now core port c packet rest at later reads room)
later_reads now core port c packet rest at later reads room o =
    (s.orderly, λ x written read in_transit rest_of end same. by x written read rest_of (subst (IsEnd x core written read) same end) (named x c) refl)
  where
    command : Command
    command = commands.Packet c.name packet

    between : CoreState
    between = changes port (left_with now rest) core

    h : IsChange core between port c (left_with now rest)
    h = left_change now core port c rest at

    s : Stays between (proposes command between).core
    s = stays_proposed command between (changed_orderly core between (is_open_at port) (left_with now rest) o h.are h.same h.up h.name)

    with_name : (x : ConnectionName) (read : List Packet) (b : Bool) → named x c ≡ b → (more : List Packet) → more ≡ (if b then packet ∷ [] else [])
        → (b ≡ true → awaits_first_packet c.stage ≡ is_nothing read) → filter (λ z. is_packet_of z x) (command ∷ []) ≡ packet_commands_from x (length read) more
    with_name x read true e more is nothing = rw (e, is) (later_command x c packet read e (sym later ∙ nothing refl))
    with_name x read false e more is nothing = rw (e, is) refl

    by : (x : ConnectionName) (written read : List Packet) (rest_of : List ℕ) → IsEnd x core written read rest_of → (b : Bool) → named x c ≡ b
        → ReadsOn x (later_move now core port c packet rest at later reads room) written read rest_of
    by x written read rest_of end b e =
        let z = read_then x core between (proposes command between).core port c (left_with now rest) written read rest_of rest (packet) o h refl later reads s end b e in
        record { more = z.0; end = z.1; proposed = with_name x read b e z.0 z.2 z.3 }

-- ---- bytes come in

held_change : (core : CoreState) (port : Port) (c : Connection) (piece : List ℕ) → open_at port core ≡ Some c → IsChange core (changes port (with_unread piece) core) port c (with_unread piece)
unfolding changes
held_change core port c piece at =
    record {
      are = refl;
      same = refl;
      up = same_le core.replica.state.joined;
      at = at;
      name = λ d. refl;
      lives = left_true (live c) (is_at port c) (found_passes (is_open_at port) core.connections c at);
    }

held_none : (core : CoreState) (port : Port) (piece : List ℕ) → open_at port core ≡ None → changes port (with_unread piece) core ≡ core
unfolding changes
held_none core port piece none = ap (λ (l : List Connection). record core { connections = l }) (none_changes (is_open_at port) (with_unread piece) core.connections none)

held_orderly : (core : CoreState) (port : Port) (piece : List ℕ) → IsOrderly core → IsOrderly (changes port (with_unread piece) core)
unfolding changes
held_orderly core port piece o = changed_orderly core (changes port (with_unread piece) core) (is_open_at port) (with_unread piece) o refl refl (same_le core.replica.state.joined) (λ d. refl)

held_end : (x : ConnectionName) (core : CoreState) (port : Port) (piece : List ℕ) (written read : List Packet) (later : List ℕ) → IsOrderly core
    → (found : Option Connection) → open_at port core ≡ found → IsEnd x core written read (piece_on x piece found ++ later)
    → IsEnd x (changes port (with_unread piece) core) written read later
held_end x core port piece written read later o None at end = subst (λ (k : CoreState). IsEnd x k written read later) (sym (held_none core port piece at)) end
held_end x core port piece written read later o (Some c) at end = by (named x c) refl
  where
    h : IsChange core (changes port (with_unread piece) core) port c (with_unread piece)
    h = held_change core port c piece at

    with_test : (b : Bool) → named x c ≡ b → IsEnd x core written read ((if b then piece else []) ++ later)
    with_test b e = subst (λ (t : Bool). IsEnd x core written read ((if t then piece else []) ++ later)) e end

    by : (b : Bool) → named x c ≡ b → IsEnd x (changes port (with_unread piece) core) written read later
    by true e =
        one_held x core (changes port (with_unread piece) core) port c written read piece later o h e
        (was_open x core port c written read (piece ++ later) o at e (with_test true e))
    by false e = change_other x core (changes port (with_unread piece) core) port c (with_unread piece) written read later h e (with_test false e)

abbrev hold_move : (core : CoreState) (port : Port) (piece : List ℕ) → NodeMove core (without_messages (changes port (with_unread piece) core))
hold_move core port piece = holds port piece

hold_reads : (core : CoreState) (port : Port) (piece : List ℕ) → IsOrderly core → ReadsAll (hold_move core port piece)
hold_reads core port piece o = (
  held_orderly core port piece o,
  λ x written read in_transit later end same.
      none_more x (hold_move core port piece) written read later
      (held_end x core port piece written read later o (open_at port core) refl (subst (IsEnd x core written read) same end)) refl,
)

-- ---- each move

abbrev open_move : (core : CoreState) (port : Port) → NodeMove core (without_messages (with_next_connection port core))
open_move core port = opens_one port

open_reads : (core : CoreState) (port : Port) → IsOrderly core → ReadsAll (open_move core port)
open_reads core port o =
    let w = opens_well port core o in (
      w.orderly,
      λ x written read in_transit later end same.
          none_more x (open_move core port) written read later (w.end x written read later (subst (IsEnd x core written read) same end)) refl,
    )

refused_is_mild : (code : RefusalCode) → IsMild (connect_refused code)
refused_is_mild code = record { name = λ c. refl; stage = λ c. inr refl }

pub nodes_read_in_order : NodesReadInOrder
nodes_read_in_order core outcome (hears input other) o = stays_reads (hears input other) (stays_driven input core o) (λ x. refl) (λ x. refl)
nodes_read_in_order core outcome (opens_one port) o = open_reads core port o
nodes_read_in_order core outcome (holds port piece) o = hold_reads core port piece o
nodes_read_in_order core outcome (reads_first now port c connect rest at first reads room) o = first_reads now core port c connect rest at first reads room o
nodes_read_in_order core outcome (reads_later now port c packet rest at later reads room) o = later_reads now core port c packet rest at later reads room o
nodes_read_in_order core outcome (closes port) o = stays_reads (closes port) (stays_at port closed_connection core o closed_is_mild) (λ x. refl) (λ x. refl)
nodes_read_in_order core outcome (refuses port c code at first is) o =
    stays_reads (refuses port c code at first is) (stays_at port (connect_refused code) core o (refused_is_mild code)) (λ x. refl) (λ x. refl)
nodes_read_in_order core outcome (loses_one port c at proposed) o =
    let s = stays_at port closed_connection core o closed_is_mild in
    stays_reads (loses_one port c at proposed)
    (stays_joined core (changes port closed_connection core) (proposes (commands.Lost c.name) (changes port closed_connection core)).core s
    (stays_proposed (commands.Lost c.name) (changes port closed_connection core) s.orderly)) (λ x. refl) (λ x. refl)
nodes_read_in_order core outcome (loses_next c at) o =
    let s = stays_failed core o in
    stays_reads (loses_next c at)
    (stays_joined core (closes_failed core) (proposes (commands.Lost c.name) (closes_failed core)).core s
    (stays_proposed (commands.Lost c.name) (closes_failed core) s.orderly)) (λ x. refl) (λ x. refl)
nodes_read_in_order core outcome (expels_one client) o =
    stays_reads (expels_one client) (stays_proposed (commands.Expel client) core o) (λ x. refl) (λ x. refl)
nodes_read_in_order core outcome (cuts_log can) o = stays_reads (cuts_log can) (stays_cut core o) (λ x. refl) (λ x. refl)
nodes_read_in_order core outcome crashes o = stays_reads crashes (stays_crashed core o) (λ x. refl) (λ x. refl)
nodes_read_in_order core outcome settles o = stays_reads settles (stays_settled core o) (λ x. refl) (λ x. refl)
nodes_read_in_order core outcome (hands port) o = stays_reads (hands port) (stays_handed port core o) (λ x. refl) (λ x. refl)
