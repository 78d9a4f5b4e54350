-- Whatever bytes come to nodes, they propose at most one Connect under each name.
use Rattle.std.proofs.Common.{◌≡◌, ◌⊎◌, inl, inr, ◌≤◌, ◌+◌, ℕ, Bool, true, false, if◌then◌else◌, List, [], ◌∷◌, ◌++◌, filter, length, map, Option, Some, None, slice_get, slice_set, refl, sym, ap, ◌∙◌, subst, arith, length-append}
use Rattle.std.specs.List.{find}
use Rattle.std.proofs.lemmas.Bool.{both_ways}
use Rattle.std.proofs.lemmas.List.Elements.{filter-append}
use Rattle.lists.specs.Lists.{Each, In, IsPrefixOf}
use Rattle.lists.specs.Lists.In.{there}
use Rattle.lists.proofs.OfEach.{each_left, each_right, each_then}
use Rattle.packet.specs.declared.connect.Connect.{Connect}
use Rattle.packet.specs.declared.packet.Packet.{Packet}
use Rattle.ballot_base.specs.declared.config.Config.{Config}
use Rattle.agreement.specs.MasterState.{refusal}
use Rattle.agreement.specs.Proposals.{commands_of}
use Rattle.broker_spec.specs.declared.command.Command.{Command}
use Rattle.broker_spec.specs.declared.command.Command.TheVariants as commands
use Rattle.broker_spec.specs.Connection.{ConnectionName, same_connection}
use Rattle.broker_spec.specs.EndingTheorems.{is_connect_of}
use Rattle.broker_spec.proofs.ConnectionNames.{same_name}
use Rattle.exactly_once.proofs.Takes.{same_name_self}
use Rattle.exactly_once.specs.StoryCommands.{is_packet_of}
use Rattle.world_base.specs.declared.node_connections.connection.Connection.{Connection}
use Rattle.world_base.specs.declared.node_connections.port.Port.{Port}
use Rattle.world_base.specs.declared.node_core.item.Item.TheVariants.{Peer, Tick, Opened, Bytes, Ended, Expel, Cut, Crash}
use Rattle.world_base.specs.node_connections.Connections.{awaits_first_packet, is_open_at}
use Rattle.world_base.specs.node_connections.ConnectionChanges.{changed_where, left_with, noted_proposed}
use Rattle.world_base.specs.node_core.Core.{CoreState, StepOutcome, serves}
use Rattle.world_base.specs.node_core.PacketInput.{changes, open_at}
use Rattle.world_base.specs.node_core.Step.{next_name}
use Rattle.headline.specs.node_moves.Closed.{listed_named}
use Rattle.headline.specs.node_moves.Ends.{AtMostOne, IsEnd, IsGiven, IsOrderly, Precedes, packet_commands_from, piece_on}
use Rattle.headline.specs.node_moves.Ends.IsEnd.{not_yet, is_over}
use Rattle.headline.specs.node_moves.LossyMoves.{NodeMoveOrLost}
use Rattle.headline.specs.node_moves.LossyMoves.NodeMoveOrLost.{exactly, hears_losing, first_losing, later_losing, tells_losing, expels_losing, forgets, halts, fails, unheard, drops}
use Rattle.headline.specs.node_moves.LossyParts.{came_on, move_proposal}
use Rattle.headline.specs.node_moves.LossyRuns.{MoveTraceOrLost, bytes_on}
use Rattle.headline.specs.node_moves.LossyRuns.MoveTraceOrLost.{rests, goes_on}
use Rattle.headline.specs.node_moves.Moves.{NodeCall}
use Rattle.headline.specs.node_moves.Moves.NodeCall.{takes, hands_out}
use Rattle.headline.specs.node_moves.Moves.NodeMove.{hears, opens_one, holds, reads_first, reads_later, closes, refuses, loses_one, loses_next, expels_one, cuts_log, crashes, settles, hands}
use Rattle.headline.proofs.of_node_moves.Kept.{named}
use Rattle.headline.proofs.of_node_moves.EachKept.{each_proposed}
use Rattle.headline.proofs.of_node_moves.LossyReads.{losses_read_in_order}
use Rattle.headline.proofs.of_node_moves.NamesInOrder.{cases_name, next_precedes, not_both}
use Rattle.headline.proofs.of_node_moves.ProposesInOrder.{front_of}
use Rattle.headline.proofs.of_node_moves.ReadsInOrder.{found_given}
use Rattle.headline.proofs.of_node_moves.StepsMove.{twice}
use Rattle.headline.proofs.of_node_moves.Views.{found_each, same_some}
use Rattle.headline.proofs.of_packet_world.Answers.{of_name}
use Rattle.headline.proofs.of_packet_world.Lists.{same_or_other}
use Rattle.headline.specs.node_group.Group.{Group, replica_of}
use Rattle.headline.specs.node_group.Losses.{commands_put, put_in_move, put_in_run}
use Rattle.headline.specs.node_group.Steps.{GroupStep, GroupTrace, all_proposed, groups_on_trace, put_in_step}
use Rattle.headline.specs.node_group.Steps.GroupStep.{node_acts, node_loses, master_assigns, master_hears, assigns_unheard, answers_unheard}
use Rattle.headline.specs.node_group.Steps.GroupTrace.{opened, then_went}
use Rattle.headline.proofs.of_node_group.CarriedInOrder.{assigned_nodes}
use Rattle.headline.proofs.of_node_group.Given.{stays_given}
use Rattle.headline.proofs.of_node_group.LosingNone.{losing_none, same_bytes, same_put}
use Rattle.headline.proofs.of_node_group.NamesInGroups.{all_well, each_got}
use Rattle.headline.proofs.of_node_group.Placed.{get_of_set}
use Rattle.headline.proofs.of_node_group.States.{set_back, unlisted_shut}
use Rattle.headline.specs.byte_world.Apart.{HasName}
use Rattle.headline.specs.byte_world.Transport.{IsFaithful, coming_with, node_call_of}
use Rattle.headline.proofs.of_byte_world.NamesApart.{names_stay_apart}
use Rattle.headline.proofs.of_byte_world.NodesGoOn.{came_so, of_each}
use Rattle.headline.proofs.of_byte_world.PipesHold.{found_there, none_found}
use Rattle.one_client.specs.Calls.{AreFaithful, BringsBytes, IsByte, calls_on}
use Rattle.one_client.specs.Proposals.{NamesConnectOnce}
use Rattle.one_client.proofs.Followers.{IsFollowed, bytes_kept, each_taken, kept}
use Rattle.one_client.proofs.PortBytes.{now_there, same_core}
use Rattle.one_client.proofs.ProposedInRange.{call_brings}

-- ---- Connects in lists

abbrev connects_in : ConnectionName → List Command → List Command
connects_in x commands = filter (is_connect_of x) commands

pub rows_joined : (rows more : List (ℕ × Command)) → commands_of (rows ++ more) ≡ commands_of rows ++ commands_of more
rows_joined [] more = refl
rows_joined (row ∷ rows) more = ap (λ l. row.1 ∷ l) (rows_joined rows more)

pub rows_of : (ballot : ℕ) (commands : List Command) → commands_of (map (λ (command : Command). (ballot, command)) commands) ≡ commands
rows_of ballot [] = refl
rows_of ballot (command ∷ commands) = ap (λ l. command ∷ l) (rows_of ballot commands)

-- how many there are among rows
abbrev count : ConnectionName → List (ℕ × Command) → ℕ
count x rows = length (connects_in x (commands_of rows))

count_joined : (x : ConnectionName) (rows more : List (ℕ × Command)) → count x (rows ++ more) ≡ count x rows + count x more
count_joined x rows more =
    ap (λ l. length (connects_in x l)) (rows_joined rows more)
    ∙ ap length (filter-append (is_connect_of x) (commands_of rows) (commands_of more))
    ∙ length-append (connects_in x (commands_of rows)) (connects_in x (commands_of more))

-- a Connect of a name is a packet of it
pub connect_named : (x : ConnectionName) (command : Command) → is_packet_of command x ≡ false → is_connect_of x command ≡ false
connect_named x (commands.Connect y c clean) none = by (same_connection x y) refl
  where
    by : (b : Bool) → same_connection x y ≡ b → same_connection x y ≡ false
    by false e = e
    by true e = absurd (both_ways (same_connection y x) none (ap (λ z. same_connection y z) (same_name x y e) ∙ same_name_self y))
connect_named x (commands.Packet y packet) none = refl
connect_named x (commands.Lost y) none = refl
connect_named x (commands.Start b) none = refl
connect_named x (commands.Expel d) none = refl

none_connects : (x : ConnectionName) (commands : List Command) → filter (of_name x) commands ≡ [] → connects_in x commands ≡ []
none_connects x [] none = refl
none_connects x (command ∷ commands) none = by (is_packet_of command x) refl none (none_connects x commands)
  where
    by : (b : Bool) → is_packet_of command x ≡ b → (if b then command ∷ filter (of_name x) commands else filter (of_name x) commands) ≡ []
        → (filter (of_name x) commands ≡ [] → connects_in x commands ≡ []) → (if is_connect_of x command then command ∷ connects_in x commands else connects_in x commands) ≡ []
    by true e f ih = cc
    by false e f ih = rw (connect_named x command e) (ih f)

-- ---- one move

-- what a node proposes, and a Connect only if it reads one
if_serving : (x : ConnectionName) (b : Bool) (command : Command) → is_connect_of x command ≡ false → connects_in x (if b then command ∷ [] else []) ≡ []
if_serving x true command other = rw other refl
if_serving x false command other = refl

pub same_connects : (x : ConnectionName) {core : CoreState} {outcome : StepOutcome} (m : NodeMoveOrLost core outcome) → connects_in x (commands_put m) ≡ connects_in x (move_proposal m)
same_connects x {core = core} (exactly (loses_one port c at asked)) = if_serving x (serves core) (commands.Lost c.name) refl
same_connects x {core = core} (exactly (loses_next c at)) = if_serving x (serves core) (commands.Lost c.name) refl
same_connects x {core = core} (exactly (expels_one client)) = if_serving x (serves core) (commands.Expel client) refl
same_connects x (exactly (reads_first now port c connect rest at first is room)) = refl
same_connects x (exactly (reads_later now port c packet rest at later is room)) = refl
same_connects x (exactly (hears input other)) = refl
same_connects x (exactly (opens_one port)) = refl
same_connects x (exactly (holds port piece)) = refl
same_connects x (exactly (closes port)) = refl
same_connects x (exactly (refuses port c code at first is)) = refl
same_connects x (exactly (cuts_log can)) = refl
same_connects x (exactly crashes) = refl
same_connects x (exactly settles) = refl
same_connects x (exactly (hands port)) = refl
same_connects x (hears_losing input account other drives) = refl
same_connects x (first_losing now port c connect rest account at first is taken) = refl
same_connects x (later_losing now port c packet rest account at later is taken) = refl
same_connects x (tells_losing name account taken) = refl
same_connects x (expels_losing client account taken) = refl
same_connects x forgets = refl
same_connects x halts = refl
same_connects x (fails port) = refl
same_connects x unheard = refl
same_connects x (drops port piece) = refl

move_counts : (x : ConnectionName) {core : CoreState} {outcome : StepOutcome} (m : NodeMoveOrLost core outcome) → count x (put_in_move m) ≡ length (connects_in x (move_proposal m))
move_counts x {core = core} m = ap (λ l. length (connects_in x l)) (rows_of (replica_of core).joined (commands_put m)) ∙ ap length (same_connects x m)

-- ---- a name that the node does not have, and on which no bytes come

no_cons : {X : Type 0} (x : X) (xs : List X) → x ∷ xs ≡ [] → ⊥
no_cons x xs e = cc

empty_parts : {X : Type 0} (xs ys : List X) → xs ++ ys ≡ [] → (xs ≡ []) × (ys ≡ [])
empty_parts [] ys e = (refl, e)
empty_parts (x ∷ xs) ys e = absurd (no_cons x (xs ++ ys) e)

pub none_before : {X : Type 0} (xs : List X) → IsPrefixOf xs [] → xs ≡ []
none_before [] front = refl
none_before (x ∷ xs) front = absurd (no_cons x (xs ++ front.rest) (sym front.is))

pub silent_run : (x : ConnectionName) (core : CoreState) (outcome : StepOutcome) (run : MoveTraceOrLost core outcome) → IsOrderly core → IsEnd x core [] [] [] → bytes_on x run ≡ []
    → count x (put_in_run run) ≡ 0
silent_run x core outcome rests o end none = refl
silent_run x core outcome (goes_on {first = first} {next = next} m run) o end none =
    let parts = empty_parts (came_on x m) (bytes_on x run) none in
    let all = losses_read_in_order core first m o in
    let one = all.1 x [] [] [] [] end (sym (ap (λ l. l ++ []) parts.0)) in
    let nothing : one.more ≡ [] = none_before one.more (front_of x first.core [] one.more [] one.end) in
    let said : connects_in x (move_proposal m) ≡ [] = none_connects x (move_proposal m) (one.proposed ∙ ap (packet_commands_from x 0) nothing) in
    let rest = silent_run x first.core next run all.0 (subst (λ (ps : List Packet). IsEnd x first.core [] ps []) nothing one.end) parts.1 in
    let first_count : count x (put_in_move m) ≡ 0 = move_counts x m ∙ ap length said in
    let both = count_joined x (put_in_move m) (put_in_run run) in
    omega (arith, first_count, rest, both)

-- it is still to come, or was closed
pub no_end : (x : ConnectionName) (core : CoreState) → listed_named x core ≡ None → IsEnd x core [] [] []
no_end x core none = by (cases_name core.last_name x)
  where
    by : Precedes core.last_name x ⊎ IsGiven core.last_name x → IsEnd x core [] [] []
    by (inl below) = not_yet below refl (record { rest = []; is = refl; joined = refl; sound = refl })
    by (inr given) = is_over given (unlisted_shut x core none) (record { rest = []; is = refl })

-- ---- a name whose CONNECT was read

-- a connection of the name does not await its first packet
abbrev IsPast : ConnectionName → Connection → Type 0
IsPast x c = c.name ≡ x → awaits_first_packet c.stage ≡ true → ⊥

follows_past : (x : ConnectionName) → IsFollowed (IsPast x)
follows_past x c d f past is waits = past (sym f.name ∙ is) (f.waits waits)

record WasAsked (x : ConnectionName) (core : CoreState) : Type 0 where
  given : IsGiven core.last_name x
  past : Each (IsPast x) core.connections

-- a Connect is proposed on the connection from which it is read
abbrev one_connect : ConnectionName → Connection → Connect → List Command
one_connect x c connect = connects_in x (commands.Connect c.name connect.client connect.clean ∷ [])

not_asked : (x : ConnectionName) (c : Connection) (connect : Connect) → (c.name ≡ x → ⊥) → one_connect x c connect ≡ []
not_asked x c connect other = by (same_connection x c.name) refl
  where
    by : (b : Bool) → same_connection x c.name ≡ b → (if b then commands.Connect c.name connect.client connect.clean ∷ [] else []) ≡ []
    by true e = absurd (other (sym (same_name x c.name e)))
    by false e = refl

found_past : (x : ConnectionName) (core : CoreState) (port : Port) (c : Connection) → open_at port core ≡ Some c → awaits_first_packet c.stage ≡ true → Each (IsPast x) core.connections → c.name ≡ x → ⊥
found_past x core port c at waits all is = found_each (IsPast x) (is_open_at port) core.connections c all at is waits

-- in a move of a node that has asked no Connect of the name is proposed
asked_says : (x : ConnectionName) (core : CoreState) (outcome : StepOutcome) (m : NodeMoveOrLost core outcome) → Each (IsPast x) core.connections → connects_in x (move_proposal m) ≡ []
asked_says x core outcome (exactly (reads_first now port c connect rest at first is room)) all = not_asked x c connect (found_past x core port c at first all)
asked_says x core outcome (first_losing now port c connect rest account at first is taken) all = not_asked x c connect (found_past x core port c at first all)
asked_says x core outcome (exactly (reads_later now port c packet rest at later is room)) all = refl
asked_says x core outcome (exactly (loses_one port c at asked)) all = refl
asked_says x core outcome (exactly (loses_next c at)) all = refl
asked_says x core outcome (exactly (expels_one client)) all = refl
asked_says x core outcome (exactly (hears input other)) all = refl
asked_says x core outcome (exactly (opens_one port)) all = refl
asked_says x core outcome (exactly (holds port piece)) all = refl
asked_says x core outcome (exactly (closes port)) all = refl
asked_says x core outcome (exactly (refuses port c code at first is)) all = refl
asked_says x core outcome (exactly (cuts_log can)) all = refl
asked_says x core outcome (exactly crashes) all = refl
asked_says x core outcome (exactly settles) all = refl
asked_says x core outcome (exactly (hands port)) all = refl
asked_says x core outcome (hears_losing input account other drives) all = refl
asked_says x core outcome (later_losing now port c packet rest account at later is taken) all = refl
asked_says x core outcome (tells_losing name account taken) all = refl
asked_says x core outcome (expels_losing client account taken) all = refl
asked_says x core outcome forgets all = refl
asked_says x core outcome halts all = refl
asked_says x core outcome (fails port) all = refl
asked_says x core outcome unheard all = refl
asked_says x core outcome (drops port piece) all = refl

abbrev BringsInRun : {core : CoreState} {outcome : StepOutcome} → MoveTraceOrLost core outcome → Type 0
BringsInRun run = (x : ConnectionName) → Each IsByte (bytes_on x run)

asked_move : (x : ConnectionName) (core : CoreState) (outcome : StepOutcome) (m : NodeMoveOrLost core outcome) → IsOrderly core → ((y : ConnectionName) → Each IsByte (came_on y m)) → WasAsked x core
    → WasAsked x outcome.core
asked_move x core outcome m o brings asked =
    record {
      given = stays_given x core outcome m o asked.given;
      past = bytes_kept (IsPast x) (follows_past x) (λ piece c brings_so past. past) core outcome m
          (λ port fits is waits. not_both core.last_name (next_name core) (next_precedes core o.within) (subst (IsGiven core.last_name) (sym is) asked.given)) brings asked.past;
    }

asked_run : (x : ConnectionName) (core : CoreState) (outcome : StepOutcome) (run : MoveTraceOrLost core outcome) → IsOrderly core → BringsInRun run → WasAsked x core
    → (count x (put_in_run run) ≡ 0) × WasAsked x outcome.core
asked_run x core outcome rests o brings asked = (refl, asked)
asked_run x core outcome (goes_on {first = first} {next = next} m run) o brings asked =
    let now = asked_move x core first m o (λ y. each_left IsByte (came_on y m) (bytes_on y run) (brings y)) asked in
    let rest = asked_run x first.core next run (losses_read_in_order core first m o).0 (λ y. each_right IsByte (came_on y m) (bytes_on y run) (brings y)) now in
    let first_count : count x (put_in_move m) ≡ 0 = move_counts x m ∙ ap length (asked_says x core first m asked.past) in
    let more = rest.0 in
    let both = count_joined x (put_in_move m) (put_in_run run) in
    (omega (arith, first_count, more, both), rest.1)

-- ---- the move in which it is read

-- all others have other names
others_past : (x : ConnectionName) (cs : List Connection) → Each (λ (c : Connection). named x c ≡ false) cs → Each (IsPast x) cs
others_past x cs none =
    each_then (λ (c : Connection). named x c ≡ false) (IsPast x) cs
    (λ c other is waits. both_ways (named x c) other (ap (λ (y : ConnectionName). same_connection y x) is ∙ same_name_self x)) none

read_past : (x : ConnectionName) (test : Connection → Bool) (f : Connection → Connection) (cs : List Connection) (c : Connection) → AtMostOne (named x) cs → find test cs ≡ Some c → named x c ≡ true
    → ((d : Connection) → awaits_first_packet (f d).stage ≡ false) → Each (IsPast x) (changed_where test f cs)
read_past x test f [] c one found mine noted = tt
read_past x test f (d ∷ cs) c one found mine noted = by (test d) found (λ g. read_past x test f cs c one.1 g mine noted)
  where
    apart : find test cs ≡ Some c → (b : Bool) → named x d ≡ b → named x d ≡ false
    apart g false e = e
    apart g true e = absurd (both_ways (named x c) (found_each (λ (z : Connection). named x z ≡ false) test cs c (one.0 e) g) mine)

    by : (b : Bool) → (if b then Some d else find test cs) ≡ Some c → (find test cs ≡ Some c → Each (IsPast x) (changed_where test f cs))
        → Each (IsPast x) (if b then f d ∷ cs else d ∷ changed_where test f cs)
    by true g rest =
        let same : d ≡ c = same_some d c g in
        (λ is waits. both_ways (awaits_first_packet (f d).stage) (noted d) waits, others_past x cs (one.0 (ap (named x) same ∙ mine)))
    by false g rest = (λ is waits. both_ways (named x d) (apart g (named x d) refl) (ap (λ (y : ConnectionName). same_connection y x) is ∙ same_name_self x), rest g)

-- when the CONNECT of the name's connection was read
noted_past : (x : ConnectionName) (core : CoreState) (now : ℕ) (port : Port) (c : Connection) (keep_alive : ℕ) (rest : List ℕ) → IsOrderly core → open_at port core ≡ Some c → c.name ≡ x
    → Each (IsPast x) (changes port (noted_proposed keep_alive) (changes port (left_with now rest) core)).connections
unfolding changes
noted_past x core now port c keep_alive rest o at is =
    subst (Each (IsPast x)) (sym (twice (is_open_at port) (noted_proposed keep_alive) (left_with now rest) core.connections (λ d e. e)))
    (read_past x (is_open_at port) (λ d. noted_proposed keep_alive (left_with now rest d)) core.connections c (o.names x) at
    (ap (λ (y : ConnectionName). same_connection y x) is ∙ same_name_self x) (λ d. refl))

asked_now : (x : ConnectionName) (core : CoreState) (outcome : StepOutcome) (m : NodeMoveOrLost core outcome) (port : Port) (c : Connection) → IsOrderly core → open_at port core ≡ Some c → c.name ≡ x
    → Each (IsPast x) outcome.core.connections → WasAsked x outcome.core
asked_now x core outcome m port c o at is past =
    record { given = stays_given x core outcome m o (subst (IsGiven core.last_name) is (found_given core port c o at)); past = past }

-- a move says nothing of the name, or asks
abbrev SaysOnce : ConnectionName → {core : CoreState} {outcome : StepOutcome} → NodeMoveOrLost core outcome → Type 0
SaysOnce x {outcome = outcome} m = (connects_in x (move_proposal m) ≡ []) ⊎ ((length (connects_in x (move_proposal m)) ≡ 1) × WasAsked x outcome.core)

one_is : (x : ConnectionName) (c : Connection) (connect : Connect) → c.name ≡ x → length (one_connect x c connect) ≡ 1
one_is x c connect is =
    ap (λ (b : Bool). length (if b then commands.Connect c.name connect.client connect.clean ∷ [] else []))
    (ap (λ (y : ConnectionName). same_connection x y) is ∙ same_name_self x)

move_once : (x : ConnectionName) (core : CoreState) (outcome : StepOutcome) (m : NodeMoveOrLost core outcome) → IsOrderly core → SaysOnce x m
move_once x core outcome (exactly (reads_first now port c connect rest at first is room)) o = by (same_connection x c.name) refl
  where
    by : (b : Bool) → same_connection x c.name ≡ b → SaysOnce x (let m : NodeMoveOrLost core outcome = exactly (reads_first now port c connect rest at first is room) in m)
    by false e = inl (not_asked x c connect (λ same. both_ways (same_connection x c.name) e (ap (λ (y : ConnectionName). same_connection x y) same ∙ same_name_self x)))
    by true e =
        let mine : c.name ≡ x = sym (same_name x c.name e) in
        inr (
          one_is x c connect mine,
          asked_now x core outcome (exactly (reads_first now port c connect rest at first is room)) port c o at mine
              (each_proposed (IsPast x) (kept (IsPast x) (follows_past x)) (commands.Connect c.name connect.client connect.clean)
              (changes port (noted_proposed connect.keep_alive) (changes port (left_with now rest) core)) (noted_past x core now port c connect.keep_alive rest o at mine)),
        )
move_once x core outcome (first_losing now port c connect rest account at first is taken) o = by (same_connection x c.name) refl
  where
    by : (b : Bool) → same_connection x c.name ≡ b → SaysOnce x (let m : NodeMoveOrLost core outcome = first_losing now port c connect rest account at first is taken in m)
    by false e = inl (not_asked x c connect (λ same. both_ways (same_connection x c.name) e (ap (λ (y : ConnectionName). same_connection x y) same ∙ same_name_self x)))
    by true e =
        let mine : c.name ≡ x = sym (same_name x c.name e) in
        inr (
          one_is x c connect mine,
          asked_now x core outcome (first_losing now port c connect rest account at first is taken) port c o at mine
              (each_taken (IsPast x) (follows_past x) (commands.Connect c.name connect.client connect.clean)
              (changes port (noted_proposed connect.keep_alive) (changes port (left_with now rest) core)) account taken (noted_past x core now port c connect.keep_alive rest o at mine)),
        )
move_once x core outcome (exactly (reads_later now port c packet rest at later is room)) o = inl refl
move_once x core outcome (exactly (loses_one port c at asked)) o = inl refl
move_once x core outcome (exactly (loses_next c at)) o = inl refl
move_once x core outcome (exactly (expels_one client)) o = inl refl
move_once x core outcome (exactly (hears input other)) o = inl refl
move_once x core outcome (exactly (opens_one port)) o = inl refl
move_once x core outcome (exactly (holds port piece)) o = inl refl
move_once x core outcome (exactly (closes port)) o = inl refl
move_once x core outcome (exactly (refuses port c code at first is)) o = inl refl
move_once x core outcome (exactly (cuts_log can)) o = inl refl
move_once x core outcome (exactly crashes) o = inl refl
move_once x core outcome (exactly settles) o = inl refl
move_once x core outcome (exactly (hands port)) o = inl refl
move_once x core outcome (hears_losing input account other drives) o = inl refl
move_once x core outcome (later_losing now port c packet rest account at later is taken) o = inl refl
move_once x core outcome (tells_losing name account taken) o = inl refl
move_once x core outcome (expels_losing client account taken) o = inl refl
move_once x core outcome forgets o = inl refl
move_once x core outcome halts o = inl refl
move_once x core outcome (fails port) o = inl refl
move_once x core outcome unheard o = inl refl
move_once x core outcome (drops port piece) o = inl refl

-- so does a run
run_once : (x : ConnectionName) (core : CoreState) (outcome : StepOutcome) (run : MoveTraceOrLost core outcome) → IsOrderly core → BringsInRun run
    → (count x (put_in_run run) ≡ 0) ⊎ ((count x (put_in_run run) ≡ 1) × WasAsked x outcome.core)
run_once x core outcome rests o brings = inl refl
run_once x core outcome (goes_on {first = first} {next = next} m run) o brings =
    let later : BringsInRun run = λ y. each_right IsByte (came_on y m) (bytes_on y run) (brings y) in
    by later (run_once x first.core next run (losses_read_in_order core first m o).0 later) (move_once x core first m o)
  where
    both : count x (put_in_move m ++ put_in_run run) ≡ count x (put_in_move m) + count x (put_in_run run)
    both = count_joined x (put_in_move m) (put_in_run run)

    on : count x (put_in_move m) ≡ 0 → (count x (put_in_run run) ≡ 0) ⊎ ((count x (put_in_run run) ≡ 1) × WasAsked x next.core)
        → (count x (put_in_move m ++ put_in_run run) ≡ 0) ⊎ ((count x (put_in_move m ++ put_in_run run) ≡ 1) × WasAsked x next.core)
    on quiet (inl none) = let b = both in inl (omega (arith, quiet, none, b))
    on quiet (inr (one, asked)) = let b = both in inr (omega (arith, quiet, one, b), asked)

    by : BringsInRun run → (count x (put_in_run run) ≡ 0) ⊎ ((count x (put_in_run run) ≡ 1) × WasAsked x next.core) → SaysOnce x m
        → (count x (put_in_move m ++ put_in_run run) ≡ 0) ⊎ ((count x (put_in_move m ++ put_in_run run) ≡ 1) × WasAsked x next.core)
    by later ih (inl none) = on (move_counts x m ∙ ap length none) ih
    by later ih (inr (one, asked)) =
        let rest = asked_run x first.core next run (losses_read_in_order core first m o).0 later asked in
        let first_count : count x (put_in_move m) ≡ 1 = move_counts x m ∙ one in
        let none = rest.0 in
        let b = both in
        inr (omega (arith, first_count, none, b), rest.1)

-- ---- a group

-- no Connect of the name was proposed, or one, by a node that had its connection
data AskedOnce (x : ConnectionName) {nodes : ℕ} {config : Config} {g : Group} (went : GroupTrace nodes config g) : Type 0 where
  nobody : count x (all_proposed went) ≡ 0 → AskedOnce x went
  somebody : count x (all_proposed went) ≡ 1 → (n : ℕ) (e : Group) → In e (groups_on_trace went) → HasName x e n
      → ((core : CoreState) → slice_get g.nodes n ≡ Some core → WasAsked x core) → AskedOnce x went

-- bytes that come on a connection of the name come to a node that has it
pub unlisted_silent : (x : ConnectionName) (node_call : NodeCall) (core : CoreState) → listed_named x core ≡ None → coming_with x node_call core ≡ []
unlisted_silent x (takes (Bytes port piece now)) core none = by (open_at port core) refl
  where
    by : (o : Option Connection) → open_at port core ≡ o → piece_on x piece o ≡ []
    by None e = refl
    by (Some c) e =
        ap (λ (b : Bool). let l : List ℕ = if b then piece else [] in l)
        (of_each (λ (z : Connection). named x z ≡ false) (none_found (named x) core.connections none) (found_there port core c e).among)
unlisted_silent x (takes (Peer message)) core none = refl
unlisted_silent x (takes (Tick now)) core none = refl
unlisted_silent x (takes (Opened port now)) core none = refl
unlisted_silent x (takes (Ended port)) core none = refl
unlisted_silent x (takes (Expel client)) core none = refl
unlisted_silent x (takes Cut) core none = refl
unlisted_silent x (takes Crash) core none = refl
unlisted_silent x (hands_out port) core none = refl

module _ (x : ConnectionName) {nodes : ℕ} {config : Config} {g h : Group} (went : GroupTrace nodes config g) (step : GroupStep g h) where
  -- the step proposes no Connect of the name, and the node that asked stays as it was
  still_nobody : count x (all_proposed went) ≡ 0 → count x (put_in_step step) ≡ 0 → AskedOnce x (then_went went step)
  still_nobody none quiet = let both = count_joined x (all_proposed went) (put_in_step step) in nobody (omega (arith, none, quiet, both))

  still_somebody : count x (all_proposed went) ≡ 1 → count x (put_in_step step) ≡ 0 → (n : ℕ) (e : Group) → In e (groups_on_trace went) → HasName x e n
      → ((core : CoreState) → slice_get h.nodes n ≡ Some core → WasAsked x core) → AskedOnce x (then_went went step)
  still_somebody one quiet n e among had asked =
      let both = count_joined x (all_proposed went) (put_in_step step) in
      somebody (omega (arith, one, quiet, both)) n e (there among) had asked

  -- a node acts
  module _ (m : ℕ) (core : CoreState) (outcome : StepOutcome) (run : MoveTraceOrLost core outcome) (at : slice_get g.nodes m ≡ Some core) (are : h.nodes ≡ slice_set g.nodes m outcome.core)
      (rows : put_in_run run ≡ put_in_step step) (brings : BringsInRun run) (silent : listed_named x core ≡ None → bytes_on x run ≡ []) where
    o : IsOrderly core
    o = (each_got _ g.nodes m core (all_well nodes config g went).0 at).orderly

    counts : count x (put_in_run run) ≡ count x (put_in_step step)
    counts = ap (count x) rows

    -- if the node does not have the name
    unlisted : listed_named x core ≡ None → count x (put_in_step step) ≡ 0
    unlisted none = sym counts ∙ silent_run x core outcome run o (no_end x core none) (silent none)

    has_now : (d : Connection) → listed_named x core ≡ Some d → HasName x g m
    has_now d listed = record { core = core; stands = at; connection = d; listed = listed }

    -- the node after the step
    mine : WasAsked x outcome.core → (later : CoreState) → slice_get h.nodes m ≡ Some later → WasAsked x later
    mine asked later stood =
        subst (WasAsked x) (same_core outcome.core later (sym (get_of_set g.nodes m core outcome.core at) ∙ sym (ap (λ l. slice_get l m) are) ∙ stood)) asked

    from_nobody : count x (all_proposed went) ≡ 0 → AskedOnce x (then_went went step)
    from_nobody none = by (listed_named x core) refl
      where
        on : (d : Connection) → listed_named x core ≡ Some d → (count x (put_in_run run) ≡ 0) ⊎ ((count x (put_in_run run) ≡ 1) × WasAsked x outcome.core) → AskedOnce x (then_went went step)
        on d listed (inl quiet) = still_nobody none (sym counts ∙ quiet)
        on d listed (inr (one, asked)) =
            let both = count_joined x (all_proposed went) (put_in_step step) in
            let now : count x (put_in_step step) ≡ 1 = sym counts ∙ one in
            somebody (omega (arith, none, now, both)) m g (there (now_there went)) (has_now d listed) (mine asked)

        by : (p : Option Connection) → listed_named x core ≡ p → AskedOnce x (then_went went step)
        by None e = still_nobody none (unlisted e)
        by (Some d) e = on d e (run_once x core outcome run o brings)

    from_somebody : count x (all_proposed went) ≡ 1 → (n : ℕ) (e : Group) → In e (groups_on_trace went) → HasName x e n → ((k : CoreState) → slice_get g.nodes n ≡ Some k → WasAsked x k)
        → AskedOnce x (then_went went step)
    from_somebody one n e among had asked = by (same_or_other n m)
      where
        other : (n ≡ m → ⊥) → (p : Option Connection) → listed_named x core ≡ p → AskedOnce x (then_went went step)
        other apart (Some d) listed = absurd (apart (names_stay_apart nodes config g went x e g n m among (now_there went) had (has_now d listed)))
        other apart None listed =
            still_somebody one (unlisted listed) n e among had (λ later stood. on later (set_back g.nodes m n outcome.core later (ap (λ l. slice_get l n) (sym are) ∙ stood)))
          where
            on : (later : CoreState) → ((n ≡ m) × (later ≡ outcome.core)) ⊎ (slice_get g.nodes n ≡ Some later) → WasAsked x later
            on later (inl (same, is)) = absurd (apart same)
            on later (inr stood) = asked later stood

        by : (n ≡ m) ⊎ (n ≡ m → ⊥) → AskedOnce x (then_went went step)
        by (inl same) =
            let r = asked_run x core outcome run o brings (asked core (ap (slice_get g.nodes) same ∙ at)) in
            still_somebody one (sym counts ∙ r.0) n e among had (λ later stood. mine r.1 later (ap (slice_get h.nodes) (sym same) ∙ stood))
        by (inr apart) = other apart (listed_named x core) refl

    node_asks : AskedOnce x went → AskedOnce x (then_went went step)
    node_asks (nobody none) = from_nobody none
    node_asks (somebody one n e among had asked) = from_somebody one n e among had asked

  -- the nodes rest
  rests_asked : h.nodes ≡ g.nodes → put_in_step step ≡ [] → AskedOnce x went → AskedOnce x (then_went went step)
  rests_asked are none (nobody zero_so) = still_nobody zero_so (ap (count x) none)
  rests_asked are none (somebody one n e among had asked) = still_somebody one (ap (count x) none) n e among had (λ core stood. asked core (ap (λ l. slice_get l n) (sym are) ∙ stood))

step_asks : (x : ConnectionName) {nodes : ℕ} {config : Config} (g h : Group) (went : GroupTrace nodes config g) (step : GroupStep g h) → IsFaithful step → BringsBytes (node_call_of step) → AskedOnce x went
    → AskedOnce x (then_went went step)
step_asks x g h went (node_acts n core node_call outcome run at is first sent) faithful brings asked =
    node_asks x went (node_acts n core node_call outcome run at is first sent) n core outcome (losing_none run) at refl (same_put run)
    (λ y. subst (Each IsByte) (sym (same_bytes y run ∙ (faithful y).0)) (call_brings n y node_call core brings))
    (λ none. same_bytes x run ∙ (faithful x).0 ∙ unlisted_silent x node_call core none) asked
step_asks x g h went (node_loses n core item outcome kept by at runs sent thinned) faithful brings asked =
    node_asks x went (node_loses n core item outcome kept by at runs sent thinned) n core outcome by.run at refl refl
    (λ y. subst (Each IsByte) (sym (by.bytes y ∙ came_so y item core)) (call_brings n y (takes item) core brings))
    (λ none. by.bytes x ∙ came_so x item core ∙ unlisted_silent x (takes item) core none) asked
step_asks x g h went (master_assigns wanted) faithful brings asked = rests_asked x went (master_assigns wanted) (assigned_nodes g wanted (refusal g.master wanted)) refl asked
step_asks x g h went (master_hears from ballot sent) faithful brings asked = rests_asked x went (master_hears from ballot sent) refl refl asked
step_asks x g h went (assigns_unheard wanted) faithful brings asked = rests_asked x went (assigns_unheard wanted) refl refl asked
step_asks x g h went (answers_unheard from ballot sent) faithful brings asked = rests_asked x went (answers_unheard from ballot sent) refl refl asked

asked_once : (x : ConnectionName) {nodes : ℕ} {config : Config} (g : Group) (went : GroupTrace nodes config g) → AreFaithful went → Each BringsBytes (calls_on went) → AskedOnce x went
asked_once x g (opened greatest can) faithful brings = nobody refl
asked_once x h (then_went {group = g} went step) faithful brings = step_asks x g h went step faithful.1 brings.0 (asked_once x g went faithful.0 brings.1)

-- ---- the law

pub names_connect_once : NamesConnectOnce
names_connect_once nodes config g went x faithful brings = by (asked_once x g went faithful brings)
  where
    by : AskedOnce x went → count x (all_proposed went) ≤ 1
    by (nobody none) = omega (arith, none)
    by (somebody one n e among had asked) = omega (arith, one)
