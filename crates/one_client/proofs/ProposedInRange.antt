-- Whatever bytes come to nodes, each packet that they propose is in its ranges.
use Rattle.std.proofs.Common.{◌≡◌, ℕ, Bool, true, false, if◌then◌else◌, List, [], ◌∷◌, Option, Some, None, Ok, sym, ◌∙◌, subst}
use Rattle.lists.specs.Lists.{Each}
use Rattle.lists.proofs.OfEach.{each_append, each_left, each_right, each_then}
use Rattle.packet.specs.Spelling.{IsPacket}
use Rattle.packet.specs.declared.connect.Connect.{Connect}
use Rattle.packet.specs.declared.packet.Packet.{Packet}
use Rattle.packet.specs.declared.packet.Packet.TheVariants as packets
use Rattle.packet.specs.Verdict.{verdict}
use Rattle.ballot_base.specs.declared.config.Config.{Config}
use Rattle.agreement.specs.MasterState.{refusal}
use Rattle.agreement.specs.Proposals.{commands_of}
use Rattle.broker_spec.specs.declared.command.Command.{Command}
use Rattle.broker_spec.specs.declared.command.Command.TheVariants as commands
use Rattle.broker_spec.specs.Connection.{ConnectionName, IsConnectionName, same_connection}
use Rattle.world_base.specs.declared.node_connections.connection.Connection.{Connection}
use Rattle.world_base.specs.declared.node_connections.port.Port.{Port}
use Rattle.world_base.specs.declared.node_core.item.Item.TheVariants.{Peer, Tick, Opened, Bytes, Ended, Expel, Cut, Crash}
use Rattle.world_base.specs.node_connections.Connections.{is_open_at}
use Rattle.world_base.specs.node_connections.ConnectionChanges.{with_unread}
use Rattle.world_base.specs.node_core.Core.{CoreState, StepOutcome, serves}
use Rattle.world_base.specs.node_core.PacketInput.{open_at}
use Rattle.headline.specs.node_moves.Ends.{piece_on}
use Rattle.headline.specs.node_moves.LossyMoves.{NodeMoveOrLost}
use Rattle.headline.specs.node_moves.LossyMoves.NodeMoveOrLost.{exactly, hears_losing, first_losing, later_losing, tells_losing, expels_losing, forgets, halts, fails, unheard, drops}
use Rattle.headline.specs.node_moves.LossyParts.{came_on}
use Rattle.headline.specs.node_moves.LossyRuns.{MoveTraceOrLost, bytes_on}
use Rattle.headline.specs.node_moves.LossyRuns.MoveTraceOrLost.{rests, goes_on}
use Rattle.headline.specs.node_moves.Moves.{NodeCall, NodeMove}
use Rattle.headline.specs.node_moves.Moves.NodeCall.{takes, hands_out}
use Rattle.headline.specs.node_moves.Moves.NodeMove.{hears, opens_one, holds, reads_first, reads_later, closes, refuses, loses_one, loses_next, expels_one, cuts_log, crashes, settles, hands}
use Rattle.headline.proofs.Places.{each_of_made}
use Rattle.headline.proofs.of_node_moves.Views.{found_each}
use Rattle.headline.proofs.of_packet_world.Lists.{each_set}
use Rattle.headline.specs.node_group.Group.{Group, replica_of}
use Rattle.headline.specs.node_group.Losses.{commands_put, put_in_move, put_in_run}
use Rattle.headline.specs.node_group.Proposals.{commands_put as exactly_put}
use Rattle.headline.specs.node_group.Steps.{GroupStep, GroupTrace, all_proposed, put_in_step}
use Rattle.headline.specs.node_group.Steps.GroupStep.{node_acts, node_loses, master_assigns, master_hears, assigns_unheard, answers_unheard}
use Rattle.headline.specs.node_group.Steps.GroupTrace.{opened, then_went}
use Rattle.headline.specs.byte_world.Transport.{IsFaithful, coming_with, node_call_of}
use Rattle.headline.proofs.of_byte_world.NodesGoOn.{came_so}
use Rattle.headline.proofs.of_node_group.CarriedInOrder.{assigned_nodes, no_connections}
use Rattle.headline.proofs.of_node_group.LosingNone.{losing_none, same_bytes, same_put}
use Rattle.headline.proofs.of_node_group.NamesInGroups.{each_got}
use Rattle.one_client.specs.Calls.{AreFaithful, BringsBytes, IsByte, calls_on}
use Rattle.one_client.specs.Proposals.{IsInRange, ProposalsAreInRange}
use Rattle.one_client.proofs.Followers.{IsFollowed, begins, bytes_kept}

-- ---- one connection

-- it has a name in its ranges, and holds bytes
record IsSound (c : Connection) : Type 0 where
  name : IsConnectionName c.name
  unread : Each IsByte c.unread

follows_sound : IsFollowed IsSound
follows_sound c d f sound = record { name = subst IsConnectionName (sym f.name) sound.name; unread = f.bytes sound.unread }

holds_sound : (piece : List ℕ) (c : Connection) → Each IsByte piece → IsSound c → IsSound (with_unread piece c)
holds_sound piece c brings sound = record { name = sound.name; unread = each_append IsByte c.unread piece sound.unread brings }

abbrev AreSound : CoreState → Type 0
AreSound core = Each IsSound core.connections

-- ---- one move

first_in_range : (x : ConnectionName) (connect : Connect) → IsConnectionName x → IsPacket (packets.Connect connect) → IsInRange (commands.Connect x connect.client connect.clean)
first_in_range x connect named fits = (named, fits.0.1)

later_in_range : (x : ConnectionName) (packet : Packet) → IsConnectionName x → IsPacket packet → IsInRange (commands.Packet x packet)
later_in_range x packet named fits = (named, fits.0, (fits.1, fits.2))

found_sound : (core : CoreState) (port : Port) (c : Connection) → open_at port core ≡ Some c → AreSound core → IsSound c
found_sound core port c at all = found_each IsSound (is_open_at port) core.connections c all at

read_whole : (core : CoreState) (port : Port) (c : Connection) (packet : Packet) (rest : List ℕ) → open_at port core ≡ Some c → verdict c.unread ≡ Ok (packet, rest) → AreSound core → IsPacket packet
read_whole core port c packet rest at is all = (begins c.unread packet rest (found_sound core port c at all).unread is).whole

-- a command that is proposed if the node serves
if_serving : (b : Bool) (command : Command) → IsInRange command → Each IsInRange (if b then command ∷ [] else [])
if_serving true command fits = (fits, tt)
if_serving false command fits = tt

exactly_in_range : (core : CoreState) (outcome : StepOutcome) (m : NodeMove core outcome) → AreSound core → Each IsInRange (exactly_put m)
exactly_in_range core outcome (reads_first now port c connect rest at first is room) all =
    (first_in_range c.name connect (found_sound core port c at all).name (read_whole core port c _ rest at is all), tt)
exactly_in_range core outcome (reads_later now port c packet rest at later is room) all =
    (later_in_range c.name packet (found_sound core port c at all).name (read_whole core port c packet rest at is all), tt)
exactly_in_range core outcome (loses_one port c at asked) all = if_serving (serves core) (commands.Lost c.name) tt
exactly_in_range core outcome (loses_next c at) all = if_serving (serves core) (commands.Lost c.name) tt
exactly_in_range core outcome (expels_one client) all = if_serving (serves core) (commands.Expel client) tt
exactly_in_range core outcome (hears input other) all = tt
exactly_in_range core outcome (opens_one port) all = tt
exactly_in_range core outcome (holds port piece) all = tt
exactly_in_range core outcome (closes port) all = tt
exactly_in_range core outcome (refuses port c code at first is) all = tt
exactly_in_range core outcome (cuts_log can) all = tt
exactly_in_range core outcome crashes all = tt
exactly_in_range core outcome settles all = tt
exactly_in_range core outcome (hands port) all = tt

move_in_range : (core : CoreState) (outcome : StepOutcome) (m : NodeMoveOrLost core outcome) → AreSound core → Each IsInRange (commands_put m)
move_in_range core outcome (exactly m) all = exactly_in_range core outcome m all
move_in_range core outcome (first_losing now port c connect rest account at first is taken) all =
    (first_in_range c.name connect (found_sound core port c at all).name (read_whole core port c _ rest at is all), tt)
move_in_range core outcome (later_losing now port c packet rest account at later is taken) all =
    (later_in_range c.name packet (found_sound core port c at all).name (read_whole core port c packet rest at is all), tt)
move_in_range core outcome (tells_losing name account taken) all = (tt, tt)
move_in_range core outcome (expels_losing client account taken) all = (tt, tt)
move_in_range core outcome (hears_losing input account other drives) all = tt
move_in_range core outcome forgets all = tt
move_in_range core outcome halts all = tt
move_in_range core outcome (fails port) all = tt
move_in_range core outcome unheard all = tt
move_in_range core outcome (drops port piece) all = tt

-- ---- a run

abbrev RowInRange : ℕ × Command → Type 0
RowInRange row = IsInRange row.1

record RunsInRange {core : CoreState} {outcome : StepOutcome} (run : MoveTraceOrLost core outcome) : Type 0 where
  sound : AreSound outcome.core
  rows : Each RowInRange (put_in_run run)

run_in_range : (core : CoreState) (outcome : StepOutcome) (run : MoveTraceOrLost core outcome) → ((x : ConnectionName) → Each IsByte (bytes_on x run)) → AreSound core → RunsInRange run
run_in_range core outcome rests brings all = record { sound = all; rows = tt }
run_in_range core outcome (goes_on {first = first} {next = next} m run) brings all =
    let sound = bytes_kept IsSound follows_sound holds_sound core first m (λ port fits. record { name = fits; unread = tt }) (λ x. each_left IsByte (came_on x m) (bytes_on x run) (brings x)) all in
    let rest = run_in_range first.core next run (λ x. each_right IsByte (came_on x m) (bytes_on x run) (brings x)) sound in
    record {
      sound = rest.sound;
      rows = each_append RowInRange (put_in_move m) (put_in_run run)
          (each_of_made (λ (command : Command). ((replica_of core).joined, command)) RowInRange (commands_put m) (move_in_range core first m all)) rest.rows;
    }

-- ---- a group

-- what comes with a call on a connection are bytes
piece_bytes : (x : ConnectionName) (piece : List ℕ) (o : Option Connection) → Each IsByte piece → Each IsByte (piece_on x piece o)
piece_bytes x piece None brings = tt
piece_bytes x piece (Some c) brings = by (same_connection c.name x)
  where
    by : (b : Bool) → Each IsByte (if b then piece else [])
    by true = brings
    by false = tt

pub call_brings : (n : ℕ) (x : ConnectionName) (node_call : NodeCall) (core : CoreState) → BringsBytes (Some (n, node_call)) → Each IsByte (coming_with x node_call core)
call_brings n x (takes (Bytes port piece now)) core brings = piece_bytes x piece (open_at port core) brings
call_brings n x (takes (Peer message)) core brings = tt
call_brings n x (takes (Tick now)) core brings = tt
call_brings n x (takes (Opened port now)) core brings = tt
call_brings n x (takes (Ended port)) core brings = tt
call_brings n x (takes (Expel client)) core brings = tt
call_brings n x (takes Cut) core brings = tt
call_brings n x (takes Crash) core brings = tt
call_brings n x (hands_out port) core brings = tt

record StepsInRange {g h : Group} (step : GroupStep g h) : Type 0 where
  nodes : Each AreSound h.nodes
  rows : Each RowInRange (put_in_step step)

step_in_range : (g h : Group) (step : GroupStep g h) → IsFaithful step → BringsBytes (node_call_of step) → Each AreSound g.nodes → StepsInRange step
step_in_range g h (node_acts n core node_call outcome run at is first sent) faithful brings all =
    let r = run_in_range core outcome (losing_none run) (λ x. subst (Each IsByte) (sym (same_bytes x run ∙ (faithful x).0)) (call_brings n x node_call core brings)) (each_got AreSound g.nodes n core all at) in
    record { nodes = each_set AreSound g.nodes n outcome.core all r.sound; rows = subst (Each RowInRange) (same_put run) r.rows }
step_in_range g h (node_loses n core item outcome kept by at runs sent thinned) faithful brings all =
    let r = run_in_range core outcome by.run (λ x. subst (Each IsByte) (sym (by.bytes x ∙ came_so x item core)) (call_brings n x (takes item) core brings)) (each_got AreSound g.nodes n core all at) in
    record { nodes = each_set AreSound g.nodes n outcome.core all r.sound; rows = r.rows }
step_in_range g h (master_assigns wanted) faithful brings all =
    record { nodes = subst (Each AreSound) (sym (assigned_nodes g wanted (refusal g.master wanted))) all; rows = tt }
step_in_range g h (master_hears from ballot sent) faithful brings all = record { nodes = all; rows = tt }
step_in_range g h (assigns_unheard wanted) faithful brings all = record { nodes = all; rows = tt }
step_in_range g h (answers_unheard from ballot sent) faithful brings all = record { nodes = all; rows = tt }

all_in_range : {nodes : ℕ} {config : Config} (g : Group) (went : GroupTrace nodes config g) → AreFaithful went → Each BringsBytes (calls_on went)
    → Each AreSound g.nodes × Each RowInRange (all_proposed went)
all_in_range {nodes = nodes} {config = config} g (opened greatest can) faithful brings =
    (each_then (λ (core : CoreState). core.connections ≡ []) AreSound g.nodes (λ core none. subst (Each IsSound) (sym none) tt) (no_connections nodes config), tt)
all_in_range h (then_went {group = g} went step) faithful brings =
    let before = all_in_range g went faithful.0 brings.1 in
    let s = step_in_range g h step faithful.1 brings.0 before.0 in
    (s.nodes, each_append RowInRange (all_proposed went) (put_in_step step) before.1 s.rows)

-- ---- the law

of_rows : (rows : List (ℕ × Command)) → Each RowInRange rows → Each IsInRange (commands_of rows)
of_rows [] all = tt
of_rows (row ∷ rows) all = (all.0, of_rows rows all.1)

pub proposals_are_in_range : ProposalsAreInRange
proposals_are_in_range nodes config g went faithful brings = of_rows (all_proposed went) (all_in_range g went faithful brings).1
