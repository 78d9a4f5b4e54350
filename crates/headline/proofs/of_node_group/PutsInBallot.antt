-- What a move proposes to its replica is proposed in the ballot of its name, if the names of open
-- connections are of the ballot.
use Rattle.std.proofs.Common.{◌≡◌, Bool, true, false, nat_lt, if◌then◌else◌, ℕ, List, [], ◌∷◌, map, refl, ◌∙◌, sym, subst}
use Rattle.std.proofs.lemmas.Bool.{both_ways}
use Rattle.lists.specs.Lists.{Each, In}
use Rattle.lists.specs.Lists.In.{here}
use Rattle.lists.proofs.OfEach.{each_append}
use Rattle.ballot_base.specs.Logs.{places}
use Rattle.ballot_base.specs.Service.{max_places}
use Rattle.broker_spec.specs.declared.command.Command.{Command}
use Rattle.broker_spec.specs.declared.command.Command.TheVariants as commands
use Rattle.broker_spec.specs.Connection.{ConnectionName}
use Rattle.exactly_once.specs.StoryCommands.{is_packet_of}
use Rattle.world_base.specs.node_connections.ConnectionChanges.{noted_proposed, left_with}
use Rattle.world_base.specs.node_core.Core.{CoreState, StepOutcome, serves}
use Rattle.world_base.specs.node_core.Lossy.{Account, TakesCommand}
use Rattle.world_base.specs.node_core.PacketInput.{changes}
use Rattle.headline.specs.node_moves.Ends.{IsOrderly}
use Rattle.headline.specs.node_moves.BallotNames.{AreOfTheBallot}
use Rattle.headline.specs.node_moves.LossyNames.{AreWhereItServes}
use Rattle.headline.specs.node_moves.LossyMoves.{NodeMoveOrLost}
use Rattle.headline.specs.node_moves.LossyParts.{move_proposal}
use Rattle.headline.specs.node_moves.LossyRuns.{HearsAtFirst, HearsNothing, MoveTraceOrLost}
use Rattle.headline.specs.node_moves.LossyMoves.NodeMoveOrLost.{exactly, first_losing, later_losing, tells_losing, expels_losing}
use Rattle.headline.specs.node_moves.LossyRuns.MoveTraceOrLost.{rests, goes_on}
use Rattle.headline.specs.node_moves.Moves.{NodeMove}
use Rattle.headline.specs.node_moves.Moves.NodeMove.{reads_first, reads_later, loses_one, loses_next, expels_one}
use Rattle.headline.proofs.of_node_moves.LossyNames.{lossy_names_keep_their_ballot}
use Rattle.headline.proofs.of_node_moves.LossyReads.{losses_read_in_order}
use Rattle.headline.specs.node_group.Ballots.{IsInItsBallot}
use Rattle.headline.specs.node_group.Group.{replica_of}
use Rattle.headline.specs.node_group.Losses.{put_in_move, put_in_run}
use Rattle.headline.specs.node_group.Steps.{put_in_move as exactly_put}
use Rattle.headline.proofs.of_node_group.MovesHappen.{serves_as}
use Rattle.headline.proofs.of_node_group.Replicas.{changes_keep, room_serves}

-- ---- what they put

none_of_a_packet : (core : CoreState) (name : ConnectionName) (b : Bool)
    → Each IsInItsBallot (map (λ command. ((replica_of core).joined, command)) (if b then commands.Lost name ∷ [] else []))
none_of_a_packet core name true = (λ x is. absurd (both_ways (is_packet_of (commands.Lost name) x) refl is), tt)
none_of_a_packet core name false = tt

none_of_an_expel : (core : CoreState) (client : List ℕ) (b : Bool)
    → Each IsInItsBallot (map (λ command. ((replica_of core).joined, command)) (if b then commands.Expel client ∷ [] else []))
none_of_an_expel core client true = (λ x is. absurd (both_ways (is_packet_of (commands.Expel client) x) refl is), tt)
none_of_an_expel core client false = tt

-- what is proposed is put by a node that serves
proposed_in : (core : CoreState) (outcome : StepOutcome) (m : NodeMoveOrLost core outcome) (command : Command) → IsOrderly core → AreWhereItServes core → serves core ≡ true → move_proposal m ≡ command ∷ []
    → IsInItsBallot ((replica_of core).joined, command)
proposed_in core outcome m command o of serving is x named =
    lossy_names_keep_their_ballot.proposes core outcome m o of serving x command (subst (In command) (sym is) here) named

-- who takes a command after a change of connections serves
serves_who_takes : (core between : CoreState) (command : Command) (account : Account) → between.replica ≡ core.replica → TakesCommand command between account → serves core ≡ true
serves_who_takes core between command account same taken =
    sym (serves_as between core same) ∙ room_serves between (nat_lt (places (replica_of between).log) max_places) taken.room

exactly_in : (core : CoreState) (outcome : StepOutcome) (m : NodeMove core outcome) → IsOrderly core → AreWhereItServes core → Each IsInItsBallot (exactly_put m)
exactly_in core outcome (reads_first now port c connect rest at first is room) o of = (
  proposed_in core outcome (exactly (reads_first now port c connect rest at first is room)) (commands.Connect c.name connect.client connect.clean) o of
      (room_serves core (nat_lt (places (replica_of core).log) max_places) room) refl,
  tt,
)
exactly_in core outcome (reads_later now port c packet rest at later is room) o of = (
  proposed_in core outcome (exactly (reads_later now port c packet rest at later is room)) (commands.Packet c.name packet) o of
      (room_serves core (nat_lt (places (replica_of core).log) max_places) room) refl,
  tt,
)
exactly_in core outcome (loses_one port c at asked_before) o of = none_of_a_packet core c.name (serves core)
exactly_in core outcome (loses_next c at) o of = none_of_a_packet core c.name (serves core)
exactly_in core outcome (expels_one client) o of = none_of_an_expel core client (serves core)
exactly_in core outcome m o of = tt

puts_in : (core : CoreState) (outcome : StepOutcome) (m : NodeMoveOrLost core outcome) → IsOrderly core → AreWhereItServes core → Each IsInItsBallot (put_in_move m)
puts_in core outcome (exactly m) o of = exactly_in core outcome m o of
puts_in core outcome (first_losing now port c connect rest account at first is taken) o of = (
  proposed_in core outcome (first_losing now port c connect rest account at first is taken) (commands.Connect c.name connect.client connect.clean) o of
      (serves_who_takes core (changes port (noted_proposed connect.keep_alive) (changes port (left_with now rest) core)) _ account
      (changes_keep port (noted_proposed connect.keep_alive) (changes port (left_with now rest) core) ∙ changes_keep port (left_with now rest) core) taken) refl,
  tt,
)
puts_in core outcome (later_losing now port c packet rest account at later is taken) o of = (
  proposed_in core outcome (later_losing now port c packet rest account at later is taken) (commands.Packet c.name packet) o of
      (serves_who_takes core (changes port (left_with now rest) core) _ account (changes_keep port (left_with now rest) core) taken) refl,
  tt,
)
puts_in core outcome (tells_losing name account taken) o of = none_of_a_packet core name true
puts_in core outcome (expels_losing client account taken) o of = none_of_an_expel core client true
puts_in core outcome m o of = tt

-- ---- runs

-- in a run what is put is put in its ballot; and what stays so after it
pub record RunsWell {core : CoreState} {outcome : StepOutcome} (run : MoveTraceOrLost core outcome) : Type 0 where
  pub orderly : IsOrderly outcome.core
  pub names : AreWhereItServes outcome.core
  pub puts : Each IsInItsBallot (put_in_run run)

orderly_after : (core : CoreState) (outcome : StepOutcome) (m : NodeMoveOrLost core outcome) → IsOrderly core → IsOrderly outcome.core
orderly_after core outcome m o = (losses_read_in_order core outcome m o).0

where_it_serves : (core : CoreState) → AreOfTheBallot core → AreWhereItServes core
where_it_serves core of serving = of

calm_run : {core : CoreState} {outcome : StepOutcome} (run : MoveTraceOrLost core outcome) → HearsNothing run → IsOrderly core → AreWhereItServes core → RunsWell run
calm_run rests calm o of = record { orderly = o; names = of; puts = tt }
calm_run {core = core} (goes_on {first = first} m run) calm o of =
    let r = calm_run run calm.1 (orderly_after core first m o) (lossy_names_keep_their_ballot.moves core first m o calm.0 of) in
    record { orderly = r.orderly; names = r.names; puts = each_append IsInItsBallot (put_in_move m) (put_in_run run) (puts_in core first m o of) r.puts }

pub runs_well : {core : CoreState} {outcome : StepOutcome} (run : MoveTraceOrLost core outcome) → HearsAtFirst run → IsOrderly core → AreOfTheBallot core → RunsWell run
runs_well {core = core} rests first o of = record { orderly = o; names = where_it_serves core of; puts = tt }
runs_well {core = core} (goes_on {first = first} m run) calm o of =
    let r = calm_run run calm (orderly_after core first m o) (lossy_names_keep_their_ballot.hears core first m o of) in
    record {
      orderly = r.orderly;
      names = r.names;
      puts = each_append IsInItsBallot (put_in_move m) (put_in_run run) (puts_in core first m o (where_it_serves core of)) r.puts;
    }
