-- Names keep their ballot: from the opening of a node on, in each move, and with the settling after
-- what its replica receives.
use Rattle.std.proofs.Common.{◌≡◌, inl, inr, Bool, true, false, not, ◌&&◌, if◌then◌else◌, [], ◌∷◌, Some, refl, sym, ap, ◌∙◌}
use Rattle.std.proofs.lemmas.Bool.{both_ways}
use Rattle.ballot_base.specs.Protocol.{Input, replica_step}
use Rattle.ballot_base.specs.Replica.{ReplicaState, is_active}
use Rattle.ballot_base.specs.StepOutcome.{Outcome, nothing_done}
use Rattle.broker_base.specs.State.{State}
use Rattle.broker_spec.specs.declared.command.Command.{Command}
use Rattle.broker_spec.specs.declared.command.Command.TheVariants as commands
use Rattle.broker_spec.specs.Connection.{ConnectionName, same_connection}
use Rattle.broker_spec.specs.declared.command.Output.{Output}
use Rattle.lists.specs.Lists.{In}
use Rattle.lists.specs.Lists.In.{here, there}
use Rattle.exactly_once.specs.StoryCommands.{is_packet_of}
use Rattle.world_base.specs.declared.node_connections.port.Port.{Port}
use Rattle.world_base.specs.declared.node_connections.connection.Connection.{Connection}
use Rattle.world_base.specs.node_connections.Connections.{is_at, is_open_at, is_closed}
use Rattle.world_base.specs.node_core.Core.{CoreState, StepOutcome, rules, serves}
use Rattle.world_base.specs.node_core.PacketInput.{open_at}
use Rattle.world_base.specs.node_core.Step.{crashed, settled, with_cut}
use Rattle.world_base.specs.node_core.Effects.{drives, outcome_of_input}
use Rattle.headline.specs.node_moves.Closed.{listed_named}
use Rattle.headline.specs.node_moves.Ends.{IsOrderly, move_proposal}
use Rattle.headline.specs.node_moves.BallotNames.{AreOfTheBallot, NamesKeepTheirBallot}
use Rattle.headline.specs.node_moves.Moves.{NodeMove}
use Rattle.headline.specs.node_moves.Moves.NodeMove.{hears, opens_one, holds, reads_first, reads_later, closes, refuses, loses_one, loses_next, expels_one, cuts_log, crashes, settles, hands}
use Rattle.headline.proofs.of_node_moves.Views.{found_passes, view_of_changed}
use Rattle.headline.proofs.of_node_moves.Kept.{left_true, live, named, stays_cut, stays_driven}
use Rattle.headline.proofs.of_node_moves.MovesOfReplica.{move_same, moved_replica, settled_replica}
use Rattle.headline.proofs.of_node_moves.OpenAfter.{open_if, settled_open, shuts_open}
use Rattle.headline.proofs.of_node_moves.ReplicaLeads.{StaysOr, step_stays}
use Rattle.headline.proofs.of_node_moves.Shut.{all}
use Rattle.headline.proofs.of_node_moves.ShutByOutputs.{bytes_for, driven_shuts}
use Rattle.headline.proofs.of_node_moves.NamesInMoves.{move_of}

-- ---- what the replica receives

pub drives_state : (input : Input Command) (core : CoreState) → (drives input core).core.replica.state ≡ (outcome_of_input input core.replica.state).state
unfolding drives
drives_state input core = moved_replica (outcome_of_input input core.replica.state) core

pub heard_stays : (input : Input Command) (r : ReplicaState State Command) → StaysOr r (outcome_of_input input r).state
heard_stays input r = by r.stopped
  where
    by : (b : Bool) → StaysOr r (let o : Outcome State Command Output = if b then nothing_done Output r else replica_step rules r input in o).state
    by true = inl refl
    by false = step_stays rules r input

heard_of : (core : CoreState) (input : Input Command) → IsOrderly core → AreOfTheBallot core → (x : ConnectionName) (d : Connection)
    → listed_named x (settled (drives input core).core) ≡ Some d → is_closed d.stage ≡ false
    → (serves (settled (drives input core).core) ≡ true) × (x.ballot ≡ (settled (drives input core).core).replica.state.joined)
heard_of core input o of x d e lives = (
  ap (λ r. serves (let k : CoreState = record { replica = r; last_name = record { ballot = 0; count = 0 }; connections = [] } in k)) (settled_replica later) ∙ leads,
  before.1 ∙ sym (ap (λ (r : ReplicaState State Command). r.joined) state ∙ joined (heard_stays input core.replica.state))
      ∙ sym (ap (λ r. r.state.joined) (settled_replica later)),
)
  where
    later : CoreState
    later = (drives input core).core

    z : (serves later ≡ true) × (listed_named x later ≡ Some d)
    z = settled_open x later d (stays_driven input core o).orderly e lives

    leads : serves later ≡ true
    leads = z.0

    state : later.replica.state ≡ (outcome_of_input input core.replica.state).state
    state = drives_state input core

    was : (c : Connection) × (listed_named x core ≡ Some c) × (is_closed c.stage ≡ false)
    was = shuts_open (bytes_for x (outcome_of_input input core.replica.state).effects) (listed_named x core) (listed_named x later) d (driven_shuts x input core o) z.1 lives

    before : (serves core ≡ true) × (x.ballot ≡ core.replica.state.joined)
    before = of.each x was.0 was.1 was.2

    joined : StaysOr core.replica.state (outcome_of_input input core.replica.state).state → (outcome_of_input input core.replica.state).state.joined ≡ core.replica.state.joined
    joined (inl same) = same
    joined (inr passive) =
        absurd (both_ways (is_active later.replica.state.role) (ap (λ (r : ReplicaState State Command). is_active r.role) state ∙ passive)
        (left_true (is_active later.replica.state.role) (not later.replica.state.stopped) leads))

-- it stops
pub and_false : (b : Bool) → (b && false) ≡ false
and_false true = refl
and_false false = refl

orderly_crashed : (core : CoreState) → IsOrderly core → IsOrderly (crashed core)
orderly_crashed core o = record { names = o.names; given = o.given; within = o.within }

-- it cuts its log
cut_of : (core : CoreState) → IsOrderly core → AreOfTheBallot core → (x : ConnectionName) (d : Connection) → listed_named x (settled (with_cut core)) ≡ Some d →
    is_closed d.stage ≡ false → (serves (settled (with_cut core)) ≡ true) × (x.ballot ≡ (settled (with_cut core)).replica.state.joined)
cut_of core o of x d e lives =
    let z = settled_open x (with_cut core) d (stays_cut core o).orderly e lives in
    let b = of.each x d z.1 lives in (
      ap (λ r. serves (let k : CoreState = record { replica = r; last_name = record { ballot = 0; count = 0 }; connections = [] } in k)) (settled_replica (with_cut core)) ∙ z.0,
      b.1 ∙ sym (ap (λ r. r.state.joined) (settled_replica (with_cut core))),
    )

-- ---- what is proposed

pub proposed_of : (core : CoreState) (port : Port) (c : Connection) (x : ConnectionName) → IsOrderly core → AreOfTheBallot core → open_at port core ≡ Some c
    → same_connection c.name x ≡ true → x.ballot ≡ core.replica.state.joined
proposed_of core port c x o of at is =
    let there' = (view_of_changed all (named x) (is_open_at port) (λ z. z) core.connections c (o.names x) (λ z t. refl) (λ z. refl) at is).0 in
    let lives = left_true (live c) (is_at port c) (found_passes (is_open_at port) core.connections c at) in
    (of.each x c there' (open_if (is_closed c.stage) lives)).1

pub only_one : (x : ConnectionName) (z command : Command) → In command (z ∷ []) → is_packet_of command x ≡ true → is_packet_of z x ≡ true
only_one x z command here is = is
only_one x z command (there i) is = elim i [ ]

proposes_of : (core : CoreState) (outcome : StepOutcome) (m : NodeMove core outcome) → IsOrderly core → AreOfTheBallot core → (x : ConnectionName) (command : Command)
    → In command (move_proposal m) → is_packet_of command x ≡ true → x.ballot ≡ core.replica.state.joined
proposes_of core outcome (reads_first now port c connect rest at first is room) o of x command i named' =
    proposed_of core port c x o of at (only_one x (commands.Connect c.name connect.client connect.clean) command i named')
proposes_of core outcome (reads_later now port c packet rest at later is room) o of x command i named' =
    proposed_of core port c x o of at (only_one x (commands.Packet c.name packet) command i named')
proposes_of core outcome (loses_one port c at asked_before) o of x command i named' = let z = only_one x (commands.Lost c.name) command i named' in absurd cc
proposes_of core outcome (loses_next c at) o of x command i named' = let z = only_one x (commands.Lost c.name) command i named' in absurd cc
proposes_of core outcome (expels_one client) o of x command i named' = let z = only_one x (commands.Expel client) command i named' in absurd cc
proposes_of core outcome (hears input other) o of x command i named' = elim i [ ]
proposes_of core outcome (opens_one port) o of x command i named' = elim i [ ]
proposes_of core outcome (holds port piece) o of x command i named' = elim i [ ]
proposes_of core outcome (closes port) o of x command i named' = elim i [ ]
proposes_of core outcome (refuses port c code at first is) o of x command i named' = elim i [ ]
proposes_of core outcome (cuts_log can) o of x command i named' = elim i [ ]
proposes_of core outcome crashes o of x command i named' = elim i [ ]
proposes_of core outcome settles o of x command i named' = elim i [ ]
proposes_of core outcome (hands port) o of x command i named' = elim i [ ]

pub names_keep_their_ballot : NamesKeepTheirBallot
names_keep_their_ballot =
    record {
      opens = λ id config. record { each = λ x c e lives. cc };
      moves = λ core outcome m o calm of. record { each = λ x d e lives. move_of core outcome m o of (move_same core outcome m calm) calm x d e lives };
      hears = λ core input o of. record { each = λ x d e lives. heard_of core input o of x d e lives };
      cuts = λ core o of. record { each = λ x d e lives. cut_of core o of x d e lives };
      stops = λ core o. record {
        each = λ x d e lives.
            let z = settled_open x (crashed core) d (orderly_crashed core o) e lives in
            absurd (both_ways (serves (crashed core)) (and_false (is_active core.replica.state.role)) z.0);
      };
      proposes = λ core outcome m o of x command i named'. proposes_of core outcome m o of x command i named';
    }
