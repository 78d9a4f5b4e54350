-- If memory may run out each open connection has a name of the ballot that its node leads.
use Rattle.std.proofs.Common.{◌≡◌, inl, inr, ℕ, true, false, not, List, Some, refl, sym, ap, ◌∙◌, subst}
use Rattle.std.proofs.lemmas.Bool.{both_ways}
use Rattle.ballot_base.specs.declared.message.Effect.{Effect}
use Rattle.ballot_base.specs.Losses.{ReplicaStepOrLost}
use Rattle.ballot_base.specs.Protocol.{Input}
use Rattle.ballot_base.specs.Replica.{CountedReplica, ReplicaState, is_active}
use Rattle.ballot_base.specs.StepOutcome.{Outcome}
use Rattle.broker_base.specs.State.{State}
use Rattle.broker_spec.specs.declared.command.Command.{Command}
use Rattle.broker_spec.specs.declared.command.Command.TheVariants as commands
use Rattle.broker_spec.specs.Connection.{ConnectionName}
use Rattle.broker_spec.specs.declared.command.Output.{Output}
use Rattle.lists.specs.Lists.{In}
use Rattle.exactly_once.specs.StoryCommands.{is_packet_of}
use Rattle.world_base.specs.declared.node_connections.connection.Connection.{Connection}
use Rattle.world_base.specs.node_connections.Connections.{is_closed}
use Rattle.world_base.specs.node_connections.ConnectionChanges.{noted_proposed, failing, closed_connection, left_with}
use Rattle.world_base.specs.node_core.Core.{CoreState, StepOutcome, rules, serves}
use Rattle.world_base.specs.node_core.Lossy.{Account, Drives, TakesCommand}
use Rattle.world_base.specs.node_core.PacketInput.{changes}
use Rattle.world_base.specs.node_core.Step.{crashed}
use Rattle.world_base.specs.node_core.Effects.{drives, outcome_of_input}
use Rattle.headline.specs.node_moves.Closed.{listed_named}
use Rattle.headline.specs.node_moves.Ends.{IsOrderly}
use Rattle.headline.specs.node_moves.BallotNames.{AreOfTheBallot, moves_replica}
use Rattle.headline.specs.node_moves.LossyNames.{AreWhereItServes, LossyNamesKeepTheirBallot}
use Rattle.headline.specs.node_moves.LossyMoves.{NodeMoveOrLost, halting}
use Rattle.headline.specs.node_moves.LossyParts.{hears_in, move_proposal}
use Rattle.headline.specs.node_moves.LossyMoves.NodeMoveOrLost.{exactly, hears_losing, first_losing, later_losing, tells_losing, expels_losing, forgets, halts, fails, unheard, drops}
use Rattle.headline.specs.node_moves.Moves.{NodeMove, is_proposal}
use Rattle.headline.specs.node_moves.Moves.NodeMove.{hears, opens_one, holds, reads_first, reads_later, closes, refuses, loses_one, loses_next, expels_one, cuts_log, crashes, settles, hands}
use Rattle.headline.proofs.of_node_moves.Kept.{left_true}
use Rattle.headline.proofs.of_node_moves.LossyOutputs.{delivers_replica}
use Rattle.headline.proofs.of_node_moves.LossyShuts.{Loses, driven, lossy_shuts, sent_in}
use Rattle.headline.proofs.of_node_moves.MovesOfReplica.{move_same, serves_same}
use Rattle.headline.proofs.of_node_moves.NamesInMoves.{by_shuts}
use Rattle.headline.proofs.of_node_moves.NamesKeepTheirBallot.{and_false, drives_state, heard_stays, names_keep_their_ballot, only_one, proposed_of}
use Rattle.headline.proofs.of_node_moves.OpenAfter.{shuts_open}
use Rattle.headline.proofs.of_node_moves.Shut.{Shuts}
use Rattle.headline.proofs.of_node_moves.ReplicaLeads.{StaysOr}
use Rattle.headline.proofs.of_node_moves.ReplicaStays.{Same, added_same}
use Rattle.headline.proofs.of_node_moves.ShutByChanges.{at_replica}
use Rattle.headline.proofs.of_node_moves.ShutByOutputs.{bytes_for, driven_shuts}

-- ---- the replica stays in its role and its ballot, and the base of its log

same_state : (core later : CoreState) → later.replica.state ≡ core.replica.state → Same core.replica.state later.replica.state
same_state core later e =
    record {
      role = ap (λ (r : ReplicaState State Command). r.role) e;
      joined = ap (λ (r : ReplicaState State Command). r.joined) e;
      stopped = ap (λ (r : ReplicaState State Command). r.stopped) e;
      base = ap (λ (r : ReplicaState State Command). r.log.base) e;
    }

same_then : (a b c : CoreState) → Same a.replica.state b.replica.state → Same b.replica.state c.replica.state → Same a.replica.state c.replica.state
same_then a b c s t = record { role = t.role ∙ s.role; joined = t.joined ∙ s.joined; stopped = t.stopped ∙ s.stopped; base = t.base ∙ s.base }

state_of : (a b : CoreState) → a.replica ≡ b.replica → a.replica.state ≡ b.replica.state
state_of a b e = ap (λ (r : CountedReplica State Command). r.state) e

pub taken_same : (command : Command) (core : CoreState) (account : Account) → TakesCommand command core account → Same core.replica.state account.core.replica.state
taken_same command core account t =
    subst (λ (r : ReplicaState State Command). Same core.replica.state r)
    (sym (ap (λ (r : CountedReplica State Command). r.state) (delivers_replica account.given (record core { replica = t.replica }) account.core account.messages t.handles)
    ∙ t.done.state))
    (added_same rules core.replica.state command)

-- a command is taken after a change of a connection
pub taken_after : (command : Command) (core between : CoreState) (account : Account) → between.replica ≡ core.replica → TakesCommand command between account
    → Same core.replica.state account.core.replica.state
taken_after command core between account same t =
    same_then core between account.core (same_state core between (state_of between core same)) (taken_same command between account t)

-- ---- a move in which it receives nothing

by_same : (core : CoreState) (turn : StepOutcome) (m : NodeMoveOrLost core turn) → IsOrderly core → Loses m → Same core.replica.state turn.core.replica.state
    → AreWhereItServes core → AreWhereItServes turn.core
by_same core turn m o may same of serving =
    record { each = λ x d e lives. by_shuts x core turn.core (sent_in x m) d (of (sym (serves_same core turn.core same) ∙ serving)) same (lossy_shuts core turn m o x may) e lives }

exact_calm : (core : CoreState) (turn : StepOutcome) (m : NodeMove core turn) → IsOrderly core → moves_replica m ≡ false → AreWhereItServes core → AreWhereItServes turn.core
exact_calm core turn m o calm of serving =
    names_keep_their_ballot.moves core turn m o calm (of (sym (serves_same core turn.core (move_same core turn m calm)) ∙ serving))

-- a node that has stopped serves no client
stopped_not : (core : CoreState) → AreWhereItServes (halting core)
stopped_not core serving = absurd (both_ways (serves (halting core)) (and_false (is_active core.replica.state.role)) serving)

calm_keeps : (core : CoreState) (turn : StepOutcome) (m : NodeMoveOrLost core turn) → IsOrderly core → hears_in m ≡ false → AreWhereItServes core → AreWhereItServes turn.core
calm_keeps core turn (exactly m) o calm of = exact_calm core turn m o calm of
calm_keeps core turn (hears_losing input account other drives) o calm of = absurd cc
calm_keeps core turn (first_losing now port c connect rest account at first is taken) o calm of =
    by_same core turn (first_losing now port c connect rest account at first is taken) o tt
    (taken_after _ core (changes port (noted_proposed connect.keep_alive) (changes port (left_with now rest) core)) account
    (at_replica port (noted_proposed connect.keep_alive) (changes port (left_with now rest) core) ∙ at_replica port (left_with now rest) core) taken) of
calm_keeps core turn (later_losing now port c packet rest account at later is taken) o calm of =
    by_same core turn (later_losing now port c packet rest account at later is taken) o tt
    (taken_after _ core (changes port (left_with now rest) core) account (at_replica port (left_with now rest) core) taken) of
calm_keeps core turn (tells_losing name account taken) o calm of = by_same core turn (tells_losing name account taken) o tt (taken_same (commands.Lost name) core account taken) of
calm_keeps core turn (expels_losing client account taken) o calm of = by_same core turn (expels_losing client account taken) o tt (taken_same (commands.Expel client) core account taken) of
calm_keeps core turn forgets o calm of = by_same core turn forgets o tt (record { role = refl; joined = refl; stopped = refl; base = refl }) of
calm_keeps core turn halts o calm of = stopped_not core
calm_keeps core turn (fails port) o calm of =
    by_same core turn (fails port) o tt (same_state core (changes port failing core) (state_of (changes port failing core) core (at_replica port failing core))) of
calm_keeps core turn unheard o calm of = by_same core turn unheard o tt (record { role = refl; joined = refl; stopped = refl; base = refl }) of
calm_keeps core turn (drops port piece) o calm of =
    by_same core turn (drops port piece) o tt (same_state core (changes port closed_connection core) (state_of (changes port closed_connection core) core (at_replica port closed_connection core))) of

-- ---- a move in which it receives something

lossy_stays : (old new : CountedReplica State Command) (outcome : Outcome State Command Output) (given : List (Effect Command Output)) →
    StaysOr old.state outcome.state → ReplicaStepOrLost rules old outcome new given → StaysOr old.state new.state
lossy_stays old new outcome given or (inl (state, effects, rest)) = subst (λ (r : ReplicaState State Command). StaysOr old.state r) (sym state) or
lossy_stays old new outcome given or (inr (inl (state, rest), counted)) = subst (λ (r : ReplicaState State Command). StaysOr old.state r) (sym state) or
lossy_stays old new outcome given or (inr (inr (inl (state, rest)), counted)) = inl (ap (λ (r : ReplicaState State Command). r.joined) state)
lossy_stays old new outcome given or (inr (inr (inr (state, rest)), counted)) = inl (ap (λ (r : ReplicaState State Command). r.joined) state)

-- it stays in its ballot, or leads none
heard_keeps : (core later : CoreState) (bytes : ConnectionName → List ℕ) → StaysOr core.replica.state later.replica.state
    → ((x : ConnectionName) → Shuts (bytes x) (listed_named x core) (listed_named x later)) → AreOfTheBallot core → AreWhereItServes later
heard_keeps core later bytes or shuts of serving = record { each = λ x d e lives. (serving, led x d e lives) }
  where
    joined : StaysOr core.replica.state later.replica.state → later.replica.state.joined ≡ core.replica.state.joined
    joined (inl same) = same
    joined (inr passive) =
        absurd (both_ways (is_active later.replica.state.role) passive (left_true (is_active later.replica.state.role) (not later.replica.state.stopped) serving))

    led : (x : ConnectionName) (d : Connection) → listed_named x later ≡ Some d → is_closed d.stage ≡ false → x.ballot ≡ later.replica.state.joined
    led x d e lives =
        let was = shuts_open (bytes x) (listed_named x core) (listed_named x later) d (shuts x) e lives in
        (of.each x was.0 was.1 was.2).1 ∙ sym (joined or)

exact_heard : (core : CoreState) (input : Input Command) → IsOrderly core → AreOfTheBallot core → AreWhereItServes (drives input core).core
exact_heard core input o of =
    heard_keeps core (drives input core).core (λ x. bytes_for x (outcome_of_input input core.replica.state).effects)
    (subst (λ (r : ReplicaState State Command). StaysOr core.replica.state r) (sym (drives_state input core)) (heard_stays input core.replica.state))
    (λ x. driven_shuts x input core o) of

lossy_heard : (input : Input Command) (core : CoreState) (account : Account) (other : is_proposal input ≡ false) → (m : Drives input core account) → IsOrderly core
    → AreOfTheBallot core → AreWhereItServes account.core
lossy_heard input core account other m o of =
    heard_keeps core account.core (λ x. bytes_for x account.given)
    (subst (λ (r : CountedReplica State Command). StaysOr core.replica.state r.state)
    (sym (delivers_replica account.given (record core { replica = m.replica }) account.core account.messages m.handles))
    (lossy_stays core.replica m.replica (outcome_of_input input core.replica.state) account.given (heard_stays input core.replica.state) m.steps))
    (λ x. driven x input core account m o) of

where_it_serves : (core : CoreState) → AreOfTheBallot core → AreWhereItServes core
where_it_serves core of serving = of

exact_keeps : (core : CoreState) (turn : StepOutcome) (m : NodeMove core turn) → IsOrderly core → AreOfTheBallot core → AreWhereItServes turn.core
exact_keeps core turn (hears input other) o of = exact_heard core input o of
exact_keeps core turn (cuts_log can) o of = λ serving. record { each = of.each }
exact_keeps core turn crashes o of = λ serving. absurd (both_ways (serves (crashed core)) (and_false (is_active core.replica.state.role)) serving)
exact_keeps core turn (opens_one port) o of = exact_calm core turn (opens_one port) o refl (where_it_serves core of)
exact_keeps core turn (holds port piece) o of = exact_calm core turn (holds port piece) o refl (where_it_serves core of)
exact_keeps core turn (reads_first now port c connect rest at first is room) o of =
    exact_calm core turn (reads_first now port c connect rest at first is room) o refl (where_it_serves core of)
exact_keeps core turn (reads_later now port c packet rest at later is room) o of =
    exact_calm core turn (reads_later now port c packet rest at later is room) o refl (where_it_serves core of)
exact_keeps core turn (closes port) o of = exact_calm core turn (closes port) o refl (where_it_serves core of)
exact_keeps core turn (refuses port c code at first is) o of = exact_calm core turn (refuses port c code at first is) o refl (where_it_serves core of)
exact_keeps core turn (loses_one port c at asked) o of = exact_calm core turn (loses_one port c at asked) o refl (where_it_serves core of)
exact_keeps core turn (loses_next c at) o of = exact_calm core turn (loses_next c at) o refl (where_it_serves core of)
exact_keeps core turn (expels_one client) o of = exact_calm core turn (expels_one client) o refl (where_it_serves core of)
exact_keeps core turn settles o of = exact_calm core turn settles o refl (where_it_serves core of)
exact_keeps core turn (hands port) o of = exact_calm core turn (hands port) o refl (where_it_serves core of)

first_keeps : (core : CoreState) (turn : StepOutcome) (m : NodeMoveOrLost core turn) → IsOrderly core → AreOfTheBallot core → AreWhereItServes turn.core
first_keeps core turn (exactly m) o of = exact_keeps core turn m o of
first_keeps core turn (hears_losing input account other drives) o of = lossy_heard input core account other drives o of
first_keeps core turn (first_losing now port c connect rest account at first is taken) o of =
    calm_keeps core turn (first_losing now port c connect rest account at first is taken) o refl (where_it_serves core of)
first_keeps core turn (later_losing now port c packet rest account at later is taken) o of =
    calm_keeps core turn (later_losing now port c packet rest account at later is taken) o refl (where_it_serves core of)
first_keeps core turn (tells_losing name account taken) o of = calm_keeps core turn (tells_losing name account taken) o refl (where_it_serves core of)
first_keeps core turn (expels_losing client account taken) o of = calm_keeps core turn (expels_losing client account taken) o refl (where_it_serves core of)
first_keeps core turn forgets o of = calm_keeps core turn forgets o refl (where_it_serves core of)
first_keeps core turn halts o of = stopped_not core
first_keeps core turn (fails port) o of = calm_keeps core turn (fails port) o refl (where_it_serves core of)
first_keeps core turn unheard o of = calm_keeps core turn unheard o refl (where_it_serves core of)
first_keeps core turn (drops port piece) o of = calm_keeps core turn (drops port piece) o refl (where_it_serves core of)

-- ---- what is proposed

proposes_of : (core : CoreState) (turn : StepOutcome) (m : NodeMoveOrLost core turn) → IsOrderly core → AreOfTheBallot core → (x : ConnectionName) (command : Command)
    → In command (move_proposal m) → is_packet_of command x ≡ true → x.ballot ≡ core.replica.state.joined
proposes_of core turn (exactly m) o of x command i named' = names_keep_their_ballot.proposes core turn m o of x command i named'
proposes_of core turn (first_losing now port c connect rest account at first is taken) o of x command i named' =
    proposed_of core port c x o of at (only_one x (commands.Connect c.name connect.client connect.clean) command i named')
proposes_of core turn (later_losing now port c packet rest account at later is taken) o of x command i named' =
    proposed_of core port c x o of at (only_one x (commands.Packet c.name packet) command i named')
proposes_of core turn (tells_losing name account taken) o of x command i named' = let z = only_one x (commands.Lost name) command i named' in absurd cc
proposes_of core turn (expels_losing client account taken) o of x command i named' = let z = only_one x (commands.Expel client) command i named' in absurd cc
proposes_of core turn (hears_losing input account other drives) o of x command i named' = elim i [ ]
proposes_of core turn forgets o of x command i named' = elim i [ ]
proposes_of core turn halts o of x command i named' = elim i [ ]
proposes_of core turn (fails port) o of x command i named' = elim i [ ]
proposes_of core turn unheard o of x command i named' = elim i [ ]
proposes_of core turn (drops port piece) o of x command i named' = elim i [ ]

pub lossy_names_keep_their_ballot : LossyNamesKeepTheirBallot
lossy_names_keep_their_ballot =
    record {
      moves = λ core turn m o calm of. calm_keeps core turn m o calm of;
      hears = λ core turn m o of. first_keeps core turn m o of;
      proposes = λ core turn m o of serving x command i is. proposes_of core turn m o (of serving) x command i is;
    }
