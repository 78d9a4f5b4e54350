-- All that a node ever does when memory may run out: what it proposes for a connection is a prefix
-- of what its client writes, and each packet that is read is in its log at once.
use Rattle.std.proofs.Common.{◌≡◌, ℕ, List, [], ◌++◌, length, refl, sym, ap, ◌∙◌, subst, filter, append_assoc}
use Rattle.std.proofs.lemmas.List.{append-nil, length-append}
use Rattle.std.proofs.lemmas.List.Elements.{filter-append}
use Rattle.packet.specs.declared.packet.Packet.{Packet}
use Rattle.ballot_base.specs.Logs.{pushed}
use Rattle.ballot_base.specs.Replica.{CountedReplica, ReplicaState}
use Rattle.broker_base.specs.State.{State}
use Rattle.broker_spec.specs.declared.command.Command.{Command}
use Rattle.broker_spec.specs.Connection.{ConnectionName}
use Rattle.exactly_once.specs.StoryCommands.{is_packet_of}
use Rattle.world_base.specs.node_connections.ConnectionChanges.{noted_proposed, left_with}
use Rattle.world_base.specs.node_core.Core.{CoreState, StepOutcome, rules}
use Rattle.world_base.specs.node_core.Lossy.{Account, TakesCommand}
use Rattle.world_base.specs.node_core.PacketInput.{changes}
use Rattle.headline.specs.node_moves.Ends.{IsEnd, IsOrderly, packet_commands_from}
use Rattle.headline.specs.node_moves.Ends.IsEnd.{not_yet}
use Rattle.headline.specs.node_moves.LossyTheorems.{LossesAreTaken, LossesProposeInOrder, ReadsOn}
use Rattle.headline.specs.node_moves.LossyMoves.{NodeMoveOrLost}
use Rattle.headline.specs.node_moves.LossyParts.{came_on, move_proposal}
use Rattle.headline.specs.node_moves.LossyRuns.{MoveTraceOrLost, bytes_on, run_proposals}
use Rattle.headline.specs.node_moves.LossyMoves.NodeMoveOrLost.{exactly, hears_losing, first_losing, later_losing, tells_losing, expels_losing, forgets, halts, fails, unheard, drops}
use Rattle.headline.specs.node_moves.LossyRuns.MoveTraceOrLost.{rests, goes_on}
use Rattle.headline.proofs.of_node_moves.LossyOutputs.{delivers_replica}
use Rattle.headline.proofs.of_node_moves.LossyReads.{losses_read_in_order}
use Rattle.headline.proofs.of_node_moves.ProposesInOrder.{commands_join, front_of, opening_orderly, still_to_come}
use Rattle.headline.proofs.of_node_moves.ShutByChanges.{at_replica}
use Rattle.ballot_base.proofs.StepRows.{added-log}
use Rattle.headline.proofs.of_node_moves.Taken.{reads_are_taken}

-- ---- all that is read

record ReadsThrough (x : ConnectionName) {core : CoreState} {outcome : StepOutcome} (run : MoveTraceOrLost core outcome) (written read : List Packet) (later : List ℕ) : Type 0 where
  more : List Packet
  end : IsEnd x outcome.core written (read ++ more) later
  proposed : filter (λ command. is_packet_of command x) (run_proposals run) ≡ packet_commands_from x (length read) more

one_then : (x : ConnectionName) {core : CoreState} {first next : StepOutcome} (m : NodeMoveOrLost core first) (run : MoveTraceOrLost first.core next) (written read : List Packet) (between later : List ℕ)
    → (one : ReadsOn x m written read between) → ReadsThrough x run written (read ++ one.more) later → ReadsThrough x (goes_on m run) written read later
one_then x {next = next} m run written read between later one two =
    record {
      more = one.more ++ two.more;
      end = subst (λ (ps : List Packet). IsEnd x next.core written ps later) (append_assoc read one.more two.more) two.end;
      proposed = filter-append (λ command. is_packet_of command x) (move_proposal m) (run_proposals run)
          ∙ ap (λ (l : List Command). l ++ filter (λ command. is_packet_of command x) (run_proposals run)) one.proposed
          ∙ ap (λ (l : List Command). packet_commands_from x (length read) one.more ++ l) two.proposed
          ∙ ap (λ (n : ℕ). packet_commands_from x (length read) one.more ++ packet_commands_from x n two.more) (length-append read one.more)
          ∙ sym (commands_join x (length read) one.more two.more);
    }

runs_read : (x : ConnectionName) {core : CoreState} {outcome : StepOutcome} (run : MoveTraceOrLost core outcome) (written read : List Packet) (in_transit later : List ℕ) → IsOrderly core
    → IsEnd x core written read in_transit → in_transit ≡ bytes_on x run ++ later → ReadsThrough x run written read later
runs_read x {core = core} rests written read in_transit later o end same =
    record { more = []; end = subst (λ (ps : List Packet). IsEnd x core written ps later) (sym (append-nil read)) (subst (IsEnd x core written read) same end); proposed = refl }
runs_read x {core = core} (goes_on {first = first} m run) written read in_transit later o end same =
    let all = losses_read_in_order core first m o in
    let one = all.1 x written read in_transit (bytes_on x run ++ later) end (same ∙ append_assoc (came_on x m) (bytes_on x run) later) in
    one_then x m run written read (bytes_on x run ++ later) later one
    (runs_read x run written (read ++ one.more) (bytes_on x run ++ later) later all.0 one.end refl)

pub losses_propose_in_order : LossesProposeInOrder
losses_propose_in_order id config outcome run x written later some joined =
    let z = runs_read x run written [] (bytes_on x run ++ later) later (opening_orderly id config)
    (not_yet (still_to_come x some) refl (record { rest = written; is = refl; joined = joined; sound = refl })) refl in
    record { read = z.more; end = z.end; prefix = front_of x outcome.core written z.more later z.end; proposed = z.proposed }

-- ---- what is read is taken

taken_log : (command : Command) (core between : CoreState) (account : Account) → between.replica ≡ core.replica → TakesCommand command between account
    → account.core.replica.state.log ≡ pushed core.replica.state.log command
taken_log command core between account same t =
    ap (λ (r : CountedReplica State Command). r.state.log) (delivers_replica account.given (record between { replica = t.replica }) account.core account.messages t.handles)
    ∙ ap (λ (r : ReplicaState State Command). r.log) t.done.state ∙ added-log rules between.replica.state command
    ∙ ap (λ (r : CountedReplica State Command). pushed r.state.log command) same

pub losses_are_taken : LossesAreTaken
losses_are_taken core outcome (exactly m) read = reads_are_taken core outcome m read
losses_are_taken core outcome (first_losing now port c connect rest account at first is taken) read =
    taken_log _ core (changes port (noted_proposed connect.keep_alive) (changes port (left_with now rest) core)) account
    (at_replica port (noted_proposed connect.keep_alive) (changes port (left_with now rest) core) ∙ at_replica port (left_with now rest) core) taken
losses_are_taken core outcome (later_losing now port c packet rest account at later is taken) read =
    taken_log _ core (changes port (left_with now rest) core) account (at_replica port (left_with now rest) core) taken
losses_are_taken core outcome (hears_losing input account other drives) read = absurd cc
losses_are_taken core outcome (tells_losing name account taken) read = absurd cc
losses_are_taken core outcome (expels_losing client account taken) read = absurd cc
losses_are_taken core outcome forgets read = absurd cc
losses_are_taken core outcome halts read = absurd cc
losses_are_taken core outcome (fails port) read = absurd cc
losses_are_taken core outcome unheard read = absurd cc
losses_are_taken core outcome (drops port piece) read = absurd cc
