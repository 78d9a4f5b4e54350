-- All that a node ever does: what it proposes for a connection is a prefix of what its client
-- writes.
use Rattle.std.proofs.Common.{◌≡◌, ◌⊎◌, inl, inr, ◌≤◌, ◌<◌, ◌+◌, ℕ, suc, List, [], ◌∷◌, ◌++◌, length, refl, sym, ap, ◌∙◌, subst, filter, append_assoc, arith}
use Rattle.std.proofs.lemmas.Bool.{cases_lt}
use Rattle.std.proofs.lemmas.List.{append-nil, length-append}
use Rattle.std.proofs.lemmas.List.Elements.{filter-append}
use Rattle.packet.specs.declared.packet.Packet.{Packet}
use Rattle.broker_spec.specs.declared.command.Command.{Command}
use Rattle.broker_spec.specs.Connection.{ConnectionName}
use Rattle.ballot_base.specs.declared.config.Config.{Config}
use Rattle.lists.specs.Lists.{IsPrefixOf}
use Rattle.exactly_once.specs.StoryCommands.{is_packet_of, command_of}
use Rattle.world_base.specs.node_core.Core.{CoreState, StepOutcome, opening_core}
use Rattle.headline.specs.node_moves.Moves.{NodeMove, MoveTrace}
use Rattle.headline.specs.node_moves.Moves.MoveTrace.{rests, goes_on}
use Rattle.headline.specs.node_moves.Ends.{Precedes, IsOrderly, IsEnd, move_proposal, came_on, packet_commands_from}
use Rattle.headline.specs.node_moves.ReadsInOrder.{ReadsOn}
use Rattle.headline.specs.node_moves.RunProposals.{NodesProposeInOrder, run_proposals, bytes_on}
use Rattle.headline.specs.node_moves.Ends.IsEnd.{not_yet, is_open, is_over}
use Rattle.headline.proofs.of_node_moves.ReadsInOrder.{nodes_read_in_order}

pub commands_join : (x : ConnectionName) (n : ℕ) (ps qs : List Packet) → packet_commands_from x n (ps ++ qs) ≡ packet_commands_from x n ps ++ packet_commands_from x (n + length ps) qs
commands_join x n [] qs = ap (λ (k : ℕ). packet_commands_from x k qs) (plus_none n)
  where
    plus_none : (n : ℕ) → n ≡ n + 0
    plus_none n = omega arith
commands_join x n (p ∷ ps) qs =
    ap (λ l. command_of x n p ∷ l) (commands_join x (suc n) ps qs ∙ ap (λ (k : ℕ). packet_commands_from x (suc n) ps ++ packet_commands_from x k qs) (moved_on n (length ps)))
  where
    moved_on : (n k : ℕ) → suc n + k ≡ n + suc k
    moved_on n k = omega arith

-- what is read in a run
record ReadsThrough (x : ConnectionName) {core : CoreState} {outcome : StepOutcome} (run : MoveTrace core outcome) (written read : List Packet) (later : List ℕ) : Type 0 where
  more : List Packet
  end : IsEnd x outcome.core written (read ++ more) later
  proposed : filter (λ command. is_packet_of command x) (run_proposals run) ≡ packet_commands_from x (length read) more

one_then : (x : ConnectionName) {core : CoreState} {first next : StepOutcome} (m : NodeMove core first) (run : MoveTrace first.core next) (written read : List Packet) (between later : List ℕ)
    → (one : ReadsOn x m written read between) → ReadsThrough x run written (read ++ one.more) later → ReadsThrough x (goes_on m run) written read later
one_then x {next = next} m run written read between later one two =
    record {
      more = one.more ++ two.more;
      end = subst (λ (ps : List Packet). IsEnd x next.core written ps later) (append_assoc read one.more two.more) two.end;
      proposed = filter-append (λ command. is_packet_of command x) (move_proposal m) (run_proposals run)
          ∙ ap (λ (l : List Command). l ++ filter (λ command. is_packet_of command x) (run_proposals run)) one.proposed
          ∙ ap (λ (l : List Command). packet_commands_from x (length read) one.more ++ l) two.proposed
          ∙ ap (λ (n : ℕ). packet_commands_from x (length read) one.more ++ packet_commands_from x n two.more) (length-append read one.more)
          ∙ sym (commands_join x (length read) one.more two.more);
    }

runs_read : (x : ConnectionName) {core : CoreState} {outcome : StepOutcome} (run : MoveTrace core outcome) (written read : List Packet) (in_transit later : List ℕ) → IsOrderly core
    → IsEnd x core written read in_transit → in_transit ≡ bytes_on x run ++ later → ReadsThrough x run written read later
runs_read x {core = core} rests written read in_transit later o end same =
    record { more = []; end = subst (λ (ps : List Packet). IsEnd x core written ps later) (sym (append-nil read)) (subst (IsEnd x core written read) same end); proposed = refl }
runs_read x {core = core} (goes_on {first = first} m run) written read in_transit later o end same =
    let all = nodes_read_in_order core first m o in
    let one = all.1 x written read in_transit (bytes_on x run ++ later) end (same ∙ append_assoc (came_on x m) (bytes_on x run) later) in
    one_then x m run written read (bytes_on x run ++ later) later one
    (runs_read x run written (read ++ one.more) (bytes_on x run ++ later) later all.0 one.end refl)

pub opening_orderly : (id : ℕ) (config : Config) → IsOrderly (opening_core id config)
opening_orderly id config = record { names = λ x. tt; given = tt; within = nothing_above (opening_core id config).replica.state.joined }
  where
    nothing_above : (n : ℕ) → 0 ≤ n
    nothing_above n = omega arith

pub front_of : (x : ConnectionName) (core : CoreState) (written read : List Packet) (later : List ℕ) → IsEnd x core written read later → IsPrefixOf read written
front_of x core written read later (not_yet below none piped) = record { rest = written; is = ap (λ (ps : List Packet). ps ++ written) (sym none) }
front_of x core written read later (is_open c given is first piped) = record { rest = piped.rest; is = piped.is }
front_of x core written read later (is_over given is front) = front

-- before the first connection all names are still to come
pub still_to_come : (x : ConnectionName) → 0 < x.count → Precedes (record { ballot = 0; count = 0 }) x
still_to_come x some = by (cases_lt 0 x.ballot)
  where
    by : (0 < x.ballot) ⊎ (x.ballot ≤ 0) → Precedes (record { ballot = 0; count = 0 }) x
    by (inl above) = inl above
    by (inr none) = inr (omega (arith, none), some)

pub nodes_propose_in_order : NodesProposeInOrder
nodes_propose_in_order id config outcome run x written later some joined =
    let z = runs_read x run written [] (bytes_on x run ++ later) later (opening_orderly id config)
    (not_yet (still_to_come x some) refl (record { rest = written; is = refl; joined = joined; sound = refl })) refl in
    record { read = z.more; end = z.end; prefix = front_of x outcome.core written z.more later z.end; proposed = z.proposed }
