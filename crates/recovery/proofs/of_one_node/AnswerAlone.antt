-- A sole member that reads a CONNECT queues the answer first, whatever else it reads or queues in
-- the same step.
use Rattle.std.proofs.Common.{◌≡◌, ◌<◌, ◌≤◌, ℕ, zero, suc, Bool, true, false, if◌then◌else◌, not, List, [], ◌∷◌, ◌++◌, length, map, Option, Some, None, Result, Ok, Err, refl, sym, ap, ◌∙◌, subst}
use Rattle.std.specs.Prelude.{nat_lt}
use Rattle.std.specs.List.{find, fold}
use Rattle.std.proofs.lemmas.Bool.{and_parts}
use Rattle.lists.specs.Lists.{IsPrefixOf}
use Rattle.lists.proofs.Prefixes.{prefix_then}
use Rattle.packet_base.specs.declared.refusal_code.RefusalCode.{RefusalCode}
use Rattle.packet.specs.Spelling.{spelling}
use Rattle.packet_base.specs.declared.stop.Stop.{Stop}
use Rattle.packet_base.specs.declared.stop.Stop.TheVariants as stops
use Rattle.packet.specs.declared.connack.Connack.TheVariants as connacks
use Rattle.packet.specs.declared.connect.Connect.{Connect}
use Rattle.packet.specs.declared.packet.Packet.{Packet}
use Rattle.packet.specs.declared.packet.Packet.TheVariants as packets
use Rattle.packet.specs.Verdict.{verdict}
use Rattle.ballot_base.specs.declared.message.Effect.{Effect}
use Rattle.ballot_base.specs.declared.message.Effect.TheVariants.{Out}
use Rattle.ballot_base.specs.Logs.{places}
use Rattle.ballot_base.specs.Service.{max_places, proposed}
use Rattle.broker_spec.specs.declared.command.Command.{Command}
use Rattle.broker_spec.specs.declared.command.Command.TheVariants as commands
use Rattle.broker_spec.specs.Connection.{ConnectionName}
use Rattle.broker_spec.specs.declared.command.Output.{Output}
use Rattle.broker_spec.specs.declared.command.Output.TheVariants as outputs
use Rattle.world_base.specs.declared.node_connections.connection.Connection.{Connection}
use Rattle.world_base.specs.declared.node_core.item.Item.TheVariants.{Bytes}
use Rattle.world_base.specs.declared.node_connections.port.Port.{Port}
use Rattle.world_base.specs.node_connections.Connections.{is_at, awaits_first_packet, is_open_at, is_open_named, is_closed, is_proposed}
use Rattle.world_base.specs.node_connections.ConnectionChanges.{noted_proposed, changed_where, closed_connection, with_unread, left_with, max_pending}
use Rattle.world_base.specs.node_core.Core.{CoreState, StepOutcome, rules, serves}
use Rattle.world_base.specs.node_core.PortOutput.{listed_at}
use Rattle.world_base.specs.node_core.PacketInput.{takes_first_packet, changes, loses, open_at, reads, reads_all, reads_next, reads_of, proposes_packet, unread_of}
use Rattle.world_base.specs.node_connections.Refusals.{connect_refused}
use Rattle.world_base.specs.node_core.Step.{node_step}
use Rattle.world_base.specs.node_core.Effects.{has_room, after_replica_step, proposes, without_messages, repeated, with_effect}
use Rattle.headline.proofs.of_node_moves.Views.{found_passes}
use Rattle.recovery.specs.one_node.FirstAnswer.{AnswerAloneIsPutOut, PutsOutFirst}
use Rattle.recovery.specs.one_node.ConnectRequest.{asked_now, proposal_at}
use Rattle.recovery.proofs.of_one_node.AnswerPutOut.{FrontOf, Keeps, closed_keeps, first_put, found_both, front_acted, front_changed, front_delivered, front_proposed}
use Rattle.recovery.proofs.of_one_node.ConnectProposed.{changed_twice, find_changed, is_more, two_kinds}
use Rattle.recovery.proofs.of_one_node.OneDelivery.{with_replica}

-- ---- whatever is read, what is queued first stays so

module _ (at : Port) (front : List ℕ) (some : 0 < length front) where
  abbrev HasFront : CoreState → Type 0
  HasFront core = FrontOf at front some core.connections

  plain : (f : Connection → Connection) → ((d : Connection) → (f d).port ≡ d.port) → ((d : Connection) → (f d).pending ≡ d.pending) → Keeps at front some f
  plain f port pending = record { port_of = port; front_of = λ d first. subst (λ l. IsPrefixOf front l) (sym (pending d)) first }

  refused_keeps : (code : RefusalCode) → Keeps at front some (connect_refused code)
  refused_keeps code =
      record { port_of = λ d. refl; front_of = λ d first. prefix_then first (record { rest = spelling (packets.Connack (connacks.Refused code)); is = refl }) }

  keeps_change : (port : Port) (f : Connection → Connection) (core : CoreState) → Keeps at front some f → HasFront core → HasFront (changes port f core)
  unfolding changes
  keeps_change port f core keeps z = front_changed at front some (is_open_at port) f core.connections keeps z

  keeps_lost : (port : Port) (c : Connection) (core : CoreState) → HasFront core → HasFront (loses port c core).core
  keeps_lost port c core z = by (is_proposed c.stage)
    where
      now : HasFront (changes port closed_connection core)
      now = keeps_change port closed_connection core (closed_keeps at front some) z

      by : (b : Bool) → HasFront (let t : StepOutcome = if b then proposes (commands.Lost c.name) (changes port closed_connection core) else without_messages (changes port closed_connection core) in t).core
      by true = front_proposed at front some (commands.Lost c.name) (changes port closed_connection core) now
      by false = now

  keeps_proposed : (port : Port) (command : Command) (core : CoreState) → HasFront core → (b : Bool) →
      HasFront (let t : StepOutcome = if b then proposes command core else without_messages (changes port closed_connection core) in t).core
  keeps_proposed port command core z true = front_proposed at front some command core z
  keeps_proposed port command core z false = keeps_change port closed_connection core (closed_keeps at front some) z

  keeps_begun : (port : Port) (x : ConnectionName) (packet : Packet) (core : CoreState) → HasFront core → HasFront (takes_first_packet port x packet core).core
  keeps_begun port x (packets.Connect connect) core z =
      let k = changes port (noted_proposed connect.keep_alive) core in
      keeps_proposed port (commands.Connect x connect.client connect.clean) k (keeps_change port (noted_proposed connect.keep_alive) core (plain (noted_proposed connect.keep_alive) (λ d. refl) (λ d. refl)) z) (has_room k)
  keeps_begun port x _ core z = keeps_change port closed_connection core (closed_keeps at front some) z

  keeps_read : (now : ℕ) (port : Port) (c : Connection) (core : CoreState) (v : Result (Packet × List ℕ) Stop) → HasFront core → HasFront (reads now port c core v).core
  keeps_read now port c core (Err stops.More) z = z
  keeps_read now port c core (Err (stops.Malformed kind)) z = keeps_lost port c core z
  keeps_read now port c core (Err (stops.Refused code)) z = by (awaits_first_packet c.stage)
    where
      by : (b : Bool) → HasFront (let t : StepOutcome = if b then without_messages (changes port (connect_refused code) core) else loses port c core in t).core
      by true = keeps_change port (connect_refused code) core (refused_keeps code) z
      by false = keeps_lost port c core z
  keeps_read now port c core (Ok (packet, rest)) z = by (awaits_first_packet c.stage)
    where
      left : HasFront (changes port (left_with now rest) core)
      left = keeps_change port (left_with now rest) core (plain (left_with now rest) (λ d. refl) (λ d. refl)) z

      by : (b : Bool) → HasFront (let t : StepOutcome = if b then takes_first_packet port c.name packet (changes port (left_with now rest) core) else proposes_packet port c.name packet (changes port (left_with now rest) core) in t).core
      by true = keeps_begun port c.name packet (changes port (left_with now rest) core) left
      by false = keeps_proposed port (commands.Packet c.name packet) (changes port (left_with now rest) core) left (has_room (changes port (left_with now rest) core))

  keeps_next : (now : ℕ) (port : Port) (core : CoreState) → HasFront core → HasFront (reads_next now port core).core
  unfolding reads_next
  keeps_next now port core z = by (open_at port core)
    where
      by : (o : Option Connection) → HasFront (reads_of now port core o).core
      by None = z
      by (Some c) = keeps_read now port c core (verdict c.unread) z

  keeps_all : (n : ℕ) (now : ℕ) (port : Port) (core : CoreState) → HasFront core → HasFront (repeated n (reads_next now port) core).core
  unfolding repeated
  keeps_all zero now port core z = z
  keeps_all (suc n) now port core z = keeps_all n now port (reads_next now port core).core (keeps_next now port core z)

  -- a first read, and more
  keeps_from : (n : ℕ) (now : ℕ) (port : Port) (core : CoreState) → HasFront (reads_next now port core).core → HasFront (repeated (suc n) (reads_next now port) core).core
  unfolding repeated
  keeps_from n now port core z = keeps_all n now port (reads_next now port core).core z

-- ---- the CONNECT is read first

module _ (core : CoreState) (port : Port) (now : ℕ) (piece : List ℕ) (c : Connection) (connect : Connect) (place : ℕ) (packet : Packet) (others : List Output)
    (more : List (Effect Command Output)) (room : has_room core ≡ true) (opened : open_at port core ≡ Some c) (listed : listed_at port core ≡ Some c)
    (named : find (is_open_named c.name) core.connections ≡ Some c) (awaits : awaits_first_packet c.stage ≡ true) (unread : c.unread ≡ []) (none : c.pending ≡ [])
    (whole : verdict piece ≡ Ok (packets.Connect connect, []))
    (effects : (proposal_at core (commands.Connect c.name connect.client connect.clean)).effects ≡ map (Out place) (outputs.Send c.name packet ∷ others) ++ more)
    (some : 0 < length (spelling packet)) (short : length (spelling packet) ≤ max_pending) where
  abbrev command : Command
  command = commands.Connect c.name connect.client connect.clean

  abbrev with_change : (Connection → Connection) → CoreState
  with_change f = record core { connections = changed_where (is_open_at port) f core.connections }

  abbrev now_asked : Connection → Connection
  now_asked = asked_now now connect.keep_alive

  leads : serves core ≡ true
  leads = (and_parts (serves core) (nat_lt (places core.replica.state.log) max_places) room).0

  -- it is open, with its CONNECT
  is_open : is_open_at port c ≡ true
  is_open = found_passes (is_open_at port) core.connections c opened

  then_listed : find (is_at port) (changed_where (is_open_at port) now_asked core.connections) ≡ Some (now_asked c)
  then_listed = found_both (is_open_at port) (is_at port) now_asked core.connections c is_open (found_passes (is_at port) core.connections c listed)
      (found_passes (is_at port) core.connections c listed) listed opened

  then_named : find (is_open_named c.name) (changed_where (is_open_at port) now_asked core.connections) ≡ Some (now_asked c)
  then_named = found_both (is_open_at port) (is_open_named c.name) now_asked core.connections c is_open (found_passes (is_open_named c.name) core.connections c named)
      (and_parts (not (is_closed c.stage)) _ (found_passes (is_open_named c.name) core.connections c named)).1 named opened

  found : open_at port (with_change (with_unread piece)) ≡ Some (with_unread piece c)
  found = find_changed (is_open_at port) (with_unread piece) core.connections c (λ d e. e) opened

  asked_is : ◌≡◌ {A = CoreState} (record core {
    connections = changed_where (is_open_at port) (noted_proposed connect.keep_alive)
        (changed_where (is_open_at port) (left_with now []) (changed_where (is_open_at port) (with_unread piece) core.connections));
  }) (with_change now_asked)
  asked_is = ap (λ (l : List Connection). let k : CoreState = record core { connections = l } in k)
      (changed_twice (is_open_at port) (noted_proposed connect.keep_alive) (left_with now []) (changed_where (is_open_at port) (with_unread piece) core.connections) (λ d e. e)
      ∙ changed_twice (is_open_at port) (λ (d : Connection). noted_proposed connect.keep_alive (left_with now [] d)) (with_unread piece) core.connections (λ d e. e))

  first_read : reads_next now port (with_change (with_unread piece)) ≡ proposes command (with_change now_asked)
  unfolding reads_next changes
  first_read =
      ap (reads_of now port (with_change (with_unread piece))) found
      ∙ ap (reads now port (with_unread piece c) (with_change (with_unread piece))) (ap (λ (l : List ℕ). verdict (l ++ piece)) unread ∙ whole)
      ∙ rest
    where
      rest : reads now port (with_unread piece c) (with_change (with_unread piece)) (Ok (packets.Connect connect, [])) ≡ proposes command (with_change now_asked)
      rest = rw (awaits, room) (ap (proposes command) asked_is)

  -- and answered
  answered : FrontOf port (spelling packet) some (proposes command (with_change now_asked)).core.connections
  unfolding proposes
  answered =
      subst (λ (b : Bool). FrontOf port (spelling packet) some (let t : StepOutcome = if b then after_replica_step (proposed rules core.replica.state command) (with_change now_asked) else without_messages (with_change now_asked) in t).core.connections)
      (sym leads)
      (subst (λ (l : List (Effect Command Output)). FrontOf port (spelling packet) some (fold with_effect (with_replica (proposal_at core command).state (with_change now_asked)) l).connections) (sym effects)
      (front_delivered port (spelling packet) some (with_effect (with_replica (proposal_at core command).state (with_change now_asked)) (Out place (outputs.Send c.name packet))) (map (Out place) others ++ more)
      (first_put port c.name packet (with_replica (proposal_at core command).state (with_change now_asked)) (now_asked c) some short then_listed then_named none)))

  all_read : FrontOf port (spelling packet) some (reads_all now port (with_change (with_unread piece))).core.connections
  all_read =
      subst (λ (o : Option Connection). FrontOf port (spelling packet) some (repeated (unread_of o) (reads_next now port) (with_change (with_unread piece))).core.connections) (sym found)
      (subst (λ (l : List ℕ). FrontOf port (spelling packet) some (repeated (length (l ++ piece)) (reads_next now port) (with_change (with_unread piece))).core.connections) (sym unread)
      (by piece whole))
    where
      by : (p : List ℕ) → verdict p ≡ Ok (packets.Connect connect, []) → FrontOf port (spelling packet) some (repeated (length p) (reads_next now port) (with_change (with_unread piece))).core.connections
      by [] e = absurd (two_kinds (packets.Connect connect, []) stops.More (sym e ∙ is_more))
      by (b ∷ bs) e = keeps_from port (spelling packet) some (length bs) now port (with_change (with_unread piece))
          (subst (λ (t : StepOutcome). FrontOf port (spelling packet) some t.core.connections) (sym first_read) answered)

  put_out_first : PutsOutFirst port (spelling packet) (node_step (Bytes port piece now) core).core
  unfolding changes
  put_out_first = by (front_acted port (spelling packet) some (reads_all now port (with_change (with_unread piece))).core all_read)
    where
      by : FrontOf port (spelling packet) some (node_step (Bytes port piece now) core).core.connections → PutsOutFirst port (spelling packet) (node_step (Bytes port piece now) core).core
      by z = record { connection = z.c; listed = z.found; first = z.first }

pub answer_alone_is_put_out : AnswerAloneIsPutOut
answer_alone_is_put_out core port now piece c connect place packet others more room opened listed named awaits unread none whole effects some short =
    put_out_first core port now piece c connect place packet others more room opened listed named awaits unread none whole effects some short
