-- A CONNECT that comes whole on a new connection is proposed.
use Rattle.std.proofs.Common.{◌≡◌, ◌≤◌, ◌<◌, ◌⊎◌, inl, inr, ℕ, zero, suc, Bool, true, false, if◌then◌else◌, not, List, [], ◌∷◌, ◌++◌, filter, length, map, Option, Some, Result, Ok, Err, refl, sym, ap, ◌∙◌}
use Rattle.std.specs.Prelude.{◌&&◌, nat_lt}
use Rattle.std.specs.List.{find, fold}
use Rattle.std.proofs.lemmas.Bool.{and_parts, cases_lt}
use Rattle.std.proofs.lemmas.List.{append-nil}
use Rattle.packet_base.specs.declared.stop.Stop.{Stop}
use Rattle.packet_base.specs.declared.stop.Stop.TheVariants as stops
use Rattle.packet.specs.declared.connect.Connect.{Connect}
use Rattle.packet.specs.declared.packet.Packet.TheVariants as packets
use Rattle.packet.specs.Verdict.{verdict}
use Rattle.ballot_base.specs.declared.message.Effect.{Effect}
use Rattle.ballot_base.specs.Logs.{places, pushed}
use Rattle.ballot_base.specs.Replica.{CountedReplica, ReplicaState, is_active}
use Rattle.ballot_base.specs.StepOutcome.{Outcome, message_to_followed, sent_first, is_message}
use Rattle.ballot_base.specs.declared.message.Body.TheVariants.{Append}
use Rattle.ballot_base.specs.Service.{added, least, max_places, proposed}
use Rattle.ballot_base.proofs.StepRows.{added-is, commit_at-goes, commit_at-stays}
use Rattle.agreement.specs.cut_logs.World.{outputs}
use Rattle.broker_spec.specs.declared.command.Command.{Command}
use Rattle.broker_spec.specs.declared.command.Command.TheVariants as commands
use Rattle.broker_spec.specs.declared.command.Output.{Output}
use Rattle.broker_base.specs.State.{State}
use Rattle.world_base.specs.declared.node_connections.connection.Connection.{Connection}
use Rattle.world_base.specs.declared.node_core.item.Item.TheVariants.{Bytes}
use Rattle.world_base.specs.declared.node_connections.port.Port.{Port}
use Rattle.world_base.specs.node_connections.Connections.{has_failed, is_at, awaits_first_packet, is_listed, is_open_at, is_closed}
use Rattle.world_base.specs.node_connections.ConnectionChanges.{noted_proposed, changed_where, closed_connection, with_unread, left_with}
use Rattle.world_base.specs.node_core.Core.{CoreState, StepOutcome, rules, serves}
use Rattle.world_base.specs.node_core.FailedConnections.{reports_all_failed}
use Rattle.world_base.specs.node_core.PacketInput.{changes, open_at, reads, reads_all, reads_next, reads_of, unread_of}
use Rattle.world_base.specs.node_core.Step.{node_step, settled}
use Rattle.world_base.specs.node_core.Effects.{has_room, proposes, without_messages, repeated, with_effect, then_also}
use Rattle.headline.proofs.of_node_moves.Views.{each_kept}
use Rattle.recovery.specs.one_node.ConnectRequest.{ConnectIsProposed, asked_now, proposal_at, with_asked_connect}
use Rattle.recovery.specs.one_node.Delivery.{ReportsItsLosses}
use Rattle.recovery.proofs.of_one_node.OneDelivery.{calm_finds, none_lost, none_handled, only_messages, with_replica}

-- ---- a change, and another of the same connection

pub changed_twice : (test : Connection → Bool) (f g : Connection → Connection) (cs : List Connection) → ((d : Connection) → test d ≡ true → test (g d) ≡ true) →
    changed_where test f (changed_where test g cs) ≡ changed_where test (λ d. f (g d)) cs
changed_twice test f g [] stays = refl
changed_twice test f g (c ∷ cs) stays = by (test c) refl (changed_twice test f g cs stays)
  where
    by : (b : Bool) → test c ≡ b → changed_where test f (changed_where test g cs) ≡ changed_where test (λ d. f (g d)) cs →
        changed_where test f (if b then g c ∷ cs else c ∷ changed_where test g cs) ≡ (if b then f (g c) ∷ cs else c ∷ changed_where test (λ d. f (g d)) cs)
    by true e rest = ap (λ (b : Bool). if b then f (g c) ∷ cs else g c ∷ changed_where test f cs) (stays c e)
    by false e rest = ap (λ (b : Bool). if b then f c ∷ changed_where test g cs else c ∷ changed_where test f (changed_where test g cs)) e ∙ ap (λ (l : List Connection). c ∷ l) rest

pub find_changed : (test : Connection → Bool) (g : Connection → Connection) (cs : List Connection) (c : Connection) → ((d : Connection) → test d ≡ true → test (g d) ≡ true) →
    find test cs ≡ Some c → find test (changed_where test g cs) ≡ Some (g c)
find_changed test g [] c stays found = cc
find_changed test g (d ∷ cs) c stays found = by (test d) refl (find_changed test g cs c stays) found
  where
    by : (b : Bool) → test d ≡ b → (find test cs ≡ Some c → find test (changed_where test g cs) ≡ Some (g c)) → (if b then Some d else find test cs) ≡ Some c →
        find test (if b then g d ∷ cs else d ∷ changed_where test g cs) ≡ Some (g c)
    by true e rest f =
        let same : d ≡ c = cc in
        ap (λ (b : Bool). if b then Some (g d) else find test cs) (stays d e) ∙ ap (λ (x : Connection). Some (g x)) same
    by false e rest f = ap (λ (b : Bool). if b then Some d else find test (changed_where test g cs)) e ∙ rest f

-- ---- the node still serves

added_serves : (r : ReplicaState State Command) (command : Command) → ((added rules r command).state.role ≡ r.role) × ((added rules r command).state.stopped ≡ r.stopped)
added_serves r command = by (cases_lt r.committed held)
  where
    longer : ReplicaState State Command
    longer = record r { log = pushed r.log command }

    held : ℕ
    held = least (places (pushed r.log command)) r.progress

    first : List (Effect Command Output)
    first = message_to_followed Output r.id (Append r.joined (places r.log) command) r.progress

    by : (r.committed < held) ⊎ (held ≤ r.committed) → ((added rules r command).state.role ≡ r.role) × ((added rules r command).state.stopped ≡ r.stopped)
    by (inl low) =
        let e = added-is rules r command ∙ ap (sent_first first) (commit_at-goes rules longer held low) in
        (ap (λ (o : Outcome State Command Output). o.state.role) e, ap (λ (o : Outcome State Command Output). o.state.stopped) e)
    by (inr high) =
        let e = added-is rules r command ∙ ap (sent_first first) (commit_at-stays rules longer held high) in
        (ap (λ (o : Outcome State Command Output). o.state.role) e, ap (λ (o : Outcome State Command Output). o.state.stopped) e)

proposed_serves : (core : CoreState) (command : Command) → has_room core ≡ true → serves (with_replica (proposal_at core command).state core) ≡ true
unfolding proposed
proposed_serves core command room =
    let z = and_parts (serves core) (nat_lt (places core.replica.state.log) max_places) room in
    let a = and_parts (is_active core.replica.state.role) (not core.replica.state.stopped) z.0 in
    let k = added_serves core.replica.state command in
    ap (λ (b : Bool). let r : ReplicaState State Command = (if b then added rules core.replica.state command else record { state = core.replica.state; effects = [] }).state in
    is_active r.role && not r.stopped) (ap (λ (b : Bool). b && nat_lt (places core.replica.state.log) max_places) a.0 ∙ z.1)
    ∙ ap (λ role. is_active role && not (added rules core.replica.state command).state.stopped) k.0
    ∙ ap (λ (b : Bool). is_active core.replica.state.role && not b) k.1 ∙ z.0

-- ---- what is read

pub is_more : verdict [] ≡ Err stops.More
unfolding verdict
is_more = refl

pub two_kinds : {A : Type 0} (a : A) (x : Stop) → (let b : Result A Stop = Ok a in b) ≡ Err x → ⊥
two_kinds a x f = cc

-- the same next turn, that changes nothing, as often as it may come
repeated_rests : (n : ℕ) (next : CoreState → StepOutcome) (core : CoreState) → next core ≡ without_messages core → repeated n next core ≡ without_messages core
unfolding repeated
repeated_rests zero next core rests = refl
repeated_rests (suc n) next core rests = ap (λ (t : StepOutcome). then_also t (repeated n next)) rests ∙ repeated_rests n next core rests

-- one turn, and then none
repeated_once : (n : ℕ) (next : CoreState → StepOutcome) (core : CoreState) (t : StepOutcome) → next core ≡ t → next t.core ≡ without_messages t.core → repeated (suc n) next core ≡ t
unfolding repeated
repeated_once n next core t first rests =
    ap (λ (u : StepOutcome). then_also u (repeated n next)) first
    ∙ ap (λ (u : StepOutcome). let v : StepOutcome = record { core = u.core; messages = t.messages ++ u.messages } in v) (repeated_rests n next t.core rests)
    ∙ ap (λ (l : List (Effect Command Output)). let v : StepOutcome = record { core = t.core; messages = l } in v) (append-nil t.messages)

module _ (core : CoreState) (port : Port) (now : ℕ) (piece : List ℕ) (c : Connection) (connect : Connect) (room : has_room core ≡ true) (calm : ReportsItsLosses core)
    (opened : open_at port core ≡ Some c) (awaits : awaits_first_packet c.stage ≡ true) (unread : c.unread ≡ []) (whole : verdict piece ≡ Ok (packets.Connect connect, []))
    (silent : outputs (proposal_at core (commands.Connect c.name connect.client connect.clean)).effects ≡ []) where
  abbrev command : Command
  command = commands.Connect c.name connect.client connect.clean

  -- the node with a change of that connection
  abbrev with_change : (Connection → Connection) → CoreState
  with_change f = record core { connections = changed_where (is_open_at port) f core.connections }

  abbrev after : CoreState
  after = with_replica (proposal_at core command).state (with_change (asked_now now connect.keep_alive))

  leads : serves core ≡ true
  leads = (and_parts (serves core) (nat_lt (places core.replica.state.log) max_places) room).0

  still_open : (d : Connection) → is_open_at port d ≡ true → is_open_at port (asked_now now connect.keep_alive d) ≡ true
  still_open d e = (and_parts (not (is_closed d.stage)) (is_at port d) e).1

  -- it is proposed
  proposed_silently : (k : CoreState) → k.replica ≡ core.replica → proposes command k ≡ record { core = with_replica (proposal_at core command).state k; messages = (proposal_at core command).effects }
  unfolding proposes
  proposed_silently k same =
      ap (λ (b : Bool). if b then delivered_of (proposed rules k.replica.state command) k else without_messages k)
      (ap (λ (r : CountedReplica State Command). is_active r.state.role && not r.state.stopped) same ∙ leads)
      ∙ ap (λ (r : CountedReplica State Command). let t : StepOutcome = delivered_of (proposed rules r.state command) k in t) same
      ∙ ap (λ (x : CoreState). let t : StepOutcome = record { core = x; messages = filter is_message (proposal_at core command).effects } in t)
      (none_handled (proposal_at core command).effects silent (with_replica (proposal_at core command).state k))
      ∙ ap (λ (l : List (Effect Command Output)). let t : StepOutcome = record { core = with_replica (proposal_at core command).state k; messages = l } in t)
      (only_messages (proposal_at core command).effects silent)
    where
      delivered_of : Outcome State Command Output → CoreState → StepOutcome
      delivered_of o x = record { core = fold with_effect (with_replica o.state x) o.effects; messages = filter is_message o.effects }

  -- the connection is found with its bytes
  found : open_at port (with_change (with_unread piece)) ≡ Some (with_unread piece c)
  found = find_changed (is_open_at port) (with_unread piece) core.connections c (λ d e. e) opened

  asked_is : ◌≡◌ {A = CoreState} (record core {
    connections = changed_where (is_open_at port) (noted_proposed connect.keep_alive)
        (changed_where (is_open_at port) (left_with now []) (changed_where (is_open_at port) (with_unread piece) core.connections));
  }) (with_change (asked_now now connect.keep_alive))
  asked_is = ap (λ (l : List Connection). let k : CoreState = record core { connections = l } in k)
      (changed_twice (is_open_at port) (noted_proposed connect.keep_alive) (left_with now []) (changed_where (is_open_at port) (with_unread piece) core.connections) (λ d e. e)
      ∙ changed_twice (is_open_at port) (λ (d : Connection). noted_proposed connect.keep_alive (left_with now [] d)) (with_unread piece) core.connections (λ d e. e))

  abbrev first_turn : StepOutcome
  first_turn = record { core = after; messages = (proposal_at core command).effects }

  first_read : reads_next now port (with_change (with_unread piece)) ≡ first_turn
  unfolding reads_next changes
  first_read =
      ap (reads_of now port (with_change (with_unread piece))) found
      ∙ ap (reads now port (with_unread piece c) (with_change (with_unread piece))) (ap (λ (l : List ℕ). verdict (l ++ piece)) unread ∙ whole)
      ∙ rest
    where
      rest : reads now port (with_unread piece c) (with_change (with_unread piece)) (Ok (packets.Connect connect, [])) ≡ first_turn
      rest = rw (awaits, room) (ap (proposes command) asked_is ∙ proposed_silently (with_change (asked_now now connect.keep_alive)) refl)

  then_rests : reads_next now port after ≡ without_messages after
  unfolding reads_next
  then_rests =
      ap (reads_of now port after) (find_changed (is_open_at port) (asked_now now connect.keep_alive) core.connections c still_open opened)
      ∙ ap (reads now port (asked_now now connect.keep_alive c) after) is_more

  all_read : reads_all now port (with_change (with_unread piece)) ≡ first_turn
  all_read =
      ap (λ (o : Option Connection). repeated (unread_of o) (reads_next now port) (with_change (with_unread piece))) found
      ∙ ap (λ (l : List ℕ). repeated (length (l ++ piece)) (reads_next now port) (with_change (with_unread piece))) unread
      ∙ by piece whole
    where
      by : (p : List ℕ) → verdict p ≡ Ok (packets.Connect connect, []) → repeated (length p) (reads_next now port) (with_change (with_unread piece)) ≡ first_turn
      by [] e = absurd (two_kinds (packets.Connect connect, []) stops.More (sym e ∙ is_more))
      by (b ∷ bs) e = repeated_once (length bs) (reads_next now port) (with_change (with_unread piece)) first_turn first_read then_rests

  after_calm : ReportsItsLosses after
  after_calm = each_kept (λ (d : Connection). has_failed d ≡ false) (is_open_at port) (asked_now now connect.keep_alive) core.connections (λ d e. refl) calm

  settled_after : settled after ≡ with_asked_connect now port connect command core
  unfolding settled
  settled_after =
      ap (λ (b : Bool). let k : CoreState = record after { connections = filter is_listed (if b then after.connections else map closed_connection after.connections) } in k)
      (proposed_serves core command room)

  pub is_proposed : node_step (Bytes port piece now) core ≡ record { core = with_asked_connect now port connect command core; messages = (proposal_at core command).effects }
  unfolding changes
  is_proposed =
      ap (λ (u : StepOutcome). let v : StepOutcome = record { core = settled (reports_all_failed u.core).core; messages = u.messages ++ (reports_all_failed u.core).messages } in v) all_read
      ∙ ap (λ (u : StepOutcome). let v : StepOutcome = record { core = settled u.core; messages = (proposal_at core command).effects ++ u.messages } in v)
      (none_lost (length after.connections) after (calm_finds after.connections after_calm))
      ∙ ap (λ (k : CoreState). let v : StepOutcome = record { core = k; messages = (proposal_at core command).effects ++ [] } in v) settled_after
      ∙ ap (λ (l : List (Effect Command Output)). let v : StepOutcome = record { core = with_asked_connect now port connect command core; messages = l } in v)
      (append-nil (proposal_at core command).effects)

pub connect_is_proposed : ConnectIsProposed
connect_is_proposed core port now piece c connect room calm opened awaits unread whole silent =
    is_proposed core port now piece c connect room calm opened awaits unread whole silent
