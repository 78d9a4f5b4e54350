-- What each connection of a node becomes in a move: it keeps its name, does not wait for its first packet again, and holds only bytes that came.
use Rattle.std.proofs.Common.{◌≡◌, inl, inr, ℕ, zero, suc, Bool, true, false, not, ◌&&◌, ◌+◌, nat_le, if◌then◌else◌, length, List, [], ◌∷◌, ◌++◌, Option, Some, None, Ok, refl, sym, ap, ◌∙◌, subst, arith}
use Rattle.std.specs.List.{find, fold, list_any}
use Rattle.std.specs.Prelude.{get_or, ◌<◌}
use Rattle.std.proofs.lemmas.Bool.{both_ways}
use Rattle.std.proofs.lemmas.Result.{IfOk-at_ok}
use Rattle.lists.specs.Lists.{Each}
use Rattle.lists.proofs.OfEach.{each_append, each_right}
use Rattle.packet.specs.Spelling.{spelling}
use Rattle.packet.specs.Verdict.{verdict}
use Rattle.packet.specs.declared.packet.Packet.{Packet}
use Rattle.packet.proofs.PacketReads.{Begins, verdict_found}
use Rattle.packet_base.specs.declared.refusal_code.RefusalCode.{RefusalCode}
use Rattle.ballot_base.specs.declared.message.Effect.{Effect}
use Rattle.ballot_base.specs.declared.message.Effect.TheVariants.{To, Out}
use Rattle.ballot_base.specs.Protocol.{Input}
use Rattle.broker_spec.specs.declared.command.Command.{Command}
use Rattle.broker_spec.specs.declared.command.Command.TheVariants as commands
use Rattle.broker_spec.specs.Connection.{ConnectionName, is_connection_name}
use Rattle.broker_spec.specs.declared.command.Output.{Output}
use Rattle.broker_spec.specs.declared.command.Output.TheVariants as outputs
use Rattle.exactly_once.proofs.Takes.{same_name_self}
use Rattle.world_base.specs.declared.node_connections.connection.Connection.{Connection}
use Rattle.world_base.specs.declared.node_connections.connection.ConnectionStage.TheVariants.{Closed, Failed}
use Rattle.world_base.specs.declared.node_connections.port.Port.{Port}
use Rattle.world_base.specs.node_connections.Connections.{awaits_first_packet, fresh, has_failed, is_at, is_listed, is_open_at, is_open_named, is_proposed}
use Rattle.world_base.specs.node_connections.ConnectionChanges.{changed_where, closed_connection, failing, left_with, max_pending, noted_proposed, nothing_pending, putting, with_queued, with_unread}
use Rattle.world_base.specs.node_connections.Refusals.{connect_refused}
use Rattle.world_base.specs.node_core.Core.{CoreState, StepOutcome, serves}
use Rattle.world_base.specs.node_core.Effects.{changes_named, drives, outcome_of_input, with_effect}
use Rattle.world_base.specs.node_core.FailedConnections.{closes_failed}
use Rattle.world_base.specs.node_core.Lossy.{Account, HandlesAll, Performs, TakesCommand}
use Rattle.world_base.specs.node_core.Lossy.HandlesAll.{nothing, does, sends, loses}
use Rattle.world_base.specs.node_core.PacketInput.{changes, open_at}
use Rattle.world_base.specs.node_core.PortOutput.{hands_over, left_by, listed_at}
use Rattle.world_base.specs.node_core.Step.{next_name, with_next_connection}
use Rattle.headline.specs.node_moves.Ends.{piece_on}
use Rattle.headline.specs.node_moves.LossyMoves.{NodeMoveOrLost}
use Rattle.headline.specs.node_moves.LossyMoves.NodeMoveOrLost.{exactly, hears_losing, first_losing, later_losing, tells_losing, expels_losing, forgets, halts, fails, unheard, drops}
use Rattle.headline.specs.node_moves.LossyParts.{came_on}
use Rattle.headline.specs.node_moves.Moves.{NodeMove}
use Rattle.headline.specs.node_moves.Moves.NodeMove.{hears, opens_one, holds, reads_first, reads_later, closes, refuses, loses_one, loses_next, expels_one, cuts_log, crashes, settles, hands}
use Rattle.headline.proofs.of_node_moves.EachKept.{IsKept, each_proposed, each_settled}
use Rattle.headline.proofs.of_node_moves.StepsMove.{twice}
use Rattle.headline.proofs.of_node_moves.Views.{each_filtered, each_kept, none_changes, same_some}
use Rattle.one_client.specs.Calls.{IsByte}

-- ---- bytes

-- in the words of the decoder
bytes_are : (bytes : List ℕ) → Each IsByte bytes → (index : ℕ) → get_or bytes index 0 < 256
bytes_are [] all index = omega arith
bytes_are (b ∷ bytes) all zero = all.0
bytes_are (b ∷ bytes) all (suc index) = bytes_are bytes all.1 index

-- a packet that is read is spelled so
pub begins : (unread : List ℕ) (packet : Packet) (rest : List ℕ) → Each IsByte unread → verdict unread ≡ Ok (packet, rest) → Begins unread packet rest
begins unread packet rest all is = IfOk-at_ok (λ x. Begins unread x.0 x.1) is (verdict_found unread (bytes_are unread all))

-- and what is left are bytes
left_bytes : (unread : List ℕ) (packet : Packet) (rest : List ℕ) → verdict unread ≡ Ok (packet, rest) → Each IsByte unread → Each IsByte rest
left_bytes unread packet rest is all =
    let b = begins unread packet rest all is in
    each_right IsByte b.front rest (subst (Each IsByte) b.parts all)

-- ---- one connection

pub record Follows (c d : Connection) : Type 0 where
  pub name : d.name ≡ c.name
  pub waits : awaits_first_packet d.stage ≡ true → awaits_first_packet c.stage ≡ true
  pub bytes : Each IsByte c.unread → Each IsByte d.unread
  pub same : awaits_first_packet d.stage ≡ true → d.unread ≡ c.unread

shut : (c : Connection) → Follows c (closed_connection c)
shut c = record { name = refl; waits = λ e. absurd cc; bytes = λ all. tt; same = λ e. absurd cc }

failed : (c : Connection) → Follows c (failing c)
failed c = record { name = refl; waits = λ e. absurd (waits (is_proposed c.stage) e); bytes = λ all. tt; same = λ e. absurd (waits (is_proposed c.stage) e) }
  where
    waits : (b : Bool) → awaits_first_packet (if b then Failed else Closed) ≡ true → ⊥
    waits true e = cc
    waits false e = cc

queued : (bytes : List ℕ) (c : Connection) → Follows c (with_queued bytes c)
queued bytes c = by (nat_le (length c.pending + length bytes) max_pending)
  where
    by : (b : Bool) → Follows c (let d : Connection = if b then putting bytes c else failing c in d)
    by true = record { name = refl; waits = λ e. e; bytes = λ all. all; same = λ e. refl }
    by false = failed c

first_read : (keep_alive now : ℕ) (c : Connection) (packet : Packet) (rest : List ℕ) → verdict c.unread ≡ Ok (packet, rest) → Follows c (noted_proposed keep_alive (left_with now rest c))
first_read keep_alive now c packet rest is =
    record { name = refl; waits = λ e. absurd cc; bytes = left_bytes c.unread packet rest is; same = λ e. absurd cc }

emptied : (c : Connection) → Follows c (nothing_pending c)
emptied c = record { name = refl; waits = λ e. e; bytes = λ all. all; same = λ e. refl }

refused : (code : RefusalCode) (c : Connection) → Follows c (connect_refused code c)
refused code c = record { name = refl; waits = λ e. absurd cc; bytes = λ all. tt; same = λ e. absurd cc }

left : (now : ℕ) (c : Connection) (packet : Packet) (rest : List ℕ) → awaits_first_packet c.stage ≡ false → verdict c.unread ≡ Ok (packet, rest) → Follows c (left_with now rest c)
left now c packet rest later is =
    record { name = refl; waits = λ e. e; bytes = left_bytes c.unread packet rest is; same = λ e. absurd (both_ways (awaits_first_packet c.stage) later e) }

-- ---- what connections keep, if each that follows one keeps it

abbrev pub IsFollowed : (Connection → Type 0) → Type 0
IsFollowed P = (c d : Connection) → Follows c d → P c → P d

-- the first one that passes a test changes
found_changed : (P : Connection → Type 0) (test : Connection → Bool) (f : Connection → Connection) (cs : List Connection) (c : Connection) → find test cs ≡ Some c → (P c → P (f c)) → Each P cs
    → Each P (changed_where test f cs)
found_changed P test f [] c found keeps all = tt
found_changed P test f (d ∷ cs) c found keeps all = by (test d) found (λ g. found_changed P test f cs c g keeps all.1)
  where
    by : (b : Bool) → (if b then Some d else find test cs) ≡ Some c → (find test cs ≡ Some c → Each P (changed_where test f cs)) → Each P (if b then f d ∷ cs else d ∷ changed_where test f cs)
    by true g rest = let same : d ≡ c = same_some d c g in (subst (λ (z : Connection). P z → P (f z)) (sym same) keeps all.0, all.1)
    by false g rest = (all.0, rest g)

module _ (P : Connection → Type 0) (follows : IsFollowed P) where
  abbrev pub AllOf : CoreState → Type 0
  AllOf core = Each P core.connections

  pub kept : IsKept P
  kept = record { shut = λ c. follows c (closed_connection c) (shut c); put = λ bytes c. follows c (with_queued bytes c) (queued bytes c) }

  pub each_at : (port : Port) (f : Connection → Connection) (core : CoreState) → ((c : Connection) → Follows c (f c)) → AllOf core → AllOf (changes port f core)
  unfolding changes
  each_at port f core so all = each_kept P (is_open_at port) f core.connections (λ c. follows c (f c) (so c)) all

  pub each_found : (port : Port) (f : Connection → Connection) (core : CoreState) (c : Connection) → open_at port core ≡ Some c → Follows c (f c) → AllOf core → AllOf (changes port f core)
  unfolding changes
  each_found port f core c found so all = found_changed P (is_open_at port) f core.connections c found (follows c (f c) so) all

  each_first : (port : Port) (keep_alive now : ℕ) (core : CoreState) (c : Connection) (packet : Packet) (rest : List ℕ) → open_at port core ≡ Some c → verdict c.unread ≡ Ok (packet, rest) → AllOf core
      → AllOf (changes port (noted_proposed keep_alive) (changes port (left_with now rest) core))
  unfolding changes
  each_first port keep_alive now core c packet rest found is all =
      subst (Each P) (sym (twice (is_open_at port) (noted_proposed keep_alive) (left_with now rest) core.connections (λ d e. e)))
      (found_changed P (is_open_at port) (λ d. noted_proposed keep_alive (left_with now rest d)) core.connections c found
      (follows c (noted_proposed keep_alive (left_with now rest c)) (first_read keep_alive now c packet rest is)) all)

  -- ---- the replica

  pub each_named : (name : ConnectionName) (f : Connection → Connection) (core : CoreState) → ((c : Connection) → Follows c (f c)) → AllOf core → AllOf (changes_named name f core)
  unfolding changes_named
  each_named name f core so all = each_kept P (is_open_named name) f core.connections (λ c. follows c (f c) (so c)) all

  each_handled : (core : CoreState) (e : Effect Command Output) → AllOf core → AllOf (with_effect core e)
  each_handled core (Out place (outputs.Send name packet)) all = each_named name (with_queued (spelling packet)) core (queued (spelling packet)) all
  each_handled core (Out place (outputs.Close name)) all = each_named name closed_connection core shut all
  each_handled core (To receiver message) all = all

  each_delivered : (core : CoreState) (effects : List (Effect Command Output)) → AllOf core → AllOf (fold with_effect core effects)
  each_delivered core [] all = all
  each_delivered core (e ∷ effects) all = each_delivered (with_effect core e) effects (each_handled core e all)

  each_driven : (input : Input Command) (core : CoreState) → AllOf core → AllOf (drives input core).core
  unfolding drives
  each_driven input core all =
      each_delivered (let k : CoreState = record core { replica = record core.replica { state = (outcome_of_input input core.replica.state).state } } in k) (outcome_of_input input core.replica.state).effects all

  performs_kept : (output : Output) (core new : CoreState) → Performs output core new → AllOf core → AllOf new
  performs_kept (outputs.Send name packet) core new (inl is) all = subst AllOf (sym is) (each_named name (with_queued (spelling packet)) core (queued (spelling packet)) all)
  performs_kept (outputs.Send name packet) core new (inr is) all = subst AllOf (sym is) (each_named name failing core failed all)
  performs_kept (outputs.Close name) core new is all = subst AllOf (sym is) (each_named name closed_connection core shut all)

  handles_kept : (given : List (Effect Command Output)) (core new : CoreState) (messages : List (Effect Command Output)) → HandlesAll given core new messages → AllOf core → AllOf new
  handles_kept _ core _ _ nothing all = all
  handles_kept _ core new _ (does {place} {output} {core = k} {next = next} {given = given} served more) all =
      handles_kept given next new _ more (performs_kept output core next served all)
  handles_kept _ core new _ (sends {receiver} {message} {given = given} more) all = handles_kept given core new _ more all
  handles_kept _ core new _ (loses {receiver} {message} {given = given} more) all = handles_kept given core new _ more all

  pub each_taken : (command : Command) (core : CoreState) (account : Account) → TakesCommand command core account → AllOf core → AllOf account.core
  each_taken command core account t all = handles_kept account.given (record core { replica = t.replica }) account.core account.messages t.handles all

  -- ---- moves

  opens_kept : (port : Port) (core : CoreState) → (is_connection_name (next_name core) ≡ true → P (fresh port (next_name core))) → AllOf core → AllOf (with_next_connection port core)
  unfolding with_next_connection
  opens_kept port core new all = by (serves core && not (list_any (is_at port) core.connections)) (is_connection_name (next_name core)) refl
    where
      by : (a b : Bool) → is_connection_name (next_name core) ≡ b
          → AllOf (let k : CoreState = if a && b then record core { last_name = next_name core; connections = core.connections ++ fresh port (next_name core) ∷ [] } else core in k)
      by true true fits = each_append P core.connections (fresh port (next_name core) ∷ []) all (new fits, tt)
      by true false other = all
      by false b other = all

  left_over : (port : Port) (core : CoreState) (o : Option Connection) → AllOf core → AllOf (left_by port core o)
  left_over port core None all = all
  left_over port core (Some c) all =
      each_filtered P is_listed (changed_where (is_at port) nothing_pending core.connections)
      (each_kept P (is_at port) nothing_pending core.connections (λ d. follows d (nothing_pending d) (emptied d)) all)

  handed_kept : (port : Port) (core : CoreState) → AllOf core → AllOf (hands_over port core)
  unfolding hands_over
  handed_kept port core all = left_over port core (listed_at port core) all

  failed_kept : (core : CoreState) → AllOf core → AllOf (closes_failed core)
  failed_kept core all = each_kept P has_failed closed_connection core.connections (λ c. follows c (closed_connection c) (shut c)) all

  -- what is asked of a connection that a move opens
  abbrev pub IsNew : CoreState → Type 0
  IsNew core = (port : Port) → is_connection_name (next_name core) ≡ true → P (fresh port (next_name core))

  -- what is asked of a move in which bytes come
  abbrev pub HoldsSo : {core : CoreState} {outcome : StepOutcome} → NodeMoveOrLost core outcome → Type 0
  HoldsSo {core = core} (exactly (holds port piece)) = AllOf (changes port (with_unread piece) core)
  HoldsSo _ = Unit {0}

  exact_kept : (core : CoreState) (outcome : StepOutcome) (m : NodeMove core outcome) → IsNew core → HoldsSo (exactly m) → AllOf core → AllOf outcome.core
  exact_kept core outcome (hears input other) new brings all = each_driven input core all
  exact_kept core outcome (opens_one port) new brings all = opens_kept port core (new port) all
  exact_kept core outcome (holds port piece) new brings all = brings
  exact_kept core outcome (reads_first now port c connect rest at first is room) new brings all =
      each_proposed P kept (commands.Connect c.name connect.client connect.clean) (changes port (noted_proposed connect.keep_alive) (changes port (left_with now rest) core))
      (each_first port connect.keep_alive now core c _ rest at is all)
  exact_kept core outcome (reads_later now port c packet rest at later is room) new brings all =
      each_proposed P kept (commands.Packet c.name packet) (changes port (left_with now rest) core) (each_found port (left_with now rest) core c at (left now c packet rest later is) all)
  exact_kept core outcome (closes port) new brings all = each_at port closed_connection core shut all
  exact_kept core outcome (refuses port c code at first is) new brings all = each_at port (connect_refused code) core (refused code) all
  exact_kept core outcome (loses_one port c at asked) new brings all =
      each_proposed P kept (commands.Lost c.name) (changes port closed_connection core) (each_at port closed_connection core shut all)
  exact_kept core outcome (loses_next c at) new brings all = each_proposed P kept (commands.Lost c.name) (closes_failed core) (failed_kept core all)
  exact_kept core outcome (expels_one client) new brings all = each_proposed P kept (commands.Expel client) core all
  exact_kept core outcome (cuts_log can) new brings all = all
  exact_kept core outcome crashes new brings all = all
  exact_kept core outcome settles new brings all = each_settled P kept.shut core all
  exact_kept core outcome (hands port) new brings all = handed_kept port core all

  pub move_kept : (core : CoreState) (outcome : StepOutcome) (m : NodeMoveOrLost core outcome) → IsNew core → HoldsSo m → AllOf core → AllOf outcome.core
  move_kept core outcome (exactly m) new brings all = exact_kept core outcome m new brings all
  move_kept core outcome (hears_losing input account other drives_so) new brings all =
      handles_kept account.given (record core { replica = drives_so.replica }) account.core account.messages drives_so.handles all
  move_kept core outcome (first_losing now port c connect rest account at first is taken) new brings all =
      each_taken (commands.Connect c.name connect.client connect.clean) (changes port (noted_proposed connect.keep_alive) (changes port (left_with now rest) core)) account taken
      (each_first port connect.keep_alive now core c _ rest at is all)
  move_kept core outcome (later_losing now port c packet rest account at later is taken) new brings all =
      each_taken (commands.Packet c.name packet) (changes port (left_with now rest) core) account taken (each_found port (left_with now rest) core c at (left now c packet rest later is) all)
  move_kept core outcome (tells_losing name account taken) new brings all = each_taken (commands.Lost name) core account taken all
  move_kept core outcome (expels_losing client account taken) new brings all = each_taken (commands.Expel client) core account taken all
  move_kept core outcome forgets new brings all = all
  move_kept core outcome halts new brings all = all
  move_kept core outcome (fails port) new brings all = each_at port failing core failed all
  move_kept core outcome unheard new brings all = failed_kept core all
  move_kept core outcome (drops port piece) new brings all = each_at port closed_connection core shut all

-- ---- bytes that come are held

module _ (P : Connection → Type 0) (follows : IsFollowed P) (holds_so : (piece : List ℕ) (c : Connection) → Each IsByte piece → P c → P (with_unread piece c)) where
  each_held : (port : Port) (piece : List ℕ) (core : CoreState) → ((x : ConnectionName) → Each IsByte (piece_on x piece (open_at port core))) → Each P core.connections
      → Each P (changes port (with_unread piece) core).connections
  unfolding changes
  each_held port piece core brings all = by (open_at port core) refl
    where
      by : (o : Option Connection) → open_at port core ≡ o → Each P (changed_where (is_open_at port) (with_unread piece) core.connections)
      by None none = subst (Each P) (sym (none_changes (is_open_at port) (with_unread piece) core.connections none)) all
      by (Some c) found =
          found_changed P (is_open_at port) (with_unread piece) core.connections c found
          (holds_so piece c
          (subst (Each IsByte)
          (ap (piece_on c.name piece) found ∙ ap (λ (b : Bool). let l : List ℕ = if b then piece else [] in l) (same_name_self c.name))
          (brings c.name))) all

  held_bytes : (core : CoreState) (outcome : StepOutcome) (m : NodeMoveOrLost core outcome) → ((x : ConnectionName) → Each IsByte (came_on x m)) → Each P core.connections → HoldsSo P follows m
  held_bytes core outcome (exactly (holds port piece)) brings all = each_held port piece core brings all
  held_bytes core outcome _ brings all = tt

  pub bytes_kept : (core : CoreState) (outcome : StepOutcome) (m : NodeMoveOrLost core outcome) → IsNew P follows core → ((x : ConnectionName) → Each IsByte (came_on x m)) → Each P core.connections
      → Each P outcome.core.connections
  bytes_kept core outcome m new brings all = move_kept P follows core outcome m new (held_bytes core outcome m brings all) all
