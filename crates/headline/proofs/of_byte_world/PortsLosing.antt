-- In a step with losses, too, each connection keeps its port and its name, and none that was closed is open again.
use Rattle.std.proofs.Common.{◌≡◌, inl, inr, ℕ, zero, suc, true, not, List, length, refl, sym, ap, subst}
use Rattle.std.proofs.lemmas.Bool.{both_ways}
use Rattle.packet.specs.Spelling.{spelling}
use Rattle.packet.specs.declared.packet.Packet.{Packet}
use Rattle.packet.specs.declared.packet.Packet.TheVariants as packets
use Rattle.ballot_base.specs.declared.message.Effect.{Effect}
use Rattle.ballot_base.specs.Protocol.{Input}
use Rattle.ballot_base.specs.Protocol.Input.{Receives, Ticks}
use Rattle.broker_spec.specs.declared.command.Command.{Command}
use Rattle.broker_spec.specs.declared.command.Command.TheVariants as commands
use Rattle.broker_spec.specs.Connection.{ConnectionName}
use Rattle.broker_spec.specs.declared.command.Output.{Output}
use Rattle.broker_spec.specs.declared.command.Output.TheVariants as outputs
use Rattle.lists.specs.Lists.{Each}
use Rattle.lists.proofs.OfEach.{each_then}
use Rattle.world_base.specs.declared.node_connections.connection.Connection.{Connection}
use Rattle.world_base.specs.declared.node_core.item.Item.{Item}
use Rattle.world_base.specs.node_core.LossyStep.LogCutOrLost.{nothing_to_cut, cuts_log, forgets_cut}
use Rattle.world_base.specs.declared.node_core.item.Item.TheVariants.{Peer, Tick, Opened, Bytes, Ended, Expel, Cut, Crash}
use Rattle.world_base.specs.declared.node_connections.port.Port.{Port}
use Rattle.world_base.specs.node_connections.Connections.{has_failed, is_at}
use Rattle.world_base.specs.node_connections.ConnectionChanges.{noted_proposed, closed_connection, failing, with_unread, left_with, with_queued}
use Rattle.world_base.specs.node_core.Core.{CoreState}
use Rattle.world_base.specs.node_core.FailedConnections.{closes_failed}
use Rattle.world_base.specs.node_core.Lossy.{Account, HandlesAll, Drives, Repeated, Performs, TakesCommand, Then, without_effects}
use Rattle.world_base.specs.node_core.LossyProposals.{Declines, ProposesCommand}
use Rattle.world_base.specs.node_core.LossyProposals.Declines.{no_room, forgets, stops}
use Rattle.world_base.specs.node_core.Lossy.HandlesAll.{nothing, does, sends, loses}
use Rattle.world_base.specs.node_core.LossyStep.{ActsOn, HoldsBytes, ReportsAllFailed, AcceptsConnection, ReadsPackets, RunsOn, DoesItem}
use Rattle.world_base.specs.node_core.LossyEndings.{EndsConnection, EndsSilent, ReportsFailed}
use Rattle.world_base.specs.node_core.LossyPacketInput.{TakesOr, TakesFirstPacket, ClosesConnection, ReadsNext, Shuts}
use Rattle.world_base.specs.node_core.LossyEndings.EndsConnection.{none_open, unproposed, proposed}
use Rattle.world_base.specs.node_core.LossyEndings.EndsSilent.{none_silent, ends_one}
use Rattle.world_base.specs.node_core.LossyEndings.ReportsFailed.{none_failed, tells_one}
use Rattle.world_base.specs.node_core.LossyPacketInput.ReadsNext.{waits, first, later, refuses, ends}
use Rattle.world_base.specs.node_core.PacketInput.{changes, open_at, unread_of}
use Rattle.world_base.specs.node_connections.Refusals.{connect_refused}
use Rattle.world_base.specs.node_core.Step.{with_next_connection}
use Rattle.headline.proofs.of_node_moves.EachKept.{each_settled}
use Rattle.headline.proofs.of_node_moves.Kept.{failing_over, left_true, live}
use Rattle.headline.proofs.of_byte_world.PortsKept.{AllOf, Comes, IsFollowed, IsLater, IsOfOld, all_old, comes_later, each_at, each_changed, each_named, each_opened, is_put_out, is_shut, kept, old_later, shut_at}

fails_later : (c : Connection) → IsLater c (failing c)
fails_later c = record { port = refl; name = refl; lives = λ e. absurd (both_ways (live (failing c)) (ap not (failing_over c)) e) }

stays_later : (c d : Connection) → d.port ≡ c.port → d.name ≡ c.name → live d ≡ live c → IsLater c d
stays_later c d p n lives = record { port = p; name = n; lives = λ e. subst (λ b. b ≡ true) lives e }

module _ (P : Connection → Type 0) (follows : IsFollowed P) where
  abbrev All : CoreState → Type 0
  All core = AllOf P follows core

  -- what is done so keeps it
  abbrev Keeps : (CoreState → Account → Type 0) → Type 0
  Keeps DoesCall = (core : CoreState) (account : Account) → DoesCall core account → All core → All account.core

  becomes : (new : CoreState) (account : Account) → account ≡ without_effects new → All new → All account.core
  becomes new account is all = subst (λ (d : Account). All d.core) (sym is) all

  then_kept : (F N : CoreState → Account → Type 0) → Keeps F → Keeps N → Keeps (Then F N)
  then_kept F N f n core account t all = subst (λ (d : Account). All d.core) (sym t.is) (n t.one.core t.two t.next (f core t.one t.first all))

  repeated_kept : (times : ℕ) (N : CoreState → Account → Type 0) → Keeps N → Keeps (Repeated times N)
  repeated_kept zero N n core account is all = becomes core account is all
  repeated_kept (suc more) N n core account t all = then_kept N (Repeated more N) n (repeated_kept more N n) core account t all

  -- ---- the replica

  serves_kept : (output : Output) (core new : CoreState) → Performs output core new → All core → All new
  serves_kept (outputs.Send name packet) core new (inl is) all = subst All (sym is) (each_named P follows name (with_queued (spelling packet)) core (is_put_out (spelling packet)) all)
  serves_kept (outputs.Send name packet) core new (inr is) all = subst All (sym is) (each_named P follows name failing core fails_later all)
  serves_kept (outputs.Close name) core new is all = subst All (sym is) (each_named P follows name closed_connection core is_shut all)

  delivers_kept : (given : List (Effect Command Output)) (core new : CoreState) (messages : List (Effect Command Output)) → HandlesAll given core new messages → All core → All new
  delivers_kept _ core _ _ nothing all = all
  delivers_kept _ core new _ (does {place} {output} {core = k} {next = next} {given = given} served more) all =
      delivers_kept given next new _ more (serves_kept output core next served all)
  delivers_kept _ core new _ (sends {receiver} {message} {given = given} more) all = delivers_kept given core new _ more all
  delivers_kept _ core new _ (loses {receiver} {message} {given = given} more) all = delivers_kept given core new _ more all

  drives_kept : (input : Input Command) → Keeps (Drives input)
  drives_kept input core account m all = delivers_kept account.given (record core { replica = m.replica }) account.core account.messages m.handles all

  takes_kept : (command : Command) → Keeps (TakesCommand command)
  takes_kept command core account t all = delivers_kept account.given (record core { replica = t.replica }) account.core account.messages t.handles all

  declines_kept : Keeps Declines
  declines_kept core account (no_room full is) all = subst (λ (d : Account). All d.core) (sym is) all
  declines_kept core account (forgets room is) all = subst (λ (d : Account). All d.core) (sym is) all
  declines_kept core account (stops room is) all = subst (λ (d : Account). All d.core) (sym is) all

  proposes_kept : (command : Command) → Keeps (ProposesCommand command)
  proposes_kept command core account (inl taken) all = takes_kept command core account taken all
  proposes_kept command core account (inr declines) all = declines_kept core account declines all

  -- ---- ends

  ends_kept : (port : Port) → Keeps (EndsConnection port)
  ends_kept port core account (none_open none is) all = becomes core account is all
  ends_kept port core account (unproposed c found other is) all = becomes (changes port closed_connection core) account is (shut_at P follows port core all)
  ends_kept port core account (proposed c found heard proposes) all = proposes_kept (commands.Lost c.name) (changes port closed_connection core) account proposes (shut_at P follows port core all)

  silent_kept : (now : ℕ) → Keeps (EndsSilent now)
  silent_kept now core account (none_silent none is) all = becomes core account is all
  silent_kept now core account (ends_one port found runs) all = ends_kept port core account runs all

  failed_kept : Keeps ReportsFailed
  failed_kept core account (none_failed none is) all = becomes core account is all
  failed_kept core account (tells_one c found proposes) all =
      proposes_kept (commands.Lost c.name) (closes_failed core) account proposes (each_changed P follows has_failed closed_connection core.connections (λ d e. is_shut d) all)

  -- ---- packets

  closes_kept : (port : Port) → Keeps (ClosesConnection port)
  closes_kept port core account is all = becomes (changes port closed_connection core) account is (shut_at P follows port core all)

  shuts_kept : (port : Port) → Keeps (Shuts port)
  shuts_kept port core account (inl is) all = closes_kept port core account is all
  shuts_kept port core account (inr is) all = becomes (changes port failing core) account is (each_at P follows port failing core (λ c e. fails_later c) all)

  asks_kept : (command : Command) (O : CoreState → Account → Type 0) → Keeps O → Keeps (TakesOr command O)
  asks_kept command O o core account (inl taken) all = takes_kept command core account taken all
  asks_kept command O o core account (inr t) all = then_kept Declines O declines_kept o core account t all

  begins_kept : (port : Port) (name : ConnectionName) (packet : Packet) → Keeps (TakesFirstPacket port name packet)
  begins_kept port name (packets.Connect connect) core account runs all =
      asks_kept (commands.Connect name connect.client connect.clean) (ClosesConnection port) (closes_kept port) (changes port (noted_proposed connect.keep_alive) core) account runs
      (each_at P follows port (noted_proposed connect.keep_alive) core (λ c e. record { port = refl; name = refl; lives = λ f. left_true (live c) (is_at port c) e }) all)
  begins_kept port name _ core account runs all = closes_kept port core account runs all

  left_kept : (now : ℕ) (port : Port) (rest : List ℕ) (core : CoreState) → All core → All (changes port (left_with now rest) core)
  left_kept now port rest core all = each_at P follows port (left_with now rest) core (λ c e. stays_later c (left_with now rest c) refl refl refl) all

  reads_kept : (now : ℕ) (port : Port) → Keeps (ReadsNext now port)
  reads_kept now port core account (waits c found more is) all = becomes core account is all
  reads_kept now port core account (first c packet rest found awaits is runs) all =
      begins_kept port c.name packet (changes port (left_with now rest) core) account runs (left_kept now port rest core all)
  reads_kept now port core account (later c packet rest found after_first is runs) all =
      asks_kept (commands.Packet c.name packet) (Shuts port) (shuts_kept port) (changes port (left_with now rest) core) account runs (left_kept now port rest core all)
  reads_kept now port core account (refuses c code found awaits is runs) all =
      becomes (changes port (connect_refused code) core) account runs
      (each_at P follows port (connect_refused code) core (λ d e. record { port = refl; name = refl; lives = λ f. absurd cc }) all)
  reads_kept now port core account (ends may runs) all = ends_kept port core account runs all

  -- ---- an item

  -- what is asked of one that opens a connection
  abbrev pub OpensSo : Item → CoreState → Type 0
  OpensSo (Opened port now) core = All core → All (with_next_connection port core)
  OpensSo _ core = Unit {0}

  holds_kept : (port : Port) (piece : List ℕ) → Keeps (HoldsBytes port piece)
  holds_kept port piece core account (inl is) all =
      becomes (changes port (with_unread piece) core) account is (each_at P follows port (with_unread piece) core (λ c e. stays_later c (with_unread piece c) refl refl refl) all)
  holds_kept port piece core account (inr runs) all = ends_kept port core account runs all

  opens_kept : (port : Port) (core : CoreState) (account : Account) → (All core → All (with_next_connection port core)) → AcceptsConnection port core account → All core → All account.core
  opens_kept port core account new (inl is) all = becomes (with_next_connection port core) account is (new all)
  opens_kept port core account new (inr is) all = becomes core account is all

  all_silent : (now : ℕ) (core : CoreState) (account : Account) → Repeated (length core.connections) (EndsSilent now) core account → All core → All account.core
  all_silent now core account runs all = repeated_kept (length core.connections) (EndsSilent now) (silent_kept now) core account runs all

  all_read : (now : ℕ) (port : Port) (core : CoreState) (account : Account) → ReadsPackets now port core account → All core → All account.core
  all_read now port core account runs all = repeated_kept (unread_of (open_at port core)) (ReadsNext now port) (reads_kept now port) core account runs all

  taken_kept : (item : Item) (core : CoreState) (account : Account) → OpensSo item core → DoesItem item core account → All core → All account.core
  taken_kept (Peer message) core account new runs all = drives_kept (Receives message) core account runs all
  taken_kept (Tick now) core account new t all =
      subst (λ (d : Account). All d.core) (sym t.is) (all_silent now t.one.core t.two t.next (drives_kept Ticks core t.one t.first all))
  taken_kept (Opened port now) core account new runs all = opens_kept port core account new runs all
  taken_kept (Bytes port piece now) core account new t all =
      subst (λ (d : Account). All d.core) (sym t.is) (all_read now port t.one.core t.two t.next (holds_kept port piece core t.one t.first all))
  taken_kept (Ended port) core account new runs all = ends_kept port core account runs all
  taken_kept (Expel client) core account new runs all = proposes_kept (commands.Expel client) core account runs all
  taken_kept Cut core account new (nothing_to_cut none is) all = becomes core account is all
  taken_kept Cut core account new (cuts_log can reads is) all = subst (λ (d : Account). All d.core) (sym is) all
  taken_kept Cut core account new (forgets_cut can is) all = subst (λ (d : Account). All d.core) (sym is) all
  taken_kept Crash core account new is all = subst (λ (d : Account). All d.core) (sym is) all

  all_failed : (core : CoreState) (account : Account) → ReportsAllFailed core account → All core → All account.core
  all_failed core account runs all = repeated_kept (length core.connections) ReportsFailed failed_kept core account runs all

  acts_kept : (item : Item) (core : CoreState) (account : Account) → OpensSo item core → ActsOn item core account → All core → All account.core
  acts_kept item core account new t all =
      subst (λ (d : Account). All d.core) (sym t.is) (all_failed t.one.core t.two t.next (taken_kept item core t.one new t.first all))

  pub each_lost : (item : Item) (core new : CoreState) (messages : List (Effect Command Output)) → OpensSo item core → RunsOn item core new messages → All core → All new
  each_lost item core new messages so runs all =
      subst All (sym runs.settles) (each_settled P (kept P follows).shut runs.account.core (acts_kept item core runs.account so runs.acts all))

-- ---- where the connections of a node come from

-- after an item that opens none each connection was there before
pub each_was_losing : (item : Item) (core new : CoreState) (messages : List (Effect Command Output)) → OpensSo (IsOfOld core.connections) (old_later core.connections) item core
    → RunsOn item core new messages → Each (IsOfOld core.connections) new.connections
each_was_losing item core new messages so runs =
    each_lost (IsOfOld core.connections) (old_later core.connections) item core new messages so runs (all_old core.connections core.connections (λ c i. i))

-- after an opening it was there, or is new
pub each_new_losing : (port : Port) (now : ℕ) (core new : CoreState) (messages : List (Effect Command Output)) → RunsOn (Opened port now) core new messages
    → Each (Comes core port) new.connections
each_new_losing port now core new messages runs =
    each_lost (Comes core port) (comes_later core port) (Opened port now) core new messages
    (each_opened (Comes core port) (comes_later core port) port core (λ none. inr (record { port_is = refl; name_is = refl; none = none }))) runs
    (each_then (IsOfOld core.connections) (Comes core port) core.connections (λ d o. inl o) (all_old core.connections core.connections (λ c i. i)))
