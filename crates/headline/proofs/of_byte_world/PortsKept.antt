-- In a step of a node each connection keeps its port and its name, and none that was closed is open again.
use Rattle.std.proofs.Common.{◌≡◌, ◌⊎◌, inl, inr, ℕ, zero, suc, Bool, true, false, not, ◌&&◌, ◌+◌, nat_le, length, if◌then◌else◌, List, [], ◌∷◌, ◌++◌, Option, Some, None, Result, Ok, Err, refl, ap, ◌∙◌}
use Rattle.std.specs.List.{fold, list_any}
use Rattle.std.proofs.lemmas.Bool.{both_ways}
use Rattle.packet_base.specs.declared.stop.Stop.{Stop}
use Rattle.packet_base.specs.declared.stop.Stop.TheVariants as stops
use Rattle.packet_base.specs.declared.refusal_code.RefusalCode.{RefusalCode}
use Rattle.packet.specs.Spelling.{spelling}
use Rattle.packet.specs.Verdict.{verdict}
use Rattle.packet.specs.declared.packet.Packet.{Packet}
use Rattle.packet.specs.declared.packet.Packet.TheVariants as packets
use Rattle.ballot_base.specs.declared.message.Effect.{Effect}
use Rattle.ballot_base.specs.declared.message.Effect.TheVariants.{To, Out}
use Rattle.ballot_base.specs.Protocol.{Input}
use Rattle.ballot_base.specs.Protocol.Input.{Receives, Ticks}
use Rattle.broker_spec.specs.declared.command.Command.{Command}
use Rattle.broker_spec.specs.declared.command.Command.TheVariants as commands
use Rattle.broker_spec.specs.Connection.{ConnectionName, is_connection_name}
use Rattle.broker_spec.specs.declared.command.Output.{Output}
use Rattle.broker_spec.specs.declared.command.Output.TheVariants as outputs
use Rattle.lists.specs.Lists.{Each, In}
use Rattle.lists.specs.Lists.In.{here, there}
use Rattle.lists.proofs.OfEach.{each_append, each_then}
use Rattle.world_base.specs.declared.node_connections.connection.Connection.{Connection}
use Rattle.world_base.specs.declared.node_core.item.Item.{Item}
use Rattle.ballot_base.specs.Compaction.{can_cut}
use Rattle.world_base.specs.declared.node_core.item.Item.TheVariants.{Peer, Tick, Opened, Bytes, Ended, Expel, Cut, Crash}
use Rattle.world_base.specs.declared.node_connections.port.Port.{Port}
use Rattle.world_base.specs.node_connections.Connections.{fresh, is_at, awaits_first_packet, is_listed, is_open_at, is_open_named, is_proposed}
use Rattle.world_base.specs.node_connections.ConnectionChanges.{noted_proposed, changed_where, closed_connection, failing, nothing_pending, with_unread, left_with, max_pending, with_queued, putting}
use Rattle.world_base.specs.node_core.Core.{CoreState, StepOutcome, serves}
use Rattle.world_base.specs.node_core.PortOutput.{hands_over, left_by, listed_at}
use Rattle.world_base.specs.node_core.KeepAlive.{ends_if, ends_silent}
use Rattle.world_base.specs.node_connections.Silent.{lowest_silent}
use Rattle.world_base.specs.node_core.PacketInput.{takes_first_packet, changes, port_closed, loses, loses_open, open_at, reads, reads_next, reads_of, proposes_packet, unread_of}
use Rattle.world_base.specs.node_connections.Refusals.{connect_refused}
use Rattle.world_base.specs.node_core.Step.{acts_on, next_name, with_next_connection, does_item, cuts, with_cut}
use Rattle.world_base.specs.node_core.Effects.{changes_named, drives, has_room, outcome_of_input, proposes, without_messages, repeated, with_effect}
use Rattle.headline.specs.node_moves.Moves.{NodeCall, done}
use Rattle.headline.specs.node_moves.Moves.NodeCall.{takes, hands_out}
use Rattle.headline.proofs.of_node_moves.EachKept.{IsKept, each_proposed, each_repeated, each_settled}
use Rattle.headline.proofs.of_node_moves.Kept.{failing_over, left_true, live, put_out_name}
use Rattle.headline.proofs.of_node_moves.Views.{each_filtered}

-- the same connection later: it has its port and its name, and is not open if it was closed
pub record IsLater (c d : Connection) : Type 0 where
  pub port : d.port ≡ c.port
  pub name : d.name ≡ c.name
  pub lives : live d ≡ true → live c ≡ true

pub is_shut : (c : Connection) → IsLater c (closed_connection c)
is_shut c = record { port = refl; name = refl; lives = λ e. absurd cc }

pub is_put_out : (bytes : List ℕ) (c : Connection) → IsLater c (with_queued bytes c)
is_put_out bytes c = record { port = port (nat_le (length c.pending + length bytes) max_pending); name = put_out_name bytes c; lives = lives (nat_le (length c.pending + length bytes) max_pending) }
  where
    port : (b : Bool) → (let d : Connection = if b then putting bytes c else failing c in d).port ≡ c.port
    port true = refl
    port false = refl

    lives : (b : Bool) → live (if b then putting bytes c else failing c) ≡ true → live c ≡ true
    lives true e = e
    lives false e = absurd (both_ways (live (failing c)) (ap not (failing_over c)) e)

-- what a connection keeps
abbrev pub IsFollowed : (Connection → Type 0) → Type 0
IsFollowed P = (c d : Connection) → IsLater c d → P c → P d

module _ (P : Connection → Type 0) (follows : IsFollowed P) where
  abbrev pub AllOf : CoreState → Type 0
  AllOf core = Each P core.connections

  pub kept : IsKept P
  kept = record { shut = λ c. follows c (closed_connection c) (is_shut c); put = λ bytes c. follows c (with_queued bytes c) (is_put_out bytes c) }

  pub each_changed : (test : Connection → Bool) (f : Connection → Connection) (cs : List Connection) → ((c : Connection) → test c ≡ true → IsLater c (f c)) → Each P cs
      → Each P (changed_where test f cs)
  each_changed test f [] later all = tt
  each_changed test f (c ∷ cs) later all = by (test c) refl (each_changed test f cs later all.1)
    where
      by : (b : Bool) → test c ≡ b → Each P (changed_where test f cs) → Each P (if b then f c ∷ cs else c ∷ changed_where test f cs)
      by true e rest = (follows c (f c) (later c e) all.0, all.1)
      by false e rest = (all.0, rest)

  pub each_at : (port : Port) (f : Connection → Connection) (core : CoreState) → ((c : Connection) → is_open_at port c ≡ true → IsLater c (f c)) → AllOf core → AllOf (changes port f core)
  unfolding changes
  each_at port f core later all = each_changed (is_open_at port) f core.connections later all

  pub shut_at : (port : Port) (core : CoreState) → AllOf core → AllOf (changes port closed_connection core)
  shut_at port core all = each_at port closed_connection core (λ c e. is_shut c) all

  -- ---- the replica

  pub each_named : (name : ConnectionName) (f : Connection → Connection) (core : CoreState) → ((c : Connection) → IsLater c (f c)) → AllOf core → AllOf (changes_named name f core)
  unfolding changes_named
  each_named name f core later all = each_changed (is_open_named name) f core.connections (λ c e. later c) all

  each_handled : (core : CoreState) (e : Effect Command Output) → AllOf core → AllOf (with_effect core e)
  each_handled core (Out place (outputs.Send name packet)) all = each_named name (with_queued (spelling packet)) core (is_put_out (spelling packet)) all
  each_handled core (Out place (outputs.Close name)) all = each_named name closed_connection core is_shut all
  each_handled core (To receiver message) all = all

  each_delivered : (core : CoreState) (effects : List (Effect Command Output)) → AllOf core → AllOf (fold with_effect core effects)
  each_delivered core [] all = all
  each_delivered core (e ∷ effects) all = each_delivered (with_effect core e) effects (each_handled core e all)

  each_driven : (input : Input Command) (core : CoreState) → AllOf core → AllOf (drives input core).core
  unfolding drives
  each_driven input core all =
      each_delivered (let k : CoreState = record core { replica = record core.replica { state = (outcome_of_input input core.replica.state).state } } in k) (outcome_of_input input core.replica.state).effects all

  -- ---- ends

  lost_one : (port : Port) (c : Connection) (core : CoreState) → AllOf core → AllOf (loses port c core).core
  lost_one port c core all = by (is_proposed c.stage)
    where
      by : (b : Bool) → AllOf (let t : StepOutcome = if b then proposes (commands.Lost c.name) (changes port closed_connection core) else without_messages (changes port closed_connection core) in t).core
      by true = each_proposed P kept (commands.Lost c.name) (changes port closed_connection core) (shut_at port core all)
      by false = shut_at port core all

  lost_open : (port : Port) (core : CoreState) (o : Option Connection) → AllOf core → AllOf (loses_open port core o).core
  lost_open port core None all = all
  lost_open port core (Some c) all = lost_one port c core all

  each_ended : (port : Port) (core : CoreState) → AllOf core → AllOf (port_closed port core).core
  unfolding port_closed
  each_ended port core all = lost_open port core (open_at port core) all

  silent_ended : (core : CoreState) (o : Option Port) → AllOf core → AllOf (ends_if o core).core
  silent_ended core None all = all
  silent_ended core (Some port) all = each_ended port core all

  each_silent : (now : ℕ) (core : CoreState) → AllOf core → AllOf (ends_silent now core).core
  unfolding ends_silent
  each_silent now core all = silent_ended core (lowest_silent now core.connections) all

  -- ---- packets

  proposed_or_shut : (port : Port) (command : Command) (core : CoreState) (b : Bool) → AllOf core
      → AllOf (let t : StepOutcome = if b then proposes command core else without_messages (changes port closed_connection core) in t).core
  proposed_or_shut port command core true all = each_proposed P kept command core all
  proposed_or_shut port command core false all = shut_at port core all

  each_begun : (port : Port) (name : ConnectionName) (packet : Packet) (core : CoreState) → AllOf core → AllOf (takes_first_packet port name packet core).core
  each_begun port name (packets.Connect connect) core all =
      let asking : CoreState = changes port (noted_proposed connect.keep_alive) core in
      proposed_or_shut port (commands.Connect name connect.client connect.clean) asking (has_room asking)
      (each_at port (noted_proposed connect.keep_alive) core (λ c e. record { port = refl; name = refl; lives = λ f. left_true (live c) (is_at port c) e }) all)
  each_begun port name _ core all = shut_at port core all

  read_packet : (now : ℕ) (port : Port) (c : Connection) (core : CoreState) (packet : Packet) (rest : List ℕ) → AllOf core → AllOf (reads now port c core (Ok (packet, rest))).core
  read_packet now port c core packet rest all = by (awaits_first_packet c.stage)
    where
      left : CoreState
      left = changes port (left_with now rest) core

      all_left : AllOf left
      all_left = each_at port (left_with now rest) core (λ d e. record { port = refl; name = refl; lives = λ f. f }) all

      by : (b : Bool) → AllOf (let t : StepOutcome = if b then takes_first_packet port c.name packet left else proposes_packet port c.name packet left in t).core
      by true = each_begun port c.name packet left all_left
      by false = proposed_or_shut port (commands.Packet c.name packet) left (has_room left) all_left

  read_refused : (now : ℕ) (port : Port) (c : Connection) (core : CoreState) (code : RefusalCode) → AllOf core → AllOf (reads now port c core (Err (stops.Refused code))).core
  read_refused now port c core code all = by (awaits_first_packet c.stage)
    where
      by : (b : Bool) → AllOf (let t : StepOutcome = if b then without_messages (changes port (connect_refused code) core) else loses port c core in t).core
      by true = each_at port (connect_refused code) core (λ d e. record { port = refl; name = refl; lives = λ f. absurd cc }) all
      by false = lost_one port c core all

  read_front : (now : ℕ) (port : Port) (c : Connection) (core : CoreState) (front : Result (Packet × List ℕ) Stop) → AllOf core → AllOf (reads now port c core front).core
  read_front now port c core (Ok (packet, rest)) all = read_packet now port c core packet rest all
  read_front now port c core (Err stops.More) all = all
  read_front now port c core (Err (stops.Malformed kind)) all = lost_one port c core all
  read_front now port c core (Err (stops.Refused code)) all = read_refused now port c core code all

  read_open : (now : ℕ) (port : Port) (core : CoreState) (o : Option Connection) → AllOf core → AllOf (reads_of now port core o).core
  read_open now port core None all = all
  read_open now port core (Some c) all = read_front now port c core (verdict c.unread) all

  each_read : (now : ℕ) (port : Port) (core : CoreState) → AllOf core → AllOf (reads_next now port core).core
  unfolding reads_next
  each_read now port core all = read_open now port core (open_at port core) all

  -- ---- calls

  each_time : (next : CoreState → StepOutcome) → ((core : CoreState) → AllOf core → AllOf (next core).core) → (times : ℕ) (core : CoreState) → AllOf core
      → AllOf (repeated times next core).core
  unfolding repeated
  each_time next each zero core all = all
  each_time next each (suc more) core all = each_time next each more (next core).core (each core all)

  pub each_opened : (port : Port) (core : CoreState) → (list_any (is_at port) core.connections ≡ false → P (fresh port (next_name core))) → AllOf core → AllOf (with_next_connection port core)
  unfolding with_next_connection
  each_opened port core new all = by (serves core) (list_any (is_at port) core.connections) (is_connection_name (next_name core)) refl
    where
      by : (a b c : Bool) → list_any (is_at port) core.connections ≡ b
          → AllOf (let k : CoreState = if (a && not b) && c then record core { last_name = next_name core; connections = core.connections ++ fresh port (next_name core) ∷ [] } else core in k)
      by true false true none = each_append P core.connections (fresh port (next_name core) ∷ []) all (new none, tt)
      by true false false none = all
      by true true c some = all
      by false b c some = all

  -- what must hold for a connection that a call opens
  abbrev pub IsNewOf : NodeCall → CoreState → Type 0
  IsNewOf (takes (Opened port now)) core = list_any (is_at port) core.connections ≡ false → P (fresh port (next_name core))
  IsNewOf _ core = Unit {0}

  each_cut : (core : CoreState) → AllOf core → AllOf (cuts core)
  unfolding cuts
  each_cut core all = by (can_cut core.replica.state)
    where
      by : (b : Bool) → AllOf (if b then with_cut core else core)
      by true = all
      by false = all

  each_taken : (item : Item) (core : CoreState) → IsNewOf (takes item) core → AllOf core → AllOf (does_item item core).core
  each_taken (Peer message) core new all = each_driven (Receives message) core all
  each_taken (Tick now) core new all =
      each_time (ends_silent now) (each_silent now) (length (drives Ticks core).core.connections) (drives Ticks core).core (each_driven Ticks core all)
  each_taken (Opened port now) core new all = each_opened port core new all
  each_taken (Bytes port piece now) core new all =
      each_time (reads_next now port) (each_read now port) (unread_of (open_at port (changes port (with_unread piece) core))) (changes port (with_unread piece) core)
      (each_at port (with_unread piece) core (λ d e. record { port = refl; name = refl; lives = λ f. f }) all)
  each_taken (Ended port) core new all = each_ended port core all
  each_taken (Expel client) core new all = each_proposed P kept (commands.Expel client) core all
  each_taken Cut core new all = each_cut core all
  each_taken Crash core new all = all

  each_left : (port : Port) (core : CoreState) (o : Option Connection) → AllOf core → AllOf (left_by port core o)
  each_left port core None all = all
  each_left port core (Some c) all =
      each_filtered P is_listed (changed_where (is_at port) nothing_pending core.connections)
      (each_changed (is_at port) nothing_pending core.connections (λ d e. record { port = refl; name = refl; lives = λ f. f }) all)

  each_handed : (port : Port) (core : CoreState) → AllOf core → AllOf (hands_over port core)
  unfolding hands_over
  each_handed port core all = each_left port core (listed_at port core) all

  pub each_done : (node_call : NodeCall) (core : CoreState) → IsNewOf node_call core → AllOf core → AllOf (done node_call core).core
  each_done (takes item) core new all =
      each_settled P kept.shut (acts_on item core).core
      (each_repeated P kept (length (does_item item core).core.connections) (does_item item core).core (each_taken item core new all))
  each_done (hands_out port) core new all = each_handed port core all

-- ---- where the connections of a node come from

-- a connection of this list, later
pub record IsOfOld (old : List Connection) (d : Connection) : Type 0 where
  pub was : Connection
  pub among : In was old
  pub later : IsLater was d

-- one that is opened with this name, at a port if none was
pub record IsNew (old : List Connection) (port : Port) (name : ConnectionName) (d : Connection) : Type 0 where
  pub port_is : d.port ≡ port
  pub name_is : d.name ≡ name
  pub none : list_any (is_at port) old ≡ false

later_still : {b c d : Connection} → IsLater b c → IsLater c d → IsLater b d
later_still p q = record { port = q.port ∙ p.port; name = q.name ∙ p.name; lives = λ e. p.lives (q.lives e) }

pub is_still : (old : List Connection) (d : Connection) → In d old → IsOfOld old d
is_still old d i = record { was = d; among = i; later = record { port = refl; name = refl; lives = λ e. e } }

pub all_old : (old cs : List Connection) → ((c : Connection) → In c cs → In c old) → Each (IsOfOld old) cs
all_old old [] among = tt
all_old old (c ∷ cs) among =
    (is_still old c (among c here), all_old old cs (λ d i. among d (there i)))

-- after a call that opens none each connection was there before
pub old_later : (old : List Connection) → IsFollowed (IsOfOld old)
old_later old c d later o = record { was = o.was; among = o.among; later = later_still o.later later }

pub each_was : (node_call : NodeCall) (core : CoreState) → IsNewOf (IsOfOld core.connections) (old_later core.connections) node_call core
    → Each (IsOfOld core.connections) (done node_call core).core.connections
each_was node_call core new = each_done (IsOfOld core.connections) (old_later core.connections) node_call core new (all_old core.connections core.connections (λ c i. i))

-- after an opening it was there, or is new
abbrev pub Comes : CoreState → Port → Connection → Type 0
Comes core port d = IsOfOld core.connections d ⊎ IsNew core.connections port (next_name core) d

pub comes_later : (core : CoreState) (port : Port) → IsFollowed (Comes core port)
comes_later core port c d later (inl o) = inl (record { was = o.was; among = o.among; later = later_still o.later later })
comes_later core port c d later (inr new) = inr (record { port_is = later.port ∙ new.port_is; name_is = later.name ∙ new.name_is; none = new.none })

pub each_was_or_new : (port : Port) (now : ℕ) (core : CoreState) → Each (Comes core port) (done (takes (Opened port now)) core).core.connections
each_was_or_new port now core =
    each_done (Comes core port) (comes_later core port) (takes (Opened port now)) core (λ none. inr (record { port_is = refl; name_is = refl; none = none }))
    (each_then (IsOfOld core.connections) (Comes core port) core.connections (λ d o. inl o) (all_old core.connections core.connections (λ c i. i)))
