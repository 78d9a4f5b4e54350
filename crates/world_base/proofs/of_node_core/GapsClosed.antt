-- GapsClosed.antt: in a step when memory may run out each connection continues, and one with a gap
-- is closed.
use Rattle.std.proofs.Common.{◌≡◌, ◌⊎◌, inl, inr, ℕ, zero, suc, Bool, true, false, not, ◌&&◌, if◌then◌else◌, List, [], ◌∷◌, ◌++◌, length, refl, sym, ap, subst, ◌∙◌}
use Rattle.std.proofs.lemmas.List.{append-nil}
use Rattle.std.specs.List.{list_any}
use Rattle.packet.specs.declared.packet.Packet.{Packet}
use Rattle.packet.specs.declared.packet.Packet.TheVariants as packets
use Rattle.broker_base.specs.State.{State}
use Rattle.broker_spec.specs.Connection.{ConnectionName, is_connection_name}
use Rattle.broker_spec.specs.declared.command.Command.{Command}
use Rattle.broker_spec.specs.declared.command.Command.TheVariants as commands
use Rattle.broker_spec.specs.declared.command.Output.{Output}
use Rattle.ballot_base.specs.Protocol.{Input}
use Rattle.ballot_base.specs.Protocol.Input.{Receives, Ticks}
use Rattle.ballot_base.specs.StepOutcome.{Outcome}
use Rattle.world_base.specs.declared.node_connections.port.Port.{Port}
use Rattle.world_base.specs.declared.node_core.item.Item.{Item}
use Rattle.world_base.specs.declared.node_core.item.Item.TheVariants.{Peer, Tick, Opened, Bytes, Ended, Expel, Cut, Crash}
use Rattle.world_base.specs.declared.node_connections.connection.Connection.{Connection}
use Rattle.world_base.specs.node_connections.Connections.{fresh, has_failed, is_at, is_open_at, is_closed}
use Rattle.world_base.specs.node_connections.ConnectionChanges.{noted_proposed, closed_connection, failing, with_unread, left_with}
use Rattle.world_base.specs.node_core.Core.{CoreState, serves}
use Rattle.world_base.specs.node_core.FailedConnections.{closes_failed}
use Rattle.world_base.specs.node_core.ConnectionSteps.{AGapIsClosed, AreNamedApart, EachGoesOn, GoOn, ConnectionGoesOn, OpensAtMostOne}
use Rattle.world_base.specs.node_core.Lossy.{Account, Drives, HandledStepOrLost, Repeated, TakesCommand, Then, without_effects}
use Rattle.world_base.specs.node_core.LossyProposals.{Declines, ProposesCommand}
use Rattle.world_base.specs.node_core.LossyProposals.Declines.{no_room, forgets, stops}
use Rattle.world_base.specs.node_core.LossyStep.{ActsOn, LogCutOrLost, HoldsBytes, AcceptsConnection, DoesItem}
use Rattle.world_base.specs.node_core.LossyEndings.{EndsConnection, EndsSilent, ReportsFailed}
use Rattle.world_base.specs.node_core.LossyPacketInput.{TakesOr, TakesFirstPacket, ClosesConnection, ReadsNext, Shuts}
use Rattle.world_base.specs.node_core.LossyStep.LogCutOrLost.{nothing_to_cut, cuts_log, forgets_cut}
use Rattle.world_base.specs.node_core.LossyEndings.EndsConnection.{none_open, unproposed, proposed}
use Rattle.world_base.specs.node_core.LossyEndings.EndsSilent.{none_silent, ends_one}
use Rattle.world_base.specs.node_core.LossyEndings.ReportsFailed.{none_failed, tells_one}
use Rattle.world_base.specs.node_core.LossyPacketInput.ReadsNext.{waits, first, later, refuses, ends}
use Rattle.world_base.specs.node_core.PacketInput.{changes, open_at, unread_of}
use Rattle.world_base.specs.node_connections.Refusals.{connect_refused}
use Rattle.world_base.specs.node_core.Step.{next_name, with_next_connection}
use Rattle.world_base.proofs.of_node_core.ConnectionsGoOn.{apart_on, changed_on, delivers_on, each_both, each_itself, goes_closed, goes_failing, goes_refused, goes_still}

-- each connection continues in what was done
abbrev Goes : CoreState → Account → Type 0
Goes core account = AreNamedApart core.connections → EachGoesOn account.given core.connections account.core.connections

without_effects_on : (core new : CoreState) (account : Account) → account ≡ without_effects new → EachGoesOn [] core.connections new.connections → Goes core account
without_effects_on core new account is on apart =
    subst (λ (d : Account). EachGoesOn d.given core.connections d.core.connections) (sym is) on

-- after a change in which the replica gave nothing
after_on : (core mid : CoreState) (account : Account) → EachGoesOn [] core.connections mid.connections → Goes mid account → Goes core account
after_on core mid account on more apart =
    each_both [] account.given core.connections mid.connections account.core.connections on
    (more (apart_on [] core.connections mid.connections on apart))

then_on : (P Q : CoreState → Account → Type 0) → ((k : CoreState) (d : Account) → P k d → Goes k d) →
    ((k : CoreState) (d : Account) → Q k d → Goes k d) → (core : CoreState) (account : Account) → Then P Q core account → Goes core account
then_on P Q p q core account t apart =
    let one = p core t.one t.first apart in
    subst (λ (d : Account). EachGoesOn d.given core.connections d.core.connections) (sym t.is)
    (each_both t.one.given t.two.given core.connections t.one.core.connections t.two.core.connections one
    (q t.one.core t.two t.next (apart_on t.one.given core.connections t.one.core.connections one apart)))

repeated_on : (n : ℕ) (Next : CoreState → Account → Type 0) → ((k : CoreState) (d : Account) → Next k d → Goes k d) →
    (core : CoreState) (account : Account) → Repeated n Next core account → Goes core account
repeated_on zero Next on core account none = without_effects_on core core account none (each_itself core.connections)
repeated_on (suc n) Next on core account done = then_on Next (Repeated n Next) on (repeated_on n Next on) core account done

-- ---- changes of the open connection of a port

was_open : (over at : Bool) → (not over && at) ≡ true → over ≡ false
was_open true at e = absurd cc
was_open false at e = refl

changes_on : (port : Port) (f : Connection → Connection) (core : CoreState) → ((c : Connection) → is_closed c.stage ≡ false → ConnectionGoesOn [] c (f c)) →
    EachGoesOn [] core.connections (changes port f core).connections
unfolding changes
changes_on port f core on =
    changed_on (is_open_at port) f (λ c at. on c (was_open (is_closed c.stage) (is_at port c) at)) core.connections

closes_on : (port : Port) (core : CoreState) → EachGoesOn [] core.connections (changes port closed_connection core).connections
closes_on port core = changes_on port closed_connection core (λ c stays. goes_closed [] c)

asked_on : (keep_alive : ℕ) (c : Connection) → is_closed c.stage ≡ false → ConnectionGoesOn [] c (noted_proposed keep_alive c)
asked_on keep_alive c stays = goes_still c (noted_proposed keep_alive c) refl refl refl (λ over. absurd (both over))
  where
    both : is_closed c.stage ≡ true → ⊥
    both over = absurd cc

-- ---- what comes to the replica

moves_on : (outcome : Outcome State Command Output) (core : CoreState) (account : Account) → HandledStepOrLost outcome core account → Goes core account
moves_on outcome core account m apart = delivers_on account.given (record core { replica = m.replica }) account.core account.messages m.handles apart

takes_on : (command : Command) (core : CoreState) (account : Account) → TakesCommand command core account → Goes core account
takes_on command core account t apart = delivers_on account.given (record core { replica = t.replica }) account.core account.messages t.handles apart

declines_on : (core : CoreState) (account : Account) → Declines core account → Goes core account
declines_on core account (no_room full is) = without_effects_on core _ account is (each_itself core.connections)
declines_on core account (forgets room is) = without_effects_on core _ account is (each_itself core.connections)
declines_on core account (stops room is) = without_effects_on core _ account is (each_itself core.connections)

proposes_on : (command : Command) (core : CoreState) (account : Account) → ProposesCommand command core account → Goes core account
proposes_on command core account (inl takes) = takes_on command core account takes
proposes_on command core account (inr declines) = declines_on core account declines

asks_on : (command : Command) (Otherwise : CoreState → Account → Type 0) → ((k : CoreState) (d : Account) → Otherwise k d → Goes k d) →
    (core : CoreState) (account : Account) → TakesOr command Otherwise core account → Goes core account
asks_on command Otherwise on core account (inl takes) = takes_on command core account takes
asks_on command Otherwise on core account (inr other) = then_on Declines Otherwise declines_on on core account other

-- ---- ends

ends_on : (port : Port) (core : CoreState) (account : Account) → EndsConnection port core account → Goes core account
ends_on port core account (none_open none is) = without_effects_on core core account is (each_itself core.connections)
ends_on port core account (unproposed c found other is) = without_effects_on core (changes port closed_connection core) account is (closes_on port core)
ends_on port core account (proposed c found heard proposes) =
    after_on core (changes port closed_connection core) account (closes_on port core)
    (proposes_on (commands.Lost c.name) (changes port closed_connection core) account proposes)

silent_on : (now : ℕ) (core : CoreState) (account : Account) → EndsSilent now core account → Goes core account
silent_on now core account (none_silent none is) = without_effects_on core core account is (each_itself core.connections)
silent_on now core account (ends_one port found runs) = ends_on port core account runs

failed_on : (core : CoreState) (account : Account) → ReportsFailed core account → Goes core account
failed_on core account (none_failed none is) = without_effects_on core core account is (each_itself core.connections)
failed_on core account (tells_one c found proposes) =
    after_on core (closes_failed core) account (changed_on has_failed closed_connection (λ d fails. goes_closed [] d) core.connections)
    (proposes_on (commands.Lost c.name) (closes_failed core) account proposes)

-- ---- reads

shut_on : (port : Port) (core : CoreState) (account : Account) → ClosesConnection port core account → Goes core account
shut_on port core account is = without_effects_on core (changes port closed_connection core) account is (closes_on port core)

shuts_on : (port : Port) (core : CoreState) (account : Account) → Shuts port core account → Goes core account
shuts_on port core account (inl is) = shut_on port core account is
shuts_on port core account (inr is) =
    without_effects_on core (changes port failing core) account is (changes_on port failing core (λ c stays. goes_failing [] c))

begins_on : (port : Port) (name : ConnectionName) (packet : Packet) (core : CoreState) (account : Account) →
    TakesFirstPacket port name packet core account → Goes core account
begins_on port name (packets.Connect connect) core account runs =
    after_on core (changes port (noted_proposed connect.keep_alive) core) account
    (changes_on port (noted_proposed connect.keep_alive) core (asked_on connect.keep_alive))
    (asks_on (commands.Connect name connect.client connect.clean) (ClosesConnection port) (shut_on port)
    (changes port (noted_proposed connect.keep_alive) core) account runs)
begins_on port name _ core account runs = shut_on port core account runs

left_on : (port : Port) (now : ℕ) (rest : List ℕ) (core : CoreState) →
    EachGoesOn [] core.connections (changes port (left_with now rest) core).connections
left_on port now rest core =
    changes_on port (left_with now rest) core (λ c stays. goes_still c (left_with now rest c) refl refl refl (λ e. e))

reads_on : (now : ℕ) (port : Port) (core : CoreState) (account : Account) → ReadsNext now port core account → Goes core account
reads_on now port core account (waits c found more is) = without_effects_on core core account is (each_itself core.connections)
reads_on now port core account (first c packet rest found awaits is runs) =
    after_on core (changes port (left_with now rest) core) account (left_on port now rest core)
    (begins_on port c.name packet (changes port (left_with now rest) core) account runs)
reads_on now port core account (later c packet rest found after_first is runs) =
    after_on core (changes port (left_with now rest) core) account (left_on port now rest core)
    (asks_on (commands.Packet c.name packet) (Shuts port) (shuts_on port) (changes port (left_with now rest) core) account runs)
reads_on now port core account (refuses c code found awaits is runs) =
    without_effects_on core (changes port (connect_refused code) core) account runs (changes_on port (connect_refused code) core (goes_refused code))
reads_on now port core account (ends may runs) = ends_on port core account runs

-- ---- an item

holds_on : (port : Port) (piece : List ℕ) (core : CoreState) (account : Account) → HoldsBytes port piece core account → Goes core account
holds_on port piece core account (inl is) =
    without_effects_on core (changes port (with_unread piece) core) account is
    (changes_on port (with_unread piece) core (λ c stays. goes_still c (with_unread piece c) refl refl refl (λ e. e)))
holds_on port piece core account (inr runs) = ends_on port core account runs

all_failed_on : (core : CoreState) (account : Account) → Repeated (length core.connections) ReportsFailed core account → Goes core account
all_failed_on core account runs = repeated_on (length core.connections) ReportsFailed failed_on core account runs

all_silent_on : (now : ℕ) (core : CoreState) (account : Account) → Repeated (length core.connections) (EndsSilent now) core account → Goes core account
all_silent_on now core account runs = repeated_on (length core.connections) (EndsSilent now) (silent_on now) core account runs

all_read_on : (now : ℕ) (port : Port) (core : CoreState) (account : Account) →
    Repeated (unread_of (open_at port core)) (ReadsNext now port) core account → Goes core account
all_read_on now port core account runs = repeated_on (unread_of (open_at port core)) (ReadsNext now port) (reads_on now port) core account runs

drives_on : (input : Input Command) (core : CoreState) (account : Account) → Drives input core account → Goes core account
drives_on input core account runs = moves_on _ core account runs

cut_on : (core : CoreState) (account : Account) → LogCutOrLost core account → Goes core account
cut_on core account (nothing_to_cut none is) = without_effects_on core _ account is (each_itself core.connections)
cut_on core account (cuts_log can reads is) = without_effects_on core _ account is (each_itself core.connections)
cut_on core account (forgets_cut can is) = without_effects_on core _ account is (each_itself core.connections)

-- if no connection is opened
with_none_new : (item : Item) (core : CoreState) (account : Account) → OpensAtMostOne item core [] → Goes core account → GoOn item core account
with_none_new item core account is on =
    record {
      new = [];
      is_new = is;
      each = λ apart. subst (λ (l : List Connection). EachGoesOn account.given l account.core.connections) (sym (append-nil core.connections))
          (on (subst (λ (l : List Connection). AreNamedApart l) (append-nil core.connections) apart));
    }

-- a connection is opened, or not
opens_one : (port : Port) (core : CoreState) → (with_next_connection port core ≡ core)
    ⊎ ((with_next_connection port core).connections ≡ core.connections ++ fresh port (next_name core) ∷ [])
unfolding with_next_connection
opens_one port core =
    by ((serves core && not (list_any (is_at port) core.connections)) && is_connection_name (next_name core))
  where
    by : (b : Bool) → ((if b then record core {
      last_name = next_name core;
      connections = core.connections ++ fresh port (next_name core) ∷ [];
    } else core) ≡ core)
        ⊎ ((if b then record core {
          last_name = next_name core;
          connections = core.connections ++ fresh port (next_name core) ∷ [];
        } else core).connections ≡ core.connections ++ fresh port (next_name core) ∷ [])
    by true = inr refl
    by false = inl refl

opened_on : (port : Port) (now : ℕ) (core : CoreState) (account : Account) → ActsOn (Opened port now) core account → GoOn (Opened port now) core account
opened_on port now core account acts = by acts.first (opens_one port core)
  where
    none : acts.one ≡ without_effects core → GoOn (Opened port now) core account
    none is =
        with_none_new (Opened port now) core account (inl refl)
        (then_on (λ k d. d ≡ without_effects k) (λ k d. Repeated (length k.connections) ReportsFailed k d)
        (λ k d same. without_effects_on k k d same (each_itself k.connections)) all_failed_on core account
        (record { one = acts.one; two = acts.two; first = is; next = acts.next; is = acts.is }))

    one : acts.one ≡ without_effects (with_next_connection port core) → (with_next_connection port core).connections ≡ core.connections ++ fresh port (next_name core) ∷ [] →
        GoOn (Opened port now) core account
    one is more =
        record {
          new = fresh port (next_name core) ∷ [];
          is_new = inr refl;
          each = λ apart. subst (λ (l : List Connection). EachGoesOn account.given l account.core.connections) more
              (then_on (λ k d. d ≡ without_effects k) (λ k d. Repeated (length k.connections) ReportsFailed k d)
              (λ k d same. without_effects_on k k d same (each_itself k.connections)) all_failed_on (with_next_connection port core) account
              (record { one = acts.one; two = acts.two; first = is; next = acts.next; is = acts.is })
              (subst (λ (l : List Connection). AreNamedApart l) (sym more) apart));
        }

    by : AcceptsConnection port core acts.one → (with_next_connection port core ≡ core)
        ⊎ ((with_next_connection port core).connections ≡ core.connections ++ fresh port (next_name core) ∷ []) → GoOn (Opened port now) core account
    by (inl is) (inl same) = none (is ∙ ap without_effects same)
    by (inl is) (inr more) = one is more
    by (inr is) any = none is

-- after each item the failed ones are reported to the broker
acts_by : (item : Item) (core : CoreState) (account : Account) → OpensAtMostOne item core [] →
    ((k : CoreState) (d : Account) → DoesItem item k d → Goes k d) → ActsOn item core account → GoOn item core account
acts_by item core account is on acts =
    with_none_new item core account is
    (then_on (DoesItem item) (λ k d. Repeated (length k.connections) ReportsFailed k d) on all_failed_on core account
    (record { one = acts.one; two = acts.two; first = acts.first; next = acts.next; is = acts.is }))

pub a_gap_is_closed : AGapIsClosed
a_gap_is_closed (Peer message) core account acts = acts_by (Peer message) core account refl (drives_on (Receives message)) acts
a_gap_is_closed (Tick now) core account acts =
    acts_by (Tick now) core account refl
    (λ k d t. then_on (Drives Ticks) (λ j e. Repeated (length j.connections) (EndsSilent now) j e) (drives_on Ticks) (all_silent_on now) k d
    (record { one = t.one; two = t.two; first = t.first; next = t.next; is = t.is })) acts
a_gap_is_closed (Opened port now) core account acts = opened_on port now core account acts
a_gap_is_closed (Bytes port piece now) core account acts =
    acts_by (Bytes port piece now) core account refl
    (λ k d t. then_on (HoldsBytes port piece) (λ j e. Repeated (unread_of (open_at port j)) (ReadsNext now port) j e) (holds_on port piece)
    (all_read_on now port) k d
    (record { one = t.one; two = t.two; first = t.first; next = t.next; is = t.is })) acts
a_gap_is_closed (Ended port) core account acts = acts_by (Ended port) core account refl (ends_on port) acts
a_gap_is_closed (Expel client) core account acts = acts_by (Expel client) core account refl (proposes_on (commands.Expel client)) acts
a_gap_is_closed Cut core account acts = acts_by Cut core account refl (λ k d c. cut_on k d c) acts
a_gap_is_closed Crash core account acts =
    acts_by Crash core account refl (λ k d is. without_effects_on k _ d is (each_itself k.connections)) acts
