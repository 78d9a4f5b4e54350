-- Each step in which memory may run out is a run of moves.
use Rattle.std.proofs.Common.{◌≡◌, inl, inr, ℕ, zero, suc, Bool, true, false, not, ◌&&◌, List, [], ◌++◌, length, Some, Ok, refl, sym, ap, ◌∙◌, subst, append_assoc}
use Rattle.std.proofs.lemmas.List.{append-nil}
use Rattle.packet.specs.declared.packet.Packet.{Packet}
use Rattle.packet.specs.declared.packet.Packet.TheVariants as packets
use Rattle.packet.specs.declared.connect.Connect.{Connect}
use Rattle.packet.specs.Verdict.{verdict}
use Rattle.ballot_base.specs.declared.message.Effect.{Effect}
use Rattle.ballot_base.specs.Protocol.{Input}
use Rattle.broker_spec.specs.declared.command.Command.{Command}
use Rattle.broker_spec.specs.declared.command.Command.TheVariants as commands
use Rattle.broker_spec.specs.Connection.{ConnectionName}
use Rattle.broker_spec.specs.declared.command.Output.{Output}
use Rattle.world_base.specs.declared.node_connections.port.Port.{Port}
use Rattle.world_base.specs.declared.node_connections.connection.Connection.{Connection}
use Rattle.world_base.specs.node_connections.Connections.{is_at, awaits_first_packet, is_open_at, is_closed}
use Rattle.world_base.specs.node_connections.ConnectionChanges.{noted_proposed, closed_connection, failing, left_with}
use Rattle.world_base.specs.node_core.Core.{CoreState, StepOutcome}
use Rattle.world_base.specs.node_core.FailedConnections.{closes_failed}
use Rattle.world_base.specs.node_core.Lossy.{Account, Repeated, Then, without_effects}
use Rattle.world_base.specs.node_core.LossyProposals.{Declines, ProposesCommand}
use Rattle.world_base.specs.node_core.LossyProposals.Declines.{no_room, forgets as forgets_it, stops}
use Rattle.world_base.specs.node_core.LossyStep.{ReportsAllFailed}
use Rattle.world_base.specs.node_core.LossyEndings.{EndsConnection, EndsSilent, ReportsFailed}
use Rattle.world_base.specs.node_core.LossyPacketInput.{TakesOr, TakesFirstPacket, ClosesConnection, ReadsNext, Shuts}
use Rattle.world_base.specs.node_core.LossyEndings.EndsConnection.{none_open, unproposed, proposed}
use Rattle.world_base.specs.node_core.LossyEndings.EndsSilent.{none_silent, ends_one}
use Rattle.world_base.specs.node_core.LossyEndings.ReportsFailed.{none_failed, tells_one}
use Rattle.world_base.specs.node_core.LossyPacketInput.ReadsNext.{waits, first, later, refuses as refuses_it, ends}
use Rattle.world_base.specs.node_core.PacketInput.{changes, open_at}
use Rattle.world_base.specs.node_connections.Refusals.{connect_refused}
use Rattle.world_base.specs.node_core.Effects.{without_messages}
use Rattle.headline.specs.node_moves.LossyMoves.{NodeMoveOrLost, with_loss, halting, outcome_in}
use Rattle.headline.specs.node_moves.LossyParts.{came_on, hears_in, inputs_in, is_handing}
use Rattle.headline.specs.node_moves.LossyRuns.{AllFreeze, CutsNothing, CutsThaw, HandsNothing, HearsAtFirst, HearsNothing, MoveTraceOrLost, all_inputs, bytes_on, cuts_in, exactly_cuts}
use Rattle.headline.specs.node_moves.LossyMoves.NodeMoveOrLost.{exactly, hears_losing, first_losing, later_losing, tells_losing, expels_losing, forgets, halts, fails, unheard, drops}
use Rattle.headline.specs.node_moves.LossyRuns.MoveTraceOrLost.{rests, goes_on}
use Rattle.headline.specs.node_moves.BallotNames.{moves_replica}
use Rattle.headline.specs.node_moves.Moves.{NodeMove, and_then}
use Rattle.headline.specs.node_moves.Moves.NodeMove.{hears, opens_one, holds, reads_first, reads_later, closes, refuses, loses_one, loses_next, expels_one, cuts_log, crashes, settles, hands}
use Rattle.headline.proofs.of_node_moves.StepsMove.{twice}

abbrev pub Given : Type 0
Given = List (Effect Command Output)

-- ---- moves in which nothing is received, nothing comes, and nothing is handed over

abbrev pub IsStill : {core : CoreState} {outcome : StepOutcome} → NodeMoveOrLost core outcome → Type 0
IsStill m = (hears_in m ≡ false) × (is_handing m ≡ false) × (inputs_in m ≡ []) × ((x : ConnectionName) → came_on x m ≡ [])

abbrev pub AreStill : {core : CoreState} {outcome : StepOutcome} → MoveTraceOrLost core outcome → Type 0
AreStill rests = Unit {0}
AreStill (goes_on m run) = IsStill m × AreStill run

-- a run of such
abbrev pub Calm : CoreState → StepOutcome → Type 0
Calm core outcome = (run : MoveTraceOrLost core outcome) × AreStill run

calm_then : {core : CoreState} {a b : StepOutcome} (run : MoveTraceOrLost core a) → AreStill run → Calm a.core b → Calm core (and_then a b)
calm_then rests still r = r
calm_then {b = b} (goes_on {core = core} {first = one} {next = next} m run) still r =
    let rest = calm_then run still.1 r in
    subst (λ (given : Given). Calm core (let t : StepOutcome = record { core = b.core; messages = given } in t)) (sym (append_assoc one.messages next.messages b.messages))
    (goes_on m rest.0, (still.0, rest.1))

pub calm_join : {core : CoreState} {a b : StepOutcome} → Calm core a → Calm a.core b → Calm core (and_then a b)
calm_join q r = calm_then q.0 q.1 r

pub calm_move : {core : CoreState} {t : StepOutcome} (m : NodeMoveOrLost core t) → IsStill m → Calm core t
calm_move {core = core} {t = t} m still =
    subst (λ (given : Given). Calm core (let u : StepOutcome = record { core = t.core; messages = given } in u)) (append-nil t.messages) (goes_on m rests, (still, tt))

-- what was done is such a run
abbrev pub Still : CoreState → Account → Type 0
Still core account = Calm core (outcome_in account)

by_account : (core new : CoreState) (account : Account) → account ≡ without_effects new → Calm core (without_messages new) → Still core account
by_account core new account is calm = subst (λ (d : Account). Calm core (outcome_in d)) (sym is) calm

by_none : (core : CoreState) (account : Account) → account ≡ without_effects core → Still core account
by_none core account is = by_account core core account is (rests, tt)

still_then : (P Q : CoreState → Account → Type 0) → ((k : CoreState) (d : Account) → P k d → Still k d) →
    ((k : CoreState) (d : Account) → Q k d → Still k d) → (core : CoreState) (account : Account) → Then P Q core account → Still core account
still_then P Q p q core account t =
    subst (λ (d : Account). Still core d) (sym t.is) (calm_join (p core t.one t.first) (q t.one.core t.two t.next))

pub still_repeated : (n : ℕ) (Next : CoreState → Account → Type 0) → ((k : CoreState) (d : Account) → Next k d → Still k d) →
    (core : CoreState) (account : Account) → Repeated n Next core account → Still core account
still_repeated zero Next on core account none = by_none core account none
still_repeated (suc n) Next on core account done = still_then Next (Repeated n Next) on (still_repeated n Next on) core account done

-- after a change in which the replica gives nothing
still_after : (core between : CoreState) (account : Account) → Calm core (without_messages between) → Still between account → Still core account
still_after core between account change more = calm_join change more

-- ---- commands

still_declines : (core : CoreState) (account : Account) → Declines core account → Still core account
still_declines core account (no_room full is) = by_none core account is
still_declines core account (forgets_it room is) = by_account core (with_loss core) account is (calm_move forgets (refl, refl, refl, λ x. refl))
still_declines core account (stops room is) = by_account core (halting core) account is (calm_move halts (refl, refl, refl, λ x. refl))

pub still_lost : (name : ConnectionName) (core : CoreState) (account : Account) → ProposesCommand (commands.Lost name) core account → Still core account
still_lost name core account (inl taken) = calm_move (tells_losing name account taken) (refl, refl, refl, λ x. refl)
still_lost name core account (inr declines) = still_declines core account declines

pub still_expelled : (client : List ℕ) (core : CoreState) (account : Account) → ProposesCommand (commands.Expel client) core account → Still core account
still_expelled client core account (inl taken) = calm_move (expels_losing client account taken) (refl, refl, refl, λ x. refl)
still_expelled client core account (inr declines) = still_declines core account declines

closing : (port : Port) (core : CoreState) → Calm core (without_messages (changes port closed_connection core))
closing port core = calm_move (exactly (closes port)) (refl, refl, refl, λ x. refl)

-- ---- ends

pub still_ends : (port : Port) (core : CoreState) (account : Account) → EndsConnection port core account → Still core account
still_ends port core account (none_open none is) = by_none core account is
still_ends port core account (unproposed c found other is) = by_account core (changes port closed_connection core) account is (closing port core)
still_ends port core account (proposed c found heard proposes) =
    still_after core (changes port closed_connection core) account (closing port core) (still_lost c.name (changes port closed_connection core) account proposes)

pub still_silent : (now : ℕ) (core : CoreState) (account : Account) → EndsSilent now core account → Still core account
still_silent now core account (none_silent none is) = by_none core account is
still_silent now core account (ends_one port found runs) = still_ends port core account runs

still_failed : (core : CoreState) (account : Account) → ReportsFailed core account → Still core account
still_failed core account (none_failed none is) = by_none core account is
still_failed core account (tells_one c found proposes) =
    still_after core (closes_failed core) account (calm_move unheard (refl, refl, refl, λ x. refl)) (still_lost c.name (closes_failed core) account proposes)

pub all_failed : (core : CoreState) (account : Account) → ReportsAllFailed core account → Still core account
all_failed core account runs = still_repeated (length core.connections) ReportsFailed still_failed core account runs

-- ---- a packet is read, and not taken

right_true : (a b : Bool) → (a && b) ≡ true → b ≡ true
right_true true b e = e
right_true false b e = absurd cc

closed_left : (now : ℕ) (port : Port) (rest : List ℕ) (core : CoreState) → changes port closed_connection (changes port (left_with now rest) core) ≡ changes port closed_connection core
unfolding changes
closed_left now port rest core = ap (λ (l : List Connection). record core { connections = l }) (twice (is_open_at port) closed_connection (left_with now rest) core.connections (λ c e. e))

failing_left : (now : ℕ) (port : Port) (rest : List ℕ) (core : CoreState) → changes port failing (changes port (left_with now rest) core) ≡ changes port failing core
unfolding changes
failing_left now port rest core = ap (λ (l : List Connection). record core { connections = l }) (twice (is_open_at port) failing (left_with now rest) core.connections (λ c e. e))

closed_asked : (keep_alive : ℕ) (port : Port) (core : CoreState) → changes port closed_connection (changes port (noted_proposed keep_alive) core) ≡ changes port closed_connection core
unfolding changes
closed_asked keep_alive port core =
    ap (λ (l : List Connection). record core { connections = l })
    (twice (is_open_at port) closed_connection (noted_proposed keep_alive) core.connections (λ c e. right_true (not (is_closed c.stage)) (is_at port c) e))

forgets_before : (port : Port) (f : Connection → Connection) (core : CoreState) → changes port f (with_loss core) ≡ with_loss (changes port f core)
unfolding changes
forgets_before port f core = refl

halts_before : (port : Port) (f : Connection → Connection) (core : CoreState) → changes port f (halting core) ≡ halting (changes port f core)
unfolding changes
halts_before port f core = refl

-- the command is not taken, and then the connection is closed so: as if it had been closed before
declined : (port : Port) (f : Connection → Connection) (core between : CoreState) (account : Account) → changes port f between ≡ changes port f core
    → Calm core (without_messages (changes port f core)) → Then Declines (λ k d. d ≡ without_effects (changes port f k)) between account → Still core account
declined port f core between account same change t =
    subst (λ (d : Account). Still core d) (sym (t.is ∙ ap (λ (d : Account). let a : Account = record { core = d.core; given = t.one.given ++ d.given; messages = t.one.messages ++ d.messages } in a) t.next))
    (by t.one t.first)
  where
    ends_so : CoreState → Given → Type 0
    ends_so k messages = Calm core (let u : StepOutcome = record { core = k; messages = messages } in u)

    by : (one : Account) → Declines between one → Calm core (let u : StepOutcome = record { core = changes port f one.core; messages = one.messages ++ [] } in u)
    by one (no_room full is) = subst (λ (d : Account). ends_so (changes port f d.core) (d.messages ++ [])) (sym is) (subst (λ (k : CoreState). ends_so k []) (sym same) change)
    by one (forgets_it room is) =
        subst (λ (d : Account). ends_so (changes port f d.core) (d.messages ++ [])) (sym is)
        (subst (λ (k : CoreState). ends_so k []) (sym (forgets_before port f between ∙ ap with_loss same))
        (calm_join change (calm_move forgets (refl, refl, refl, λ x. refl))))
    by one (stops room is) =
        subst (λ (d : Account). ends_so (changes port f d.core) (d.messages ++ [])) (sym is)
        (subst (λ (k : CoreState). ends_so k []) (sym (halts_before port f between ∙ ap halting same))
        (calm_join change (calm_move halts (refl, refl, refl, λ x. refl))))

-- ---- the next packet

still_connects : (now : ℕ) (port : Port) (c : Connection) (core : CoreState) (connect : Connect) (rest : List ℕ) (account : Account) → open_at port core ≡ Some c → awaits_first_packet c.stage ≡ true
    → verdict c.unread ≡ Ok (packets.Connect connect, rest)
    → TakesOr (commands.Connect c.name connect.client connect.clean) (ClosesConnection port) (changes port (noted_proposed connect.keep_alive) (changes port (left_with now rest) core)) account → Still core account
still_connects now port c core connect rest account at awaits is (inl taken) =
    calm_move (first_losing now port c connect rest account at awaits is taken) (refl, refl, refl, λ x. refl)
still_connects now port c core connect rest account at awaits is (inr other) =
    declined port closed_connection core (changes port (noted_proposed connect.keep_alive) (changes port (left_with now rest) core)) account
    (closed_asked connect.keep_alive port (changes port (left_with now rest) core) ∙ closed_left now port rest core) (closing port core) other

still_begins : (now : ℕ) (port : Port) (c : Connection) (core : CoreState) (packet : Packet) (rest : List ℕ) (account : Account) → open_at port core ≡ Some c → awaits_first_packet c.stage ≡ true
    → verdict c.unread ≡ Ok (packet, rest) → TakesFirstPacket port c.name packet (changes port (left_with now rest) core) account → Still core account
still_begins now port c core (packets.Connect connect) rest account at awaits is runs = still_connects now port c core connect rest account at awaits is runs
still_begins now port c core _ rest account at awaits is runs =
    by_account core (changes port closed_connection (changes port (left_with now rest) core)) account runs
    (subst (λ (k : CoreState). Calm core (without_messages k)) (sym (closed_left now port rest core)) (closing port core))

failing_at : (port : Port) (core : CoreState) → Calm core (without_messages (changes port failing core))
failing_at port core = calm_move (fails port) (refl, refl, refl, λ x. refl)

still_says : (now : ℕ) (port : Port) (c : Connection) (core : CoreState) (packet : Packet) (rest : List ℕ) (account : Account) → open_at port core ≡ Some c → awaits_first_packet c.stage ≡ false
    → verdict c.unread ≡ Ok (packet, rest) → TakesOr (commands.Packet c.name packet) (Shuts port) (changes port (left_with now rest) core) account → Still core account
still_says now port c core packet rest account at after_first is (inl taken) =
    calm_move (later_losing now port c packet rest account at after_first is taken) (refl, refl, refl, λ x. refl)
still_says now port c core packet rest account at after_first is (inr other) = by other.next
  where
    by : Shuts port other.one.core other.two → Still core account
    by (inl shut) =
        declined port closed_connection core (changes port (left_with now rest) core) account (closed_left now port rest core) (closing port core)
        (record { one = other.one; two = other.two; first = other.first; next = shut; is = other.is })
    by (inr fails_so) =
        declined port failing core (changes port (left_with now rest) core) account (failing_left now port rest core) (failing_at port core)
        (record { one = other.one; two = other.two; first = other.first; next = fails_so; is = other.is })

pub still_reads : (now : ℕ) (port : Port) (core : CoreState) (account : Account) → ReadsNext now port core account → Still core account
still_reads now port core account (waits c found more is) = by_none core account is
still_reads now port core account (first c packet rest found awaits is runs) = still_begins now port c core packet rest account found awaits is runs
still_reads now port core account (later c packet rest found after_first is runs) = still_says now port c core packet rest account found after_first is runs
still_reads now port core account (refuses_it c code found awaits is runs) =
    by_account core (changes port (connect_refused code) core) account runs (calm_move (exactly (refuses port c code found awaits is)) (refl, refl, refl, λ x. refl))
still_reads now port core account (ends may runs) = still_ends port core account runs

-- ---- a step

calm_of : {core : CoreState} {outcome : StepOutcome} (run : MoveTraceOrLost core outcome) → AreStill run → HearsNothing run
calm_of rests still = tt
calm_of (goes_on m run) still = (still.0.0, calm_of run still.1)

hands_of : {core : CoreState} {outcome : StepOutcome} (run : MoveTraceOrLost core outcome) → AreStill run → HandsNothing run
hands_of rests still = tt
hands_of (goes_on m run) still = (still.0.1, hands_of run still.1)

inputs_none : {core : CoreState} {outcome : StepOutcome} (run : MoveTraceOrLost core outcome) → AreStill run → all_inputs run ≡ []
inputs_none rests still = refl
inputs_none (goes_on m run) still = ap (λ l. l ++ all_inputs run) still.0.2 ∙ inputs_none run still.1

bytes_none : {core : CoreState} {outcome : StepOutcome} (run : MoveTraceOrLost core outcome) → AreStill run → (x : ConnectionName) → bytes_on x run ≡ []
bytes_none rests still x = refl
bytes_none (goes_on m run) still x = ap (λ l. l ++ bytes_on x run) (still.0.3 x) ∙ bytes_none run still.1 x

-- in such a move no log is cut
exactly_still : {core : CoreState} {outcome : StepOutcome} (m : NodeMove core outcome) → moves_replica m ≡ false → exactly_cuts m ≡ false
exactly_still (cuts_log can) calm = absurd cc
exactly_still m calm = refl

pub still_cuts : {core : CoreState} {outcome : StepOutcome} (m : NodeMoveOrLost core outcome) → hears_in m ≡ false → cuts_in m ≡ false
still_cuts (exactly m) calm = exactly_still m calm
still_cuts m calm = refl

pub calm_cuts_none : {core : CoreState} {outcome : StepOutcome} (run : MoveTraceOrLost core outcome) → HearsNothing run → CutsNothing run
calm_cuts_none rests calm = tt
calm_cuts_none (goes_on m run) calm = (still_cuts m calm.0, calm_cuts_none run calm.1)

still_freezes : {core : CoreState} {outcome : StepOutcome} (m : NodeMoveOrLost core outcome) → hears_in m ≡ false → CutsThaw m
still_freezes (exactly (hears input other)) calm = tt
still_freezes (exactly (opens_one port)) calm = tt
still_freezes (exactly (holds port piece)) calm = tt
still_freezes (exactly (reads_first now port c connect rest at awaits is room)) calm = tt
still_freezes (exactly (reads_later now port c packet rest at after_first is room)) calm = tt
still_freezes (exactly (closes port)) calm = tt
still_freezes (exactly (refuses port c code at awaits is)) calm = tt
still_freezes (exactly (loses_one port c at known)) calm = tt
still_freezes (exactly (loses_next c at)) calm = tt
still_freezes (exactly (expels_one client)) calm = tt
still_freezes (exactly (cuts_log can)) calm = absurd cc
still_freezes (exactly crashes) calm = tt
still_freezes (exactly settles) calm = tt
still_freezes (exactly (hands port)) calm = tt
still_freezes (hears_losing input account other drives) calm = tt
still_freezes (first_losing now port c connect rest account at awaits is taken) calm = tt
still_freezes (later_losing now port c packet rest account at after_first is taken) calm = tt
still_freezes (tells_losing name account taken) calm = tt
still_freezes (expels_losing client account taken) calm = tt
still_freezes forgets calm = tt
still_freezes halts calm = tt
still_freezes (fails port) calm = tt
still_freezes unheard calm = tt
still_freezes (drops port piece) calm = tt

all_freeze : {core : CoreState} {outcome : StepOutcome} (run : MoveTraceOrLost core outcome) → AreStill run → AllFreeze run
all_freeze rests still = tt
all_freeze (goes_on m run) still = (still_freezes m still.0.0, all_freeze run still.1)

-- a run in which these are received, at first, or a log is cut if it may be, and these bytes come
pub record First (core : CoreState) (outcome : StepOutcome) (inputs : List (Input Command)) (may_cut : Bool) (bytes : ConnectionName → List ℕ) : Type 0 where
  pub run : MoveTraceOrLost core outcome
  pub first : HearsAtFirst run
  pub hears : all_inputs run ≡ inputs
  pub bytes_so : (x : ConnectionName) → bytes_on x run ≡ bytes x
  pub hands : HandsNothing run
  pub cuts : may_cut ≡ false → CutsNothing run
  pub freezes : AllFreeze run

pub first_calm : {core : CoreState} {outcome : StepOutcome} (may_cut : Bool) (bytes : ConnectionName → List ℕ) → ((x : ConnectionName) → bytes x ≡ []) → Calm core outcome
    → First core outcome [] may_cut bytes
first_calm may_cut bytes none (rests, still) = record { run = rests; first = tt; hears = refl; bytes_so = λ x. sym (none x); hands = tt; cuts = λ e. tt; freezes = tt }
first_calm may_cut bytes none (goes_on m run, still) =
    record {
      run = goes_on m run;
      first = calm_of run still.1;
      hears = inputs_none (goes_on m run) still;
      bytes_so = λ x. bytes_none (goes_on m run) still x ∙ sym (none x);
      hands = hands_of (goes_on m run) still;
      cuts = λ e. calm_cuts_none (goes_on m run) (calm_of (goes_on m run) still);
      freezes = all_freeze (goes_on m run) still;
    }

pub first_move : {core : CoreState} {one next : StepOutcome} (m : NodeMoveOrLost core one) (may_cut : Bool) (bytes : ConnectionName → List ℕ) → is_handing m ≡ false
    → ((x : ConnectionName) → came_on x m ≡ bytes x) → (may_cut ≡ false → cuts_in m ≡ false) → CutsThaw m → Calm one.core next → First core (and_then one next) (inputs_in m) may_cut bytes
first_move m may_cut bytes no_hand came no_cut frozen (run, still) =
    record {
      run = goes_on m run;
      first = calm_of run still;
      hears = ap (λ l. inputs_in m ++ l) (inputs_none run still) ∙ append-nil (inputs_in m);
      bytes_so = λ x. ap (λ l. came_on x m ++ l) (bytes_none run still x) ∙ append-nil (came_on x m) ∙ came x;
      hands = (no_hand, hands_of run still);
      cuts = λ e. (no_cut e, calm_cuts_none run (calm_of run still));
      freezes = (frozen, all_freeze run still);
    }
