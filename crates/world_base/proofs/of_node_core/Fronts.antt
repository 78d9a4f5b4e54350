-- Fronts.antt: what is done by what the unread bytes of a connection begin with.
use Rattle.std.proofs.Common.{◌≡◌, ℕ, Bool, true, false, if◌then◌else◌, List, [], ◌∷◌, Some, None, Result, Ok, Err, ◌⊎◌, inl, inr, refl, sym, ap, subst, ◌∙◌}
use Rattle.std.specs.List.{find}
use Rattle.packet_base.specs.declared.stop.Stop.{Stop}
use Rattle.packet_base.specs.declared.stop.Stop.TheVariants as stops
use Rattle.packet_base.specs.declared.refusal_code.RefusalCode.{RefusalCode}
use Rattle.packet.specs.declared.packet.Packet.{Packet}
use Rattle.packet.specs.declared.packet.Packet.TheVariants as packets
use Rattle.packet.specs.declared.connect.Connect.{Connect}
use Rattle.packet.specs.Verdict.{verdict}
use Rattle.broker_spec.specs.Connection.{ConnectionName}
use Rattle.broker_spec.specs.declared.command.Command.{Command}
use Rattle.broker_spec.specs.declared.command.Command.TheVariants as commands
use Rattle.broker_spec.specs.declared.command.Output.{Output}
use Rattle.ballot_base.specs.declared.message.Effect.{Effect}
use Rattle.world_base.specs.declared.node_connections.port.Port.{Port}
use Rattle.world_base.specs.declared.node_connections.front.Front.{Front}
use Rattle.world_base.specs.declared.node_connections.front.Front.TheVariants as fronts
use Rattle.world_base.specs.declared.node_connections.connection.ConnectionStage.{ConnectionStage}
use Rattle.world_base.specs.declared.node_connections.connection.ConnectionStage.TheVariants.{Awaits, Proposed, Closed, Failed}
use Rattle.world_base.specs.declared.node_connections.connection.Connection.{Connection}
use Rattle.world_base.specs.node_connections.Connections.{awaits_first_packet, is_proposed, is_open_at}
use Rattle.world_base.specs.node_connections.ConnectionChanges.{changed_where, closed_connection, left_with}
use Rattle.world_base.specs.node_core.Core.{CoreState, StepOutcome}
use Rattle.world_base.specs.node_connections.Fronts.{IsFaultOfBytes}
use Rattle.world_base.specs.node_connections.Fronts.{TakesFront}
use Rattle.world_base.specs.node_core.Inside.{RunningStep, DoesOutcome}
use Rattle.world_base.specs.node_core.PacketInput.{takes_first_packet, changes, loses, open_at, reads, reads_next, proposes_packet}
use Rattle.world_base.specs.node_connections.Refusals.{connect_refused}
use Rattle.world_base.specs.node_core.Effects.{proposes, without_messages}
use Rattle.world_base.proofs.of_node_core.StepsJoin.{turns_idle, turns_without_messages, turns_after}

-- ---- changes of the connection that is found

-- changes that are one on the connection that is found are one on the list
changed_same : (test : Connection → Bool) (f g : Connection → Connection) (cs : List Connection) (c : Connection) →
    find test cs ≡ Some c → f c ≡ g c → changed_where test f cs ≡ changed_where test g cs
changed_same test f g [] c found same = refl
changed_same test f g (d ∷ cs) c found same =
    by_test (test d) refl (λ later. changed_same test f g cs c later same)
  where
    by_test : (b : Bool) → test d ≡ b → (find test cs ≡ Some c → changed_where test f cs ≡ changed_where test g cs) →
        changed_where test f (d ∷ cs) ≡ changed_where test g (d ∷ cs)
    by_test true e rest =
        let is : Some d ≡ Some c = rw e at found in
        let same' : f d ≡ g d = cc in
        rw e (ap (λ x. x ∷ cs) same')
    by_test false e rest =
        let later : find test cs ≡ Some c = rw e at found in
        rw e (ap (λ l. d ∷ l) (rest later))

-- a change that changes nothing
changed_not : (test : Connection → Bool) (cs : List Connection) → changed_where test (λ c. c) cs ≡ cs
changed_not test [] = refl
changed_not test (d ∷ cs) = by_test (test d) refl (changed_not test cs)
  where
    by_test : (b : Bool) → test d ≡ b → changed_where test (λ c. c) cs ≡ cs → changed_where test (λ c. c) (d ∷ cs) ≡ d ∷ cs
    by_test true e rest = rw e refl
    by_test false e rest = rw e (ap (λ l. d ∷ l) rest)

pub becomes_same : (port : Port) (core : CoreState) (c new : Connection) (change : Connection → Connection) →
    open_at port core ≡ Some c → new ≡ change c → changes port (λ _. new) core ≡ changes port change core
unfolding changes
becomes_same port core c new change found is =
    ap (λ (l : List Connection). record core { connections = l })
    (changed_same (is_open_at port) (λ _. new) change core.connections c found is)

pub becomes_itself : (port : Port) (core : CoreState) (c new : Connection) →
    open_at port core ≡ Some c → new ≡ c → changes port (λ _. new) core ≡ core
unfolding changes
becomes_itself port core c new found is =
    ap (λ (l : List Connection). record core { connections = l })
    (changed_same (is_open_at port) (λ _. new) (λ x. x) core.connections c found is
    ∙ changed_not (is_open_at port) core.connections)

-- ---- what the front does to the node

-- no connection of the port is open
pub nothing_open : (now : ℕ) (port : Port) (r : RunningStep) (out : List (Effect Command Output)) →
    open_at port r.core ≡ None → DoesOutcome r r out out (reads_next now port r.core)
unfolding reads_next
nothing_open now port r out none = subst (λ (t : StepOutcome). DoesOutcome r r out out t) (rw none refl) (turns_idle r out)

pub nothing_next : (now : ℕ) (port : Port) (core : CoreState) → open_at port core ≡ None → reads_next now port core ≡ without_messages core
unfolding reads_next
nothing_next now port core none = rw none refl

reads_by : (now : ℕ) (port : Port) (core : CoreState) (c : Connection) (v : Result (Packet × List ℕ) Stop) →
    open_at port core ≡ Some c → verdict c.unread ≡ v → reads now port c core v ≡ reads_next now port core
unfolding reads_next
reads_by now port core c v found is = rw (found, is) refl

-- less than a packet: nothing changes
same_after : (now : ℕ) (port : Port) (c new : Connection) (a b : RunningStep) → open_at port a.core ≡ Some c →
    TakesFront now c fronts.More new → b ≡ record a { core = changes port (λ _. new) a.core } → b ≡ a
same_after now port c new a b found did is =
    is ∙ ap (λ (k : CoreState). record a { core = k }) (becomes_itself port a.core c new found did.1)

pub more_next : (now : ℕ) (port : Port) (c new : Connection) (a b : RunningStep) → open_at port a.core ≡ Some c →
    TakesFront now c fronts.More new → b ≡ record a { core = changes port (λ _. new) a.core } →
    reads_next now port b.core ≡ without_messages b.core
more_next now port c new a b found did is =
    subst (λ (r : RunningStep). reads_next now port r.core ≡ without_messages r.core) (sym (same_after now port c new a b found did is))
    (sym (reads_by now port a.core c (Err stops.More) found did.0))

pub more_there : (now : ℕ) (port : Port) (c new : Connection) (a b : RunningStep) (out : List (Effect Command Output)) →
    open_at port a.core ≡ Some c → TakesFront now c fronts.More new →
    b ≡ record a { core = changes port (λ _. new) a.core } → DoesOutcome a b out out (reads_next now port a.core)
more_there now port c new a b out found did is =
    subst (λ (t : StepOutcome). DoesOutcome a b out out t)
    (ap without_messages (becomes_itself port a.core c new found did.1) ∙ reads_by now port a.core c (Err stops.More) found did.0)
    (turns_without_messages a b out (changes port (λ _. new) a.core) (λ _. is))

-- a packet
pub packet_there : (now : ℕ) (port : Port) (c new : Connection) (packet : Packet) (a b r : RunningStep) (x y : List (Effect Command Output)) →
    open_at port a.core ≡ Some c → TakesFront now c (fronts.Packet packet) new →
    b ≡ record a { core = changes port (λ _. new) a.core } →
    DoesOutcome b r x y (if awaits_first_packet c.stage then takes_first_packet port c.name packet b.core else proposes_packet port c.name packet b.core) →
    DoesOutcome a r x y (reads_next now port a.core)
packet_there now port c new packet a b r x y found did is turns =
    let rest = did.0 in
    subst (λ (t : StepOutcome). DoesOutcome a r x y t) (reads_by now port a.core c (Ok (packet, rest)) found did.1)
    (turns_after a b r x y (changes port (left_with now rest) a.core)
    (λ core. if awaits_first_packet c.stage then takes_first_packet port c.name packet core else proposes_packet port c.name packet core)
    (is ∙ ap (λ (k : CoreState). record a { core = k }) (becomes_same port a.core c new (left_with now rest) found did.3)) turns)

-- a first packet that is no CONNECT
other_turns : (port : Port) (name : ConnectionName) (packet : Packet) (a b : RunningStep) (x : List (Effect Command Output)) →
    ((connect : Connect) → packet ≡ packets.Connect connect → ⊥) → b ≡ record a { core = changes port closed_connection a.core } →
    DoesOutcome a b x x (takes_first_packet port name packet a.core)
other_turns port name (packets.Connect connect) a b x other shut = absurd (other connect refl)
other_turns port name _ a b x other shut = turns_without_messages a b x (changes port closed_connection a.core) (λ _. shut)

pub turns_other : (awaits : Bool) (port : Port) (name : ConnectionName) (packet : Packet) (a b : RunningStep) (x : List (Effect Command Output)) →
    awaits ≡ true → ((connect : Connect) → packet ≡ packets.Connect connect → ⊥) → b ≡ record a { core = changes port closed_connection a.core } →
    DoesOutcome a b x x (if awaits then takes_first_packet port name packet a.core else proposes_packet port name packet a.core)
turns_other awaits port name packet a b x is other shut =
    subst (λ (f : Bool). DoesOutcome a b x x (if f then takes_first_packet port name packet a.core else proposes_packet port name packet a.core)) (sym is)
    (other_turns port name packet a b x other shut)

-- a connection that is closed after a change, and its loss is reported to the broker if its CONNECT
-- was proposed
abbrev pub Told : Connection → CoreState → StepOutcome
Told c core = if is_proposed c.stage then proposes (commands.Lost c.name) core else without_messages core

lost_there : (port : Port) (c : Connection) (core : CoreState) → Told c (changes port closed_connection core) ≡ loses port c core
lost_there port c core = refl

pub fault_there : (now : ℕ) (port : Port) (c new : Connection) (a b r : RunningStep) (x y : List (Effect Command Output)) →
    open_at port a.core ≡ Some c → TakesFront now c fronts.Fault new →
    b ≡ record a { core = changes port (λ _. new) a.core } → DoesOutcome b r x y (Told c b.core) →
    DoesOutcome a r x y (reads_next now port a.core)
fault_there now port c new a b r x y found did is turns = by (verdict c.unread) refl did.0
  where
    lost : DoesOutcome a r x y (loses port c a.core)
    lost =
        turns_after a b r x y (changes port closed_connection a.core) (Told c)
        (is ∙ ap (λ (k : CoreState). record a { core = k }) (becomes_same port a.core c new closed_connection found did.1)) turns

    by : (v : Result (Packet × List ℕ) Stop) → verdict c.unread ≡ v → IsFaultOfBytes v → DoesOutcome a r x y (reads_next now port a.core)
    by (Err stops.More) e fault = absurd fault
    by (Err (stops.Malformed kind)) e fault = subst (λ (t : StepOutcome). DoesOutcome a r x y t) (reads_by now port a.core c _ found e) lost
    by (Err (stops.Refused code)) e fault = absurd fault
    by (Ok _) e fault = absurd fault

pub refused_there : (now : ℕ) (port : Port) (c new : Connection) (code : RefusalCode) (a b r : RunningStep) (x y : List (Effect Command Output)) →
    open_at port a.core ≡ Some c → TakesFront now c (fronts.Refused code) new →
    b ≡ record a { core = changes port (λ _. new) a.core } → DoesOutcome b r x y (Told c b.core) →
    DoesOutcome a r x y (reads_next now port a.core)
refused_there now port c new code a b r x y found did is turns =
    subst (λ (t : StepOutcome). DoesOutcome a r x y t) (reads_by now port a.core c _ found did.0) (by c.stage refl did.1)
  where
    after : (change : Connection → Connection) → new ≡ change c → DoesOutcome a r x y (Told c (changes port change a.core))
    after change e =
        turns_after a b r x y (changes port change a.core) (Told c)
        (is ∙ ap (λ (k : CoreState). record a { core = k }) (becomes_same port a.core c new change found e)) turns

    by : (stage : ConnectionStage) → c.stage ≡ stage → new ≡ (if awaits_first_packet c.stage then connect_refused code c else closed_connection c) →
        DoesOutcome a r x y (if awaits_first_packet c.stage then without_messages (changes port (connect_refused code) a.core) else loses port c a.core)
    by Awaits e is_new =
        rw (e) (rw (e) at (after (connect_refused code) (rw (e) at is_new)))
    by Proposed e is_new = rw (e) (rw (e) at (after closed_connection (rw (e) at is_new)))
    by Closed e is_new = rw (e) (rw (e) at (after closed_connection (rw (e) at is_new)))
    by Failed e is_new = rw (e) (rw (e) at (after closed_connection (rw (e) at is_new)))

-- either of them
pub gone_there : (now : ℕ) (port : Port) (c new : Connection) (front : Front) (a b r : RunningStep) (x y : List (Effect Command Output)) →
    open_at port a.core ≡ Some c → TakesFront now c front new →
    ((code : RefusalCode) × (front ≡ fronts.Refused code)) ⊎ (front ≡ fronts.Fault) →
    b ≡ record a { core = changes port (λ _. new) a.core } → DoesOutcome b r x y (Told c b.core) →
    DoesOutcome a r x y (reads_next now port a.core)
gone_there now port c new front a b r x y found did (inl (code, e)) is turns =
    refused_there now port c new code a b r x y found (subst (λ f. TakesFront now c f new) e did) is turns
gone_there now port c new front a b r x y found did (inr e) is turns =
    fault_there now port c new a b r x y found (subst (λ f. TakesFront now c f new) e did) is turns
