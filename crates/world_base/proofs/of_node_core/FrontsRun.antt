-- FrontsRun.antt: what is done by what the unread bytes of a connection begin with, if memory may
-- have run out.
use Rattle.std.proofs.Common.{◌≡◌, ℕ, Bool, true, false, if◌then◌else◌, List, Option, Some, None, ◌⊎◌, inl, inr, refl, sym, ap, subst, ◌∙◌}
use Rattle.packet_base.specs.declared.refusal_code.RefusalCode.{RefusalCode}
use Rattle.packet.specs.declared.packet.Packet.{Packet}
use Rattle.packet.specs.declared.packet.Packet.TheVariants as packets
use Rattle.packet.specs.declared.connect.Connect.{Connect}
use Rattle.broker_spec.specs.Connection.{ConnectionName}
use Rattle.broker_spec.specs.declared.command.Command.{Command}
use Rattle.broker_spec.specs.declared.command.Output.{Output}
use Rattle.ballot_base.specs.declared.message.Effect.{Effect}
use Rattle.world_base.specs.declared.node_connections.port.Port.{Port}
use Rattle.world_base.specs.declared.node_connections.front.Front.{Front}
use Rattle.world_base.specs.declared.node_connections.front.Front.TheVariants as fronts
use Rattle.world_base.specs.declared.node_connections.connection.ConnectionStage.{ConnectionStage}
use Rattle.world_base.specs.declared.node_connections.connection.ConnectionStage.TheVariants.{Awaits, Proposed, Closed, Failed}
use Rattle.world_base.specs.declared.node_connections.connection.Connection.{Connection}
use Rattle.world_base.specs.node_connections.Connections.{awaits_first_packet, is_proposed}
use Rattle.world_base.specs.node_connections.ConnectionChanges.{noted_proposed, closed_connection, left_with}
use Rattle.world_base.specs.node_core.Core.{CoreState}
use Rattle.world_base.specs.node_connections.Fronts.{FrontNeedsMemory, HasNoPacket}
use Rattle.world_base.specs.node_connections.Fronts.{TakesFront}
use Rattle.world_base.specs.node_core.Inside.{TakesPacket, StepPartOrLost, ReportsLost}
use Rattle.world_base.specs.node_core.Lossy.{without_effects}
use Rattle.world_base.specs.node_core.LossyEndings.{EndsConnection}
use Rattle.world_base.specs.node_core.LossyPacketInput.{TakesFirstPacket, ProposesConnect, MayEnd, ReadsNext, ProposesPacket}
use Rattle.world_base.specs.node_core.LossyEndings.EndsConnection.{none_open}
use Rattle.world_base.specs.node_core.LossyPacketInput.ReadsNext.{waits, first, later, refuses, ends}
use Rattle.world_base.specs.node_core.PacketInput.{changes, open_at}
use Rattle.world_base.specs.node_connections.Refusals.{connect_refused}
use Rattle.world_base.proofs.of_node_core.Accounts.{ran_as, ran_without_effects}
use Rattle.world_base.proofs.of_node_core.EndsRun.{ran_lost, ran_none_open}
use Rattle.world_base.proofs.of_node_core.Fronts.{becomes_itself, becomes_same}

-- a connection ends
ends_there : (now : ℕ) (port : Port) (a r : CoreState) (x y : List (Effect Command Output)) → MayEnd (open_at port a) → StepPartOrLost (EndsConnection port) a r x y →
    StepPartOrLost (ReadsNext now port) a r x y
ends_there now port a r x y may ran = ran_as (EndsConnection port) (ReadsNext now port) a a r x y (λ did runs. ends may runs) ran

none_ends : (port : Port) (core : CoreState) → open_at port core ≡ None → MayEnd (open_at port core)
none_ends port core none = subst (λ (o : Option Connection). MayEnd o) (sym none) tt

pub ran_nothing_open : (now : ℕ) (port : Port) (core : CoreState) (x : List (Effect Command Output)) → open_at port core ≡ None →
    StepPartOrLost (ReadsNext now port) core core x x
ran_nothing_open now port core x e = ends_there now port core core x x (none_ends port core e) (ran_none_open port core x e)

-- less than a packet
pub ran_waits : (now : ℕ) (port : Port) (c new : Connection) (a b : CoreState) (x : List (Effect Command Output)) →
    open_at port a ≡ Some c → TakesFront now c fronts.More new → b ≡ changes port (λ _. new) a → StepPartOrLost (ReadsNext now port) a b x x
ran_waits now port c new a b x found did is =
    ran_without_effects (ReadsNext now port) a b x (waits c found did.0 (ap without_effects (is ∙ becomes_itself port a c new found did.1)))

-- a packet
pub ran_packet : (now : ℕ) (port : Port) (c new : Connection) (packet : Packet) (a b r : CoreState) (x y : List (Effect Command Output)) →
    open_at port a ≡ Some c → TakesFront now c (fronts.Packet packet) new → b ≡ changes port (λ _. new) a →
    StepPartOrLost (TakesPacket (awaits_first_packet c.stage) port c.name packet) b r x y → StepPartOrLost (ReadsNext now port) a r x y
ran_packet now port c new packet a b r x y found did is ran = by (awaits_first_packet c.stage) refl ran
  where
    left : b ≡ changes port (left_with now did.0) a
    left = is ∙ becomes_same port a c new (left_with now did.0) found did.3

    by : (f : Bool) → awaits_first_packet c.stage ≡ f → StepPartOrLost (TakesPacket f port c.name packet) b r x y →
        StepPartOrLost (ReadsNext now port) a r x y
    by true e begun =
        ran_as (TakesPacket true port c.name packet) (ReadsNext now port) a b r x y
        (λ done runs. first c packet did.0 found e did.1 (subst (λ (k : CoreState). TakesFirstPacket port c.name packet k done) left runs)) begun
    by false e said =
        ran_as (TakesPacket false port c.name packet) (ReadsNext now port) a b r x y
        (λ done runs. later c packet did.0 found e did.1 (subst (λ (k : CoreState). ProposesPacket port c.name packet k done) left runs)) said

-- it is the first of its connection
pub ran_later : (awaits : Bool) (port : Port) (name : ConnectionName) (packet : Packet) (a b : CoreState) (x y : List (Effect Command Output)) →
    awaits ≡ false → StepPartOrLost (ProposesPacket port name packet) a b x y → StepPartOrLost (TakesPacket awaits port name packet) a b x y
ran_later awaits port name packet a b x y is ran =
    subst (λ (f : Bool). StepPartOrLost (TakesPacket f port name packet) a b x y) (sym is)
    (ran_as (ProposesPacket port name packet) (TakesPacket false port name packet) a a b x y (λ did runs. runs) ran)

pub ran_connects : (awaits : Bool) (port : Port) (name : ConnectionName) (connect : Connect) (packet : Packet) (a b r : CoreState)
    (x y : List (Effect Command Output)) → awaits ≡ true → packet ≡ packets.Connect connect →
    b ≡ changes port (noted_proposed connect.keep_alive) a → StepPartOrLost (ProposesConnect port name connect) b r x y →
    StepPartOrLost (TakesPacket awaits port name packet) a r x y
ran_connects awaits port name connect packet a b r x y is connects left ran =
    subst (λ (f : Bool). StepPartOrLost (TakesPacket f port name packet) a r x y) (sym is)
    (subst (λ (p : Packet). StepPartOrLost (TakesPacket true port name p) a r x y) (sym connects)
    (ran_as (ProposesConnect port name connect) (TakesPacket true port name (packets.Connect connect)) a b r x y
    (λ did runs. subst (λ (k : CoreState). ProposesConnect port name connect k did) left runs) ran))

other_begins : (port : Port) (name : ConnectionName) (packet : Packet) (a b : CoreState) →
    ((connect : Connect) → packet ≡ packets.Connect connect → ⊥) → b ≡ changes port closed_connection a → TakesFirstPacket port name packet a (without_effects b)
other_begins port name (packets.Connect connect) a b other shut = absurd (other connect refl)
other_begins port name _ a b other shut = ap without_effects shut

pub ran_other : (awaits : Bool) (port : Port) (name : ConnectionName) (packet : Packet) (a b : CoreState)
    (x : List (Effect Command Output)) → awaits ≡ true → ((connect : Connect) → packet ≡ packets.Connect connect → ⊥) →
    b ≡ changes port closed_connection a → StepPartOrLost (TakesPacket awaits port name packet) a b x x
ran_other awaits port name packet a b x is other shut =
    subst (λ (f : Bool). StepPartOrLost (TakesPacket f port name packet) a b x x) (sym is)
    (ran_without_effects (TakesPacket true port name packet) a b x (other_begins port name packet a b other shut))

-- ---- no packet, or no memory

closed_there : (now : ℕ) (port : Port) (c new : Connection) (a b r : CoreState) (x y : List (Effect Command Output)) →
    open_at port a ≡ Some c → HasNoPacket c ⊎ FrontNeedsMemory c → new ≡ closed_connection c → b ≡ changes port (λ _. new) a →
    StepPartOrLost (ReportsLost (is_proposed c.stage) c.name) b r x y → StepPartOrLost (ReadsNext now port) a r x y
closed_there now port c new a b r x y found may shut is ran =
    ends_there now port a r x y (subst (λ (o : Option Connection). MayEnd o) (sym found) may) (ran_lost port c a b r x y found (is ∙ becomes_same port a c new closed_connection found shut) ran)

first_not_proposed : (stage : ConnectionStage) → awaits_first_packet stage ≡ true → is_proposed stage ≡ false
first_not_proposed Awaits e = refl
first_not_proposed Proposed e = absurd cc
first_not_proposed Closed e = absurd cc
first_not_proposed Failed e = absurd cc

refused_there : (now : ℕ) (port : Port) (c new : Connection) (code : RefusalCode) (a b r : CoreState) (x y : List (Effect Command Output)) →
    open_at port a ≡ Some c → TakesFront now c (fronts.Refused code) new → b ≡ changes port (λ _. new) a →
    StepPartOrLost (ReportsLost (is_proposed c.stage) c.name) b r x y → StepPartOrLost (ReadsNext now port) a r x y
refused_there now port c new code a b r x y found did is ran = by (awaits_first_packet c.stage) refl did.1
  where
    by : (f : Bool) → awaits_first_packet c.stage ≡ f → new ≡ (if f then connect_refused code c else closed_connection c) → StepPartOrLost (ReadsNext now port) a r x y
    by true e answered =
        ran_as (ReportsLost false c.name) (ReadsNext now port) a b r x y
        (λ done runs. refuses c code found e did.0 (runs ∙ ap without_effects (is ∙ becomes_same port a c new (connect_refused code) found answered)))
        (subst (λ (p : Bool). StepPartOrLost (ReportsLost p c.name) b r x y) (first_not_proposed c.stage e) ran)
    by false e shut = closed_there now port c new a b r x y found (inl (inr (e, (code, did.0)))) shut is ran

pub ran_gone : (now : ℕ) (port : Port) (c new : Connection) (front : Front) (a b r : CoreState) (x y : List (Effect Command Output)) →
    open_at port a ≡ Some c → TakesFront now c front new →
    ((code : RefusalCode) × (front ≡ fronts.Refused code)) ⊎ (front ≡ fronts.Fault) → b ≡ changes port (λ _. new) a →
    StepPartOrLost (ReportsLost (is_proposed c.stage) c.name) b r x y → StepPartOrLost (ReadsNext now port) a r x y
ran_gone now port c new front a b r x y found did (inl (code, e)) is ran =
    refused_there now port c new code a b r x y found (subst (λ (f : Front). TakesFront now c f new) e did) is ran
ran_gone now port c new front a b r x y found did (inr e) is ran =
    let fault = subst (λ (f : Front). TakesFront now c f new) e did in
    closed_there now port c new a b r x y found (inl (inl fault.0)) fault.1 is ran

pub ran_out_of_memory : (now : ℕ) (port : Port) (c new : Connection) (a b r : CoreState) (x y : List (Effect Command Output)) →
    open_at port a ≡ Some c → TakesFront now c fronts.OutOfMemory new → b ≡ changes port (λ _. new) a →
    StepPartOrLost (ReportsLost (is_proposed c.stage) c.name) b r x y → StepPartOrLost (ReadsNext now port) a r x y
ran_out_of_memory now port c new a b r x y found did is ran =
    closed_there now port c new a b r x y found (inr did.0) did.1 is ran

-- if no whole packet is at the front, the next time nothing is done either
pub idle_open : (now : ℕ) (port : Port) (core : CoreState) → open_at port core ≡ None → ReadsNext now port core (without_effects core)
idle_open now port core e = ends (none_ends port core e) (ends_none e)
  where
    ends_none : open_at port core ≡ None → EndsConnection port core (without_effects core)
    ends_none none = none_open none refl

pub idle_waits : (now : ℕ) (port : Port) (c new : Connection) (a b : CoreState) → open_at port a ≡ Some c →
    TakesFront now c fronts.More new → b ≡ changes port (λ _. new) a → ReadsNext now port b (without_effects b)
idle_waits now port c new a b found did is =
    subst (λ (k : CoreState). ReadsNext now port k (without_effects k)) (sym (is ∙ becomes_itself port a c new found did.1))
    (waits c found did.0 refl)
