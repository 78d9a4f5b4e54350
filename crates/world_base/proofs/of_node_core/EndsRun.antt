-- EndsRun.antt: how connections end and what is asked for them, if memory may have run out.
use Rattle.std.proofs.Common.{◌≡◌, ◌⊎◌, inl, inr, ℕ, Bool, true, false, List, Some, None, refl, sym, ap, subst, ◌∙◌}
use Rattle.std.specs.List.{find}
use Rattle.broker_spec.specs.Connection.{ConnectionName}
use Rattle.broker_spec.specs.declared.command.Command.{Command}
use Rattle.broker_spec.specs.declared.command.Command.TheVariants as commands
use Rattle.broker_spec.specs.declared.command.Output.{Output}
use Rattle.ballot_base.specs.declared.message.Effect.{Effect}
use Rattle.world_base.specs.declared.node_connections.port.Port.{Port}
use Rattle.world_base.specs.declared.node_connections.connection.Connection.{Connection}
use Rattle.world_base.specs.node_connections.Connections.{has_failed, is_proposed}
use Rattle.world_base.specs.node_connections.ConnectionChanges.{closed_connection, failing, with_unread}
use Rattle.world_base.specs.node_core.Core.{CoreState}
use Rattle.world_base.specs.node_core.FailedConnections.{closes_failed}
use Rattle.world_base.specs.node_core.Inside.{ProposedBy, ReportsLost, RunningStep, StepPartOrLost}
use Rattle.world_base.specs.node_connections.Silent.{lowest_silent}
use Rattle.world_base.specs.node_core.Lossy.{Account, Then, without_effects}
use Rattle.world_base.specs.node_core.LossyProposals.{Declines, ProposesCommand}
use Rattle.world_base.specs.node_core.LossyStep.{HoldsBytes}
use Rattle.world_base.specs.node_core.LossyEndings.{EndsConnection, EndsSilent, ReportsFailed}
use Rattle.world_base.specs.node_core.LossyPacketInput.{TakesOr, Shuts}
use Rattle.world_base.specs.node_core.LossyEndings.EndsConnection.{none_open, unproposed, proposed}
use Rattle.world_base.specs.node_core.LossyEndings.EndsSilent.{none_silent, ends_one}
use Rattle.world_base.specs.node_core.LossyEndings.ReportsFailed.{none_failed, tells_one}
use Rattle.world_base.specs.node_core.PacketInput.{changes, open_at}
use Rattle.world_base.proofs.of_node_core.Accounts.{ran_as, ran_without_effects, ran_then}
use Rattle.world_base.proofs.of_node_core.Answering.{as_proposes}

-- the core of a node that became another
pub core_of : (a b : RunningStep) → a ≡ b → a.core ≡ b.core
core_of a b e = ap (λ (r : RunningStep). r.core) e

-- ---- a connection of a port ends

pub ran_none_open : (port : Port) (core : CoreState) (x : List (Effect Command Output)) → open_at port core ≡ None → StepPartOrLost (EndsConnection port) core core x x
ran_none_open port core x e = ran_without_effects (EndsConnection port) core core x (none_open e refl)

pub ran_unproposed : (port : Port) (c : Connection) (a b : CoreState) (x : List (Effect Command Output)) → open_at port a ≡ Some c →
    is_proposed c.stage ≡ false → b ≡ changes port closed_connection a → StepPartOrLost (EndsConnection port) a b x x
ran_unproposed port c a b x found other shut = ran_without_effects (EndsConnection port) a b x (unproposed c found other (ap without_effects shut))

pub ran_proposed : (port : Port) (c : Connection) (a b r : CoreState) (taken : Bool) (x y : List (Effect Command Output)) →
    open_at port a ≡ Some c → is_proposed c.stage ≡ true → b ≡ changes port closed_connection a →
    StepPartOrLost (ProposedBy taken (commands.Lost c.name)) b r x y → StepPartOrLost (EndsConnection port) a r x y
ran_proposed port c a b r taken x y found heard shut ran =
    ran_as (ProposedBy taken (commands.Lost c.name)) (EndsConnection port) a b r x y
    (λ account runs. proposed c found heard (as_proposes taken (commands.Lost c.name) (changes port closed_connection a) account
    (subst (λ (k : CoreState). ProposedBy taken (commands.Lost c.name) k account) shut runs))) ran

-- it is reported to the broker if its CONNECT was proposed
pub ran_tells : (heard taken : Bool) (name : ConnectionName) (a b : CoreState) (x y : List (Effect Command Output)) → heard ≡ true →
    StepPartOrLost (ProposedBy taken (commands.Lost name)) a b x y → StepPartOrLost (ReportsLost heard name) a b x y
ran_tells heard taken name a b x y is ran =
    subst (λ (t : Bool). StepPartOrLost (ReportsLost t name) a b x y) (sym is)
    (ran_as (ProposedBy taken (commands.Lost name)) (ReportsLost true name) a a b x y (as_proposes taken (commands.Lost name) a) ran)

-- whether a proposal was taken or not, it was put to the replica
pub ran_proposes : (command : Command) (taken : Bool) (a b : CoreState) (x y : List (Effect Command Output)) → StepPartOrLost (ProposedBy taken command) a b x y →
    StepPartOrLost (ProposesCommand command) a b x y
ran_proposes command taken a b x y ran = ran_as (ProposedBy taken command) (ProposesCommand command) a a b x y (as_proposes taken command a) ran

pub ran_tells_not : (heard : Bool) (name : ConnectionName) (a : CoreState) (x : List (Effect Command Output)) → heard ≡ false →
    StepPartOrLost (ReportsLost heard name) a a x x
ran_tells_not heard name a x is =
    subst (λ (t : Bool). StepPartOrLost (ReportsLost t name) a a x x) (sym is) (ran_without_effects (ReportsLost false name) a a x refl)

pub ran_lost : (port : Port) (c : Connection) (a b r : CoreState) (x y : List (Effect Command Output)) → open_at port a ≡ Some c →
    b ≡ changes port closed_connection a → StepPartOrLost (ReportsLost (is_proposed c.stage) c.name) b r x y → StepPartOrLost (EndsConnection port) a r x y
ran_lost port c a b r x y found shut ran = by (is_proposed c.stage) refl ran
  where
    by : (p : Bool) → is_proposed c.stage ≡ p → StepPartOrLost (ReportsLost p c.name) b r x y → StepPartOrLost (EndsConnection port) a r x y
    by true e tells =
        ran_as (ReportsLost true c.name) (EndsConnection port) a b r x y
        (λ account runs. proposed c found e (subst (λ (k : CoreState). ReportsLost true c.name k account) shut runs)) tells
    by false e tells =
        ran_as (ReportsLost false c.name) (EndsConnection port) a b r x y (λ account runs. unproposed c found e (runs ∙ ap without_effects shut)) tells

-- ---- silent and failed ones

pub ran_silent : (now : ℕ) (port : Port) (a b : CoreState) (x y : List (Effect Command Output)) →
    lowest_silent now a.connections ≡ Some port → StepPartOrLost (EndsConnection port) a b x y → StepPartOrLost (EndsSilent now) a b x y
ran_silent now port a b x y found ran = ran_as (EndsConnection port) (EndsSilent now) a a b x y (λ account runs. ends_one port found runs) ran

pub ran_none_failed : (core : CoreState) (x : List (Effect Command Output)) → find has_failed core.connections ≡ None →
    StepPartOrLost ReportsFailed core core x x
ran_none_failed core x e = ran_without_effects ReportsFailed core core x (none_failed e refl)

pub idle_failed : (core : CoreState) → find has_failed core.connections ≡ None → ReportsFailed core (without_effects core)
idle_failed core e = none_failed e refl

pub idle_silent : (now : ℕ) (core : CoreState) → lowest_silent now core.connections ≡ None → EndsSilent now core (without_effects core)
idle_silent now core e = none_silent e refl

pub ran_failed : (c : Connection) (a b r : CoreState) (taken : Bool) (x y : List (Effect Command Output)) →
    find has_failed a.connections ≡ Some c → b ≡ closes_failed a → StepPartOrLost (ProposedBy taken (commands.Lost c.name)) b r x y →
    StepPartOrLost ReportsFailed a r x y
ran_failed c a b r taken x y found shut ran =
    ran_as (ProposedBy taken (commands.Lost c.name)) ReportsFailed a b r x y
    (λ account runs. tells_one c found (as_proposes taken (commands.Lost c.name) (closes_failed a) account
    (subst (λ (k : CoreState). ProposedBy taken (commands.Lost c.name) k account) shut runs))) ran

-- ---- a command is taken, or else something is done

pub ran_asked : (taken : Bool) (command : Command) (Otherwise : CoreState → Account → Type 0) (a b : CoreState)
    (x y : List (Effect Command Output)) → taken ≡ true → StepPartOrLost (ProposedBy taken command) a b x y → StepPartOrLost (TakesOr command Otherwise) a b x y
ran_asked taken command Otherwise a b x y is ran =
    ran_as (ProposedBy true command) (TakesOr command Otherwise) a a b x y (λ account runs. inl runs)
    (subst (λ (t : Bool). StepPartOrLost (ProposedBy t command) a b x y) is ran)

pub ran_otherwise : (taken : Bool) (command : Command) (Otherwise : CoreState → Account → Type 0) (a b c : CoreState)
    (x y : List (Effect Command Output)) → taken ≡ false → StepPartOrLost (ProposedBy taken command) a b x y → Otherwise b (without_effects c) →
    StepPartOrLost (TakesOr command Otherwise) a c x y
ran_otherwise taken command Otherwise a b c x y is ran other =
    ran_as (Then Declines Otherwise) (TakesOr command Otherwise) a a c x y (λ account runs. inr runs)
    (ran_then Declines Otherwise a b c x y y (subst (λ (t : Bool). StepPartOrLost (ProposedBy t command) a b x y) is ran)
    (ran_without_effects Otherwise b c y other))

-- a connection was closed, or closed as lost
pub shuts_by : (port : Port) (a b : CoreState) → (b ≡ changes port closed_connection a) ⊎ (b ≡ changes port failing a) → Shuts port a (without_effects b)
shuts_by port a b (inl e) = inl (ap without_effects e)
shuts_by port a b (inr e) = inr (ap without_effects e)

-- ---- bytes that came

pub ran_held : (port : Port) (piece : List ℕ) (a b : CoreState) (x : List (Effect Command Output)) → b ≡ changes port (with_unread piece) a →
    StepPartOrLost (HoldsBytes port piece) a b x x
ran_held port piece a b x e = ran_without_effects (HoldsBytes port piece) a b x (inl (ap without_effects e))

pub ran_not_held : (port : Port) (piece : List ℕ) (a b r : CoreState) (x y : List (Effect Command Output)) → b ≡ a →
    StepPartOrLost (EndsConnection port) b r x y → StepPartOrLost (HoldsBytes port piece) a r x y
ran_not_held port piece a b r x y same ran =
    ran_as (EndsConnection port) (HoldsBytes port piece) a b r x y (λ account runs. inr (subst (λ (k : CoreState). EndsConnection port k account) same runs)) ran
