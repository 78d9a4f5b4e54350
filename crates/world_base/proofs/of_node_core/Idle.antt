-- Idle.antt: an item that does nothing is a step that does nothing, exact or not.
use Rattle.std.proofs.Common.{◌≡◌, inl, ℕ, zero, suc, Bool, true, false, if◌then◌else◌, Option, Some, None, List, [], ◌∷◌, refl, sym, ap, subst, ◌∙◌}
use Rattle.std.specs.List.{find}
use Rattle.broker_base.specs.State.{State}
use Rattle.broker_spec.specs.declared.command.Command.{Command}
use Rattle.broker_spec.specs.declared.command.Command.TheVariants as commands
use Rattle.broker_spec.specs.declared.command.Output.{Output}
use Rattle.ballot_base.specs.declared.message.Effect.{Effect}
use Rattle.ballot_base.specs.declared.message.Message.{Message}
use Rattle.ballot_base.specs.Protocol.{Input}
use Rattle.ballot_base.specs.Protocol.Input.{Receives, Ticks}
use Rattle.ballot_base.specs.StepOutcome.{Outcome}
use Rattle.world_base.specs.declared.node_connections.port.Port.{Port}
use Rattle.world_base.specs.declared.node_core.item.Item.{Item}
use Rattle.world_base.specs.declared.node_core.item.Item.TheVariants.{Peer, Tick, Opened, Bytes, Ended, Expel, Cut, Crash}
use Rattle.world_base.specs.declared.node_connections.connection.Connection.{Connection}
use Rattle.world_base.specs.node_connections.Connections.{has_failed, is_open_at, is_proposed}
use Rattle.world_base.specs.node_connections.ConnectionChanges.{changed_where, closed_connection, with_unread}
use Rattle.world_base.specs.node_core.Core.{CoreState, StepOutcome}
use Rattle.world_base.specs.node_core.FailedConnections.{reports_all_failed}
use Rattle.world_base.specs.node_core.Inside.{StepPartOrLost, RunningStep, DoesOutcome, WithoutFailure}
use Rattle.world_base.specs.node_connections.Silent.{lowest_silent}
use Rattle.world_base.specs.node_core.KeepAlive.{ends_all_silent, ends_silent}
use Rattle.world_base.specs.node_core.Losses.{DoesNothing, IsIgnored, ItemTakesNoMemory, was_proposed}
use Rattle.world_base.specs.node_core.Lossy.{Drives, without_effects}
use Rattle.world_base.specs.node_core.Lossy.HandlesAll.{nothing}
use Rattle.world_base.specs.node_core.LossyStep.{ActsOn, ReportsAllFailed, DoesItem}
use Rattle.ballot_base.specs.Compaction.{can_cut}
use Rattle.world_base.specs.node_core.PacketInput.{changes, port_closed, open_at, reads_all, reads_next, unread_of}
use Rattle.world_base.specs.node_core.Step.{accepts_connection, acts_on, cuts, with_next_connection, does_item}
use Rattle.world_base.specs.node_core.Effects.{drives, after_replica_step, without_messages, repeated, then_also}
use Rattle.world_base.proofs.of_node_core.Accounts.{ran_without_effects, ran_then}
use Rattle.world_base.proofs.of_node_core.Closes.{proposes_nothing}
use Rattle.world_base.proofs.of_node_core.Silences.{silent_none}

-- ---- nothing, several times

pub repeated_without_messages : (next : CoreState → StepOutcome) (n : ℕ) (core : CoreState) → next core ≡ without_messages core → repeated n next core ≡ without_messages core
unfolding repeated
repeated_without_messages next zero core e = refl
repeated_without_messages next (suc n) core e = ap (λ (t : StepOutcome). then_also t (repeated n next)) e ∙ repeated_without_messages next n core e

-- ---- the replica

drives_nothing : (input : Input Command) (core : CoreState) → IsIgnored input core → drives input core ≡ without_messages core
unfolding drives
drives_nothing input core ignored = ap (λ (o : Outcome State Command Output). after_replica_step o core) ignored

drives_idle : (input : Input Command) (core : CoreState) → IsIgnored input core → Drives input core (without_effects core)
drives_idle input core ignored =
    record {
      replica = core.replica;
      steps = inl (
        sym (ap (λ (o : Outcome State Command Output). o.state) ignored),
        sym (ap (λ (o : Outcome State Command Output). o.effects) ignored),
        refl,
      );
      handles = nothing;
    }

-- ---- connections

unchanged : (test : Connection → Bool) (change : Connection → Connection) (cs : List Connection) → find test cs ≡ None →
    changed_where test change cs ≡ cs
unchanged test change [] e = refl
unchanged test change (c ∷ cs) e = by (test c) (unchanged test change cs) e
  where
    by : (b : Bool) → (find test cs ≡ None → changed_where test change cs ≡ cs) → (if b then Some c else find test cs) ≡ None →
        (if b then change c ∷ cs else c ∷ changed_where test change cs) ≡ c ∷ cs
    by true ih f = absurd cc
    by false ih f = ap (λ (l : List Connection). c ∷ l) (ih f)

pub nothing_changes : (port : Port) (change : Connection → Connection) (core : CoreState) → open_at port core ≡ None →
    changes port change core ≡ core
unfolding changes
nothing_changes port change core none =
    ap (λ (l : List Connection). record core { connections = l }) (unchanged (is_open_at port) change core.connections none)

pub closes_nothing : (port : Port) (r : RunningStep) → open_at port r.core ≡ None → r ≡ record r { core = changes port closed_connection r.core }
closes_nothing port r none = ap (λ (k : CoreState). let r2 : RunningStep = record r { core = k } in r2) (sym (nothing_changes port closed_connection r.core none))

-- one whose CONNECT was proposed counts as told
pub proposed_then : {X : Type 0} (o : Option Connection) (c : Connection) → o ≡ Some c → is_proposed c.stage ≡ true → was_proposed o ≡ false → X
proposed_then o c is proposed unproposed = (let e : was_proposed o ≡ true = rw is proposed in absurd cc)

nothing_is_read : (now : ℕ) (port : Port) (core : CoreState) → open_at port core ≡ None → reads_all now port core ≡ without_messages core
unfolding repeated
nothing_is_read now port core none =
    ap (λ (o : Option Connection). repeated (unread_of o) (reads_next now port) core) none

ends_nothing : (port : Port) (core : CoreState) → open_at port core ≡ None → port_closed port core ≡ without_messages core
unfolding port_closed
ends_nothing port core none = rw none refl

opens_nothing : (port : Port) (core : CoreState) → accepts_connection port core ≡ false → with_next_connection port core ≡ core
unfolding with_next_connection
opens_nothing port core none = rw none refl

cuts_nothing : (core : CoreState) → can_cut core.replica.state ≡ false → cuts core ≡ core
unfolding cuts
cuts_nothing core none = rw none refl

-- ---- an item

pub takes_nothing : (item : Item) (core : CoreState) → DoesNothing item core → does_item item core ≡ without_messages core
takes_nothing (Peer message) core ignored = drives_nothing (Receives message) core ignored.0
takes_nothing (Tick now) core ignored =
    ap (λ (t : StepOutcome). then_also t (ends_all_silent now)) (drives_nothing Ticks core ignored.0)
    ∙ repeated_without_messages (ends_silent now) _ core (silent_none now core ignored.1)
takes_nothing (Opened port now) core none = ap without_messages (opens_nothing port core none)
takes_nothing (Bytes port piece now) core none =
    ap (λ (k : CoreState). then_also (without_messages k) (reads_all now port)) (nothing_changes port (with_unread piece) core none)
    ∙ nothing_is_read now port core none
takes_nothing (Ended port) core none = ends_nothing port core none
takes_nothing (Expel client) core none = proposes_nothing (commands.Expel client) core none
takes_nothing Cut core none = ap without_messages (cuts_nothing core none)
takes_nothing Crash core none = elim none [ ]

-- of a message that does nothing, the reports of connections that failed, if there are any, are all that
-- is done
pub turns_ignored : (message : Message Command) (a b : RunningStep) (x y : List (Effect Command Output)) → DoesNothing (Peer message) a.core →
    DoesOutcome a b x y (reports_all_failed a.core) → DoesOutcome a b x y (acts_on (Peer message) a.core)
turns_ignored message a b x y idle turns =
    subst (λ (t : StepOutcome). DoesOutcome a b x y t)
    (sym (ap (λ (t : StepOutcome). then_also t reports_all_failed) (takes_nothing (Peer message) a.core idle))) turns

pub ran_ignored : (message : Message Command) (a b : CoreState) (x y : List (Effect Command Output)) → DoesNothing (Peer message) a →
    StepPartOrLost ReportsAllFailed a b x y → StepPartOrLost (ActsOn (Peer message)) a b x y
ran_ignored message a b x y idle ran =
    ran_then (DoesItem (Peer message)) ReportsAllFailed a a b x x y
    (ran_without_effects (DoesItem (Peer message)) a a x (drives_idle (Receives message) a idle.0)) ran

-- if nothing failed there are none
pub quiet_ignored : (a b : RunningStep) → (find has_failed a.core.connections ≡ None → b ≡ a) → find has_failed a.core.connections ≡ None →
    b.has_lost ≡ a.has_lost
quiet_ignored a b none failed = ap (λ (r : RunningStep). r.has_lost) (none failed)

pub calm_then : (a b c : RunningStep) → WithoutFailure a b → (find has_failed b.core.connections ≡ None → c ≡ b) → find has_failed a.core.connections ≡ None →
    c.has_lost ≡ a.has_lost
calm_then a b c calm none failed = ap (λ (r : RunningStep). r.has_lost) (none (calm.failed failed)) ∙ calm.has_lost

-- what changes nothing loses nothing
pub stays_calmly : (a b : RunningStep) → b ≡ a → WithoutFailure a b
stays_calmly a b same = record {
  has_lost = ap (λ (r : RunningStep). r.has_lost) same;
  failed = λ none. ap (λ (r : RunningStep). find has_failed r.core.connections) same ∙ none;
}

-- the same of an item that is known
pub calmly_as : (item same : Item) (a b : RunningStep) → item ≡ same → (ItemTakesNoMemory same a.core → WithoutFailure a b) →
    ItemTakesNoMemory item a.core → WithoutFailure a b
calmly_as item same a b is calm takes = calm (subst (λ (i : Item). ItemTakesNoMemory i a.core) is takes)

-- a tick
pub tick_calmly : (now : ℕ) (a b c : RunningStep) → (IsIgnored Ticks a.core → b ≡ a) → (lowest_silent now b.core.connections ≡ None → c ≡ b) →
    IsIgnored Ticks a.core × (lowest_silent now a.core.connections ≡ None) → WithoutFailure a c
tick_calmly now a b c ticked ended idle =
    let same = ticked idle.0 in
    stays_calmly a c (ended (ap (λ (r : RunningStep). lowest_silent now r.core.connections) same ∙ idle.1) ∙ same)

-- a connection that is found is some
pub found_not_none : {X : Type 0} {P : Type 0} {c : X} (found : Option X) → found ≡ Some c → found ≡ None → P
found_not_none found is none = let f = sym is ∙ none in cc

-- a port without an open connection has nothing to be read
pub few_unread : (port : Port) (core : CoreState) → open_at port core ≡ None → unread_of (open_at port core) ≡ 0
few_unread port core none = ap unread_of none

-- bytes of a port without an open connection
pub bytes_calmly : (port : Port) (a b c : RunningStep) → (open_at port a.core ≡ None → b ≡ a) → (open_at port b.core ≡ None → c ≡ b) →
    open_at port a.core ≡ None → WithoutFailure a c
bytes_calmly port a b c held read none =
    let same = held none in
    stays_calmly a c (read (ap (λ (r : RunningStep). open_at port r.core) same ∙ none) ∙ same)

-- no other connection fails if one is closed
pub closing_fails_none : (test : Connection → Bool) (cs : List Connection) → find has_failed cs ≡ None → find has_failed (changed_where test closed_connection cs) ≡ None
closing_fails_none test [] none = refl
closing_fails_none test (c ∷ cs) none = by (test c) (has_failed c) refl (closing_fails_none test cs) none
  where
    by : (b failed : Bool) → has_failed c ≡ failed → (find has_failed cs ≡ None → find has_failed (changed_where test closed_connection cs) ≡ None) →
        (if failed then Some c else find has_failed cs) ≡ None → find has_failed (if b then closed_connection c ∷ cs else c ∷ changed_where test closed_connection cs) ≡ None
    by b true is rest some = absurd cc
    by true false is rest e = e
    by false false is rest e = rw is (rest e)

pub ended_calmly : (port : Port) (a b : RunningStep) →
    (was_proposed (open_at port a.core) ≡ false → b ≡ record a { core = changes port closed_connection a.core }) → was_proposed (open_at port a.core) ≡ false → WithoutFailure a b
unfolding changes
ended_calmly port a b closes unproposed =
    let done = closes unproposed in
    record {
      has_lost = ap (λ (r : RunningStep). r.has_lost) done;
      failed = λ none. ap (λ (r : RunningStep). find has_failed r.core.connections) done ∙ closing_fails_none (is_open_at port) a.core.connections none;
    }
