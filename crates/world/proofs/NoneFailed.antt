-- NoneFailed.antt: a step, exact or not, leaves no connection that failed and is still to be reported to the broker.
-- Each report closes one connection for good, none is ever opened again by it, and there are as many reports as connections.
use Rattle.std.proofs.Common.{◌≡◌, ◌⊎◌, inl, inr, ℕ, zero, suc, ◌+◌, ◌≤◌, nat_le, Bool, true, false, if◌then◌else◌, List, [], ◌∷◌, Option, Some, None, length, map, filter, refl, ◌∙◌, sym, ap, subst, arith}
use Rattle.std.proofs.lemmas.Bool.{false≢true}
use Rattle.std.specs.List.{find, fold}
use Rattle.broker_spec.specs.Connection.{ConnectionName}
use Rattle.broker_spec.specs.declared.command.Command.{Command}
use Rattle.broker_spec.specs.declared.command.Command.TheVariants as commands
use Rattle.broker_spec.specs.declared.command.Output.{Output}
use Rattle.broker_spec.specs.declared.command.Output.TheVariants as outputs
use Rattle.ballot_base.specs.declared.message.Effect.{Effect}
use Rattle.ballot_base.specs.declared.message.Effect.TheVariants.{To, Out}
use Rattle.ballot_base.specs.Service.{proposed}
use Rattle.packet.specs.Spelling.{spelling}
use Rattle.world_base.specs.declared.node_connections.port.Port.{Port}
use Rattle.world_base.specs.declared.node_core.item.Item.{Item}
use Rattle.world_base.specs.declared.node_connections.connection.Connection.{Connection}
use Rattle.world_base.specs.declared.node_connections.connection.ConnectionStage.{ConnectionStage}
use Rattle.world_base.specs.declared.node_connections.connection.ConnectionStage.TheVariants.{Awaits, Proposed, Closed, Failed}
use Rattle.world_base.specs.node_connections.Connections.{has_failed, is_at, is_failed, is_listed, is_open_named, is_proposed}
use Rattle.world_base.specs.node_connections.ConnectionChanges.{changed_where, closed_connection, failing, max_pending, nothing_pending, putting, with_queued}
use Rattle.world_base.specs.node_core.Core.{CoreState, StepOutcome, rules, serves}
use Rattle.world_base.specs.node_core.Effects.{after_replica_step, changes_named, performed_by, proposes, repeated, with_effect, without_messages}
use Rattle.world_base.specs.node_core.FailedConnections.{closes_failed, reports_failed, reports_if}
use Rattle.world_base.specs.node_core.Lossy.{Account, HandlesAll, Performs, Repeated, without_effects}
use Rattle.world_base.specs.node_core.Lossy.HandlesAll.{nothing, does, sends, loses}
use Rattle.world_base.specs.node_core.LossyEndings.{ReportsFailed}
use Rattle.world_base.specs.node_core.LossyEndings.ReportsFailed.{none_failed, tells_one}
use Rattle.world_base.specs.node_core.LossyProposals.{Declines, ProposesCommand}
use Rattle.world_base.specs.node_core.LossyProposals.Declines.{no_room, forgets, stops}
use Rattle.world_base.specs.node_core.LossyStep.{RunsOn}
use Rattle.world_base.specs.node_core.PortOutput.{hands_over, left_by, listed_at}
use Rattle.world_base.specs.node_core.Step.{acts_on, does_item, node_step, settled}
use Rattle.world_base.proofs.of_node_core.Failures.{failed_next}
use Rattle.world_base.proofs.of_node_core.Idle.{repeated_without_messages}
use Rattle.world.specs.Theorems.{HasNoneFailed}

-- ---- numbers

at_least_0 : (n : ℕ) → 0 ≤ n
at_least_0 n = omega arith

no_more : (n : ℕ) → n ≤ n
no_more n = omega arith

still_less : (a b c : ℕ) → a ≤ b → b ≤ c → a ≤ c
still_less a b c first next = omega (arith, first, next)

one_less : (a b c : ℕ) → a ≤ b → suc b ≤ c → suc a ≤ c
one_less a b c first next = omega (arith, first, next)

first_less : (a b rest : ℕ) → a ≤ b → a + rest ≤ b + rest
first_less a b rest less = omega (arith, less)

rest_less : (first a b : ℕ) → a ≤ b → first + a ≤ first + b
rest_less first a b less = omega (arith, less)

rest_one_less : (first a b : ℕ) → suc a ≤ b → suc (first + a) ≤ first + b
rest_one_less first a b less = omega (arith, less)

both_less : (first a b : ℕ) → first ≤ 1 → a ≤ b → first + a ≤ suc b
both_less first a b one less = omega (arith, one, less)

first_one_less : (first rest : ℕ) → first ≡ 1 → suc (0 + rest) ≤ first + rest
first_one_less first rest one = omega (arith, one)

-- ---- connections that are not closed for good

-- 0 for a connection that is closed for good, and 1 for any other
abbrev weight_of : ConnectionStage → ℕ
weight_of Awaits = 1
weight_of Proposed = 1
weight_of Closed = 0
weight_of Failed = 1

-- how many are not closed for good
abbrev weight : List Connection → ℕ
weight [] = 0
weight (c ∷ cs) = weight_of c.stage + weight cs

most_1 : (stage : ConnectionStage) → weight_of stage ≤ 1
most_1 Awaits = no_more 1
most_1 Proposed = no_more 1
most_1 Closed = at_least_0 1
most_1 Failed = no_more 1

weight_most : (cs : List Connection) → weight cs ≤ length cs
weight_most [] = no_more 0
weight_most (c ∷ cs) =
    let one : weight_of c.stage ≤ 1 = most_1 c.stage in
    let rest : weight cs ≤ length cs = weight_most cs in
    both_less (weight_of c.stage) (weight cs) (length cs) one rest

failed_weight : (stage : ConnectionStage) → is_failed stage ≡ true → weight_of stage ≡ 1
failed_weight Awaits failed = absurd (false≢true failed)
failed_weight Proposed failed = absurd (false≢true failed)
failed_weight Closed failed = absurd (false≢true failed)
failed_weight Failed failed = refl

-- a change that opens no connection again
abbrev Lightens : (Connection → Connection) → Type 0
Lightens change = (c : Connection) → weight_of (change c).stage ≤ weight_of c.stage

closed_lightens : Lightens closed_connection
closed_lightens c = at_least_0 (weight_of c.stage)

failing_stage : (stage : ConnectionStage) → weight_of (if is_proposed stage then Failed else Closed) ≤ weight_of stage
failing_stage Awaits = at_least_0 1
failing_stage Proposed = no_more 1
failing_stage Closed = no_more 0
failing_stage Failed = at_least_0 1

failing_lightens : Lightens failing
failing_lightens c = failing_stage c.stage

queued_lightens : (bytes : List ℕ) → Lightens (with_queued bytes)
queued_lightens bytes c = by (nat_le (length c.pending + length bytes) max_pending)
  where
    by : (b : Bool) → weight_of (let d : Connection = if b then putting bytes c else failing c in d).stage ≤ weight_of c.stage
    by true = no_more (weight_of c.stage)
    by false = failing_lightens c

changed_lightens : (test : Connection → Bool) (change : Connection → Connection) (cs : List Connection) → Lightens change
    → weight (changed_where test change cs) ≤ weight cs
changed_lightens test change [] lightens = no_more 0
changed_lightens test change (c ∷ cs) lightens = by (test c) (changed_lightens test change cs lightens)
  where
    by : (b : Bool) → weight (changed_where test change cs) ≤ weight cs
        → weight (if b then change c ∷ cs else c ∷ changed_where test change cs) ≤ weight_of c.stage + weight cs
    by true rest = first_less (weight_of (change c).stage) (weight_of c.stage) (weight cs) (lightens c)
    by false rest = rest_less (weight_of c.stage) (weight (changed_where test change cs)) (weight cs) rest

-- ---- what the replica gave

named_lightens : (name : ConnectionName) (change : Connection → Connection) (core : CoreState) → Lightens change
    → weight (changes_named name change core).connections ≤ weight core.connections
unfolding changes_named
named_lightens name change core lightens = changed_lightens (is_open_named name) change core.connections lightens

performed_lightens : (output : Output) (core : CoreState) → weight (performed_by output core).connections ≤ weight core.connections
performed_lightens (outputs.Send name packet) core = named_lightens name (with_queued (spelling packet)) core (queued_lightens (spelling packet))
performed_lightens (outputs.Close name) core = named_lightens name closed_connection core closed_lightens

-- another state with the same connections as one that is lighter
light_as : (core same new : CoreState) → new ≡ same → weight same.connections ≤ weight core.connections → weight new.connections ≤ weight core.connections
light_as core same new is lighter = subst (λ (k : CoreState). weight k.connections ≤ weight core.connections) (sym is) lighter

performs_lightens : (output : Output) (core new : CoreState) → Performs output core new → weight new.connections ≤ weight core.connections
performs_lightens (outputs.Send name packet) core new (inl is) = light_as core (performed_by (outputs.Send name packet) core) new is (performed_lightens (outputs.Send name packet) core)
performs_lightens (outputs.Send name packet) core new (inr is) = light_as core (changes_named name failing core) new is (named_lightens name failing core failing_lightens)
performs_lightens (outputs.Close name) core new is = light_as core (performed_by (outputs.Close name) core) new is (performed_lightens (outputs.Close name) core)

handles_lightens : (given : List (Effect Command Output)) (core new : CoreState) (messages : List (Effect Command Output))
    → HandlesAll given core new messages → weight new.connections ≤ weight core.connections
handles_lightens _ core _ _ nothing = no_more (weight core.connections)
handles_lightens _ core new _ (does {place} {output} {core = k} {next = next} {given = given} served more) =
    still_less (weight new.connections) (weight next.connections) (weight core.connections)
    (handles_lightens given next new _ more) (performs_lightens output core next served)
handles_lightens _ core new _ (sends {receiver} {message} {given = given} more) = handles_lightens given core new _ more
handles_lightens _ core new _ (loses {receiver} {message} {given = given} more) = handles_lightens given core new _ more

effect_lightens : (core : CoreState) (effect : Effect Command Output) → weight (with_effect core effect).connections ≤ weight core.connections
effect_lightens core (Out place output) = performed_lightens output core
effect_lightens core (To receiver message) = no_more (weight core.connections)

effects_lighten : (effects : List (Effect Command Output)) (core : CoreState) → weight (fold with_effect core effects).connections ≤ weight core.connections
effects_lighten [] core = no_more (weight core.connections)
effects_lighten (effect ∷ effects) core =
    still_less (weight (fold with_effect (with_effect core effect) effects).connections) (weight (with_effect core effect).connections) (weight core.connections)
    (effects_lighten effects (with_effect core effect)) (effect_lightens core effect)

-- ---- proposals

declines_lightens : (core : CoreState) (account : Account) → Declines core account → weight account.core.connections ≤ weight core.connections
declines_lightens core account (no_room room is) = light_as core core account.core (ap (λ (a : Account). a.core) is) (no_more (weight core.connections))
declines_lightens core account (forgets room is) =
    subst (λ (a : Account). weight a.core.connections ≤ weight core.connections) (sym is) (no_more (weight core.connections))
declines_lightens core account (stops room is) =
    subst (λ (a : Account). weight a.core.connections ≤ weight core.connections) (sym is) (no_more (weight core.connections))

proposes_lightens : (command : Command) (core : CoreState) (account : Account) → ProposesCommand command core account
    → weight account.core.connections ≤ weight core.connections
proposes_lightens command core account (inl takes) =
    handles_lightens account.given (record core { replica = takes.replica }) account.core account.messages takes.handles
proposes_lightens command core account (inr declines) = declines_lightens core account declines

proposed_lightens : (command : Command) (core : CoreState) → weight (proposes command core).core.connections ≤ weight core.connections
unfolding proposes
proposed_lightens command core = by (serves core)
  where
    by : (b : Bool) → weight (let t : StepOutcome = if b then after_replica_step (proposed rules core.replica.state command) core else without_messages core in t).core.connections
        ≤ weight core.connections
    by true = effects_lighten (proposed rules core.replica.state command).effects (record core { replica = record core.replica { state = (proposed rules core.replica.state command).state } })
    by false = no_more (weight core.connections)

-- ---- reports

-- to close the first that failed closes one for good
closes_one : (cs : List Connection) (c : Connection) → find has_failed cs ≡ Some c → suc (weight (changed_where has_failed closed_connection cs)) ≤ weight cs
closes_one [] c found = absurd cc
closes_one (d ∷ cs) c found = by (has_failed d) refl found (closes_one cs c)
  where
    by : (b : Bool) → has_failed d ≡ b → (if b then Some d else find has_failed cs) ≡ Some c
        → (find has_failed cs ≡ Some c → suc (weight (changed_where has_failed closed_connection cs)) ≤ weight cs)
        → suc (weight (if b then closed_connection d ∷ cs else d ∷ changed_where has_failed closed_connection cs)) ≤ weight_of d.stage + weight cs
    by true failed f rest = first_one_less (weight_of d.stage) (weight cs) (failed_weight d.stage failed)
    by false failed f rest = rest_one_less (weight_of d.stage) (weight (changed_where has_failed closed_connection cs)) (weight cs) (rest f)

-- where all are closed for good none has failed
none_left : (cs : List Connection) → weight cs ≤ 0 → find has_failed cs ≡ None
none_left [] all = refl
none_left (c ∷ cs) all = by (has_failed c) refl (none_left cs)
  where
    here : weight_of c.stage + weight cs ≤ 0
    here = all

    by : (b : Bool) → has_failed c ≡ b → (weight cs ≤ 0 → find has_failed cs ≡ None) → (if b then Some c else find has_failed cs) ≡ None
    by true failed rest = let one : weight_of c.stage ≡ 1 = failed_weight c.stage failed in absurd (omega (arith, here, one))
    by false failed rest = rest (omega (arith, here))

-- none failed in a state that is this one
none_as : (core new : CoreState) → new ≡ core → HasNoneFailed core → HasNoneFailed new
none_as core new is none = subst (λ (k : CoreState). HasNoneFailed k) (sym is) none

-- ---- reports, if memory may run out

report_lightens : (core : CoreState) (account : Account) → ReportsFailed core account
    → (HasNoneFailed core × (account ≡ without_effects core)) ⊎ (suc (weight account.core.connections) ≤ weight core.connections)
report_lightens core account (none_failed none is) = inl (none, is)
report_lightens core account (tells_one c found told) =
    inr (one_less (weight account.core.connections) (weight (closes_failed core).connections) (weight core.connections)
    (proposes_lightens (commands.Lost c.name) (closes_failed core) account told) (closes_one core.connections c found))

reports_nothing : (core : CoreState) (account : Account) → HasNoneFailed core → ReportsFailed core account → account ≡ without_effects core
reports_nothing core account none (none_failed same is) = is
reports_nothing core account none (tells_one c found told) = absurd cc

reports_no_more : (n : ℕ) (core : CoreState) (account : Account) → HasNoneFailed core → Repeated n ReportsFailed core account → account.core ≡ core
reports_no_more zero core account none is = ap (λ (a : Account). a.core) is
reports_no_more (suc n) core account none did =
    let same : did.one.core ≡ core = ap (λ (a : Account). a.core) (reports_nothing core did.one none did.first) in
    ap (λ (a : Account). a.core) did.is ∙ (reports_no_more n did.one.core did.two (none_as core did.one.core same none) did.next ∙ same)

all_reported : (n : ℕ) (core : CoreState) (account : Account) → weight core.connections ≤ n → Repeated n ReportsFailed core account → HasNoneFailed account.core
all_reported zero core account few is = none_as core account.core (ap (λ (a : Account). a.core) is) (none_left core.connections few)
all_reported (suc n) core account few did =
    none_as did.two.core account.core (ap (λ (a : Account). a.core) did.is)
    (by (report_lightens core did.one did.first) (λ (less : weight did.one.core.connections ≤ n). all_reported n did.one.core did.two less did.next))
  where
    by : (HasNoneFailed core × (did.one ≡ without_effects core)) ⊎ (suc (weight did.one.core.connections) ≤ weight core.connections)
        → (weight did.one.core.connections ≤ n → HasNoneFailed did.two.core) → HasNoneFailed did.two.core
    by (inl idle) rest =
        let there : HasNoneFailed did.one.core = none_as core did.one.core (ap (λ (a : Account). a.core) idle.1) idle.0 in
        none_as did.one.core did.two.core (reports_no_more n did.one.core did.two there did.next) there
    by (inr less) rest = rest (omega (arith, less, few))

-- ---- reports, exactly

report_closes : (core : CoreState) (c : Connection) → find has_failed core.connections ≡ Some c → suc (weight (reports_failed core).core.connections) ≤ weight core.connections
unfolding reports_failed
report_closes core c found =
    subst (λ (o : Option Connection). suc (weight (reports_if o core).core.connections) ≤ weight core.connections) (sym found)
    (one_less (weight (proposes (commands.Lost c.name) (closes_failed core)).core.connections) (weight (closes_failed core).connections) (weight core.connections)
    (proposed_lightens (commands.Lost c.name) (closes_failed core)) (closes_one core.connections c found))

reported_exactly : (n : ℕ) (core : CoreState) → weight core.connections ≤ n → HasNoneFailed (repeated n reports_failed core).core
unfolding repeated
reported_exactly zero core few = none_left core.connections few
reported_exactly (suc n) core few = by (find has_failed core.connections) refl (reported_exactly n (reports_failed core).core)
  where
    by : (o : Option Connection) → find has_failed core.connections ≡ o
        → (weight (reports_failed core).core.connections ≤ n → HasNoneFailed (repeated n reports_failed (reports_failed core).core).core)
        → HasNoneFailed (repeated (suc n) reports_failed core).core
    by None none rest =
        none_as core (repeated (suc n) reports_failed core).core
        (ap (λ (t : StepOutcome). t.core) (repeated_without_messages reports_failed (suc n) core (failed_next core none))) none
    by (Some c) found rest = let less = report_closes core c found in rest (omega (arith, less, few))

-- ---- the end of a step

filtered_none : (keep : Connection → Bool) (cs : List Connection) → find has_failed cs ≡ None → find has_failed (filter keep cs) ≡ None
filtered_none keep [] none = refl
filtered_none keep (c ∷ cs) none = by (has_failed c) (keep c) refl none (filtered_none keep cs)
  where
    by : (failed kept : Bool) → has_failed c ≡ failed → (if failed then Some c else find has_failed cs) ≡ None
        → (find has_failed cs ≡ None → find has_failed (filter keep cs) ≡ None)
        → find has_failed (if kept then c ∷ filter keep cs else filter keep cs) ≡ None
    by true kept is some left = absurd cc
    by false true is rest left = subst (λ (b : Bool). (if b then Some c else find has_failed (filter keep cs)) ≡ None) (sym is) (left rest)
    by false false is rest left = left rest

closed_none : (cs : List Connection) → find has_failed (map closed_connection cs) ≡ None
closed_none [] = refl
closed_none (c ∷ cs) = closed_none cs

settled_none : (core : CoreState) → HasNoneFailed core → HasNoneFailed (settled core)
unfolding settled
settled_none core none =
    filtered_none is_listed (let cs : List Connection = if serves core then core.connections else map closed_connection core.connections in cs) (by (serves core))
  where
    by : (b : Bool) → find has_failed (let cs : List Connection = if b then core.connections else map closed_connection core.connections in cs) ≡ None
    by true = none
    by false = closed_none core.connections

-- ---- steps

pub losing_none_failed : (item : Item) (old new : CoreState) (messages : List (Effect Command Output)) → RunsOn item old new messages → HasNoneFailed new
losing_none_failed item old new messages run =
    let did = run.acts in
    let reported : HasNoneFailed did.two.core =
    all_reported (length did.one.core.connections) did.one.core did.two (weight_most did.one.core.connections) did.next in
    none_as (settled run.account.core) new run.settles
    (settled_none run.account.core (none_as did.two.core run.account.core (ap (λ (a : Account). a.core) did.is) reported))

pub step_none_failed : (item : Item) (core : CoreState) → HasNoneFailed (node_step item core).core
step_none_failed item core =
    let done = (does_item item core).core in
    settled_none (acts_on item core).core (reported_exactly (length done.connections) done (weight_most done.connections))

-- ---- bytes that are handed over

pending_none : (test : Connection → Bool) (cs : List Connection) → find has_failed cs ≡ None → find has_failed (changed_where test nothing_pending cs) ≡ None
pending_none test [] none = refl
pending_none test (c ∷ cs) none = by (has_failed c) (test c) refl none (pending_none test cs)
  where
    by : (failed tested : Bool) → has_failed c ≡ failed → (if failed then Some c else find has_failed cs) ≡ None
        → (find has_failed cs ≡ None → find has_failed (changed_where test nothing_pending cs) ≡ None)
        → find has_failed (if tested then nothing_pending c ∷ cs else c ∷ changed_where test nothing_pending cs) ≡ None
    by true tested is some left = absurd cc
    by false true is rest left = subst (λ (b : Bool). (if b then Some (nothing_pending c) else find has_failed cs) ≡ None) (sym is) rest
    by false false is rest left = subst (λ (b : Bool). (if b then Some c else find has_failed (changed_where test nothing_pending cs)) ≡ None) (sym is) (left rest)

pub handed_none_failed : (port : Port) (core : CoreState) → HasNoneFailed core → HasNoneFailed (hands_over port core)
unfolding hands_over
handed_none_failed port core none = by (listed_at port core)
  where
    by : (o : Option Connection) → HasNoneFailed (left_by port core o)
    by None = none
    by (Some c) = filtered_none is_listed (changed_where (is_at port) nothing_pending core.connections) (pending_none (is_at port) core.connections none)
