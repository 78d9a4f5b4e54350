-- ItemsRun.antt: what an item does if memory may have run out, and the step around it.
use Rattle.std.proofs.Common.{◌≡◌, ◌⊎◌, inl, inr, ℕ, Bool, true, false, not, if◌then◌else◌, List, None, refl, sym, ap, subst, ◌∙◌}
use Rattle.std.specs.List.{find}
use Rattle.std.proofs.lemmas.List.{append_cancel_left}
use Rattle.broker_spec.specs.declared.command.Command.{Command}
use Rattle.broker_spec.specs.declared.command.Output.{Output}
use Rattle.broker_base.specs.State.{State}
use Rattle.ballot_base.specs.declared.message.Effect.{Effect}
use Rattle.ballot_base.specs.Losses.{halted, one_more}
use Rattle.ballot_base.specs.Replica.{CountedReplica}
use Rattle.world_base.specs.declared.node_connections.port.Port.{Port}
use Rattle.world_base.specs.declared.node_core.item.Item.{Item}
use Rattle.world_base.specs.declared.node_core.item.Item.TheVariants.{Opened, Cut, Crash}
use Rattle.world_base.specs.node_connections.Connections.{has_failed}
use Rattle.world_base.specs.node_core.Core.{CoreState, CountedCore, StepOutcome, rules}
use Rattle.world_base.specs.node_core.Inside.{StepPartOrLost, RunningStep, DoesOutcome}
use Rattle.world_base.specs.node_core.Losses.{IsExactly, ItemStepOrLost, NodeStepOrLost, ItemTakesNoMemory}
use Rattle.world_base.specs.node_core.Lossy.{without_effects}
use Rattle.world_base.specs.node_core.LossyStep.{ActsOn, LogCutOrLost, AcceptsConnection, RunsOn, DoesItem}
use Rattle.world_base.specs.node_core.Step.{acts_on, node_step, with_next_connection, settled}
use Rattle.world_base.proofs.of_node_core.Accounts.{ran_without_effects}

pub ran_item : (item same : Item) (a b : CoreState) (x y : List (Effect Command Output)) → item ≡ same → StepPartOrLost (DoesItem same) a b x y →
    StepPartOrLost (DoesItem item) a b x y
ran_item item same a b x y is ran = subst (λ (i : Item). StepPartOrLost (DoesItem i) a b x y) (sym is) ran

opens_by : (port : Port) (a b : CoreState) → (b ≡ with_next_connection port a) ⊎ (b ≡ a) → AcceptsConnection port a (without_effects b)
opens_by port a b (inl e) = inl (ap without_effects e)
opens_by port a b (inr e) = inr (ap without_effects e)

pub ran_opened : (port : Port) (now : ℕ) (a b : CoreState) (x : List (Effect Command Output)) → (b ≡ with_next_connection port a) ⊎ (b ≡ a) →
    StepPartOrLost (DoesItem (Opened port now)) a b x x
ran_opened port now a b x did = ran_without_effects (DoesItem (Opened port now)) a b x (opens_by port a b did)

pub ran_cut : (a b : CoreState) (x : List (Effect Command Output)) → LogCutOrLost a (without_effects b) → StepPartOrLost (DoesItem Cut) a b x x
ran_cut a b x did = ran_without_effects (DoesItem Cut) a b x did

pub ran_crashed : (a : CoreState) (replica : CountedReplica State Command) (x : List (Effect Command Output)) →
    replica ≡ record a.replica { state = halted rules a.replica.state } → StepPartOrLost (DoesItem Crash) a (record a { replica = replica }) x x
ran_crashed a replica x is =
    ran_without_effects (DoesItem Crash) a (record a { replica = replica }) x
    (ap (λ (r : CountedReplica State Command). without_effects (record a { replica = r })) is)

-- ---- the step

exactly_by : (old : CountedCore) (a b : RunningStep) (outcome : StepOutcome) (new : CoreState) (losses : ℕ) (x y : List (Effect Command Output))
    (turns : DoesOutcome a b x y outcome) → new ≡ settled b.core → b.has_lost ≡ false → losses ≡ old.losses →
    IsExactly old (record { core = settled outcome.core; messages = outcome.messages }) (record { core = new; losses = losses }) turns.given
exactly_by old a b outcome new losses x y turns settles e counted =
    let did = turns.exact e in
    (settles ∙ ap (λ (r : RunningStep). settled r.core) did.0, did.1, counted)

steps_by : (old : CountedCore) (a b : RunningStep) (outcome : StepOutcome) (new : CoreState) (losses : ℕ) (x y : List (Effect Command Output))
    (turns : DoesOutcome a b x y outcome) → new ≡ settled b.core → (has_lost : Bool) → b.has_lost ≡ has_lost →
    losses ≡ (if has_lost then one_more old.losses else old.losses) →
    NodeStepOrLost old (record { core = settled outcome.core; messages = outcome.messages }) (record { core = new; losses = losses }) turns.given
steps_by old a b outcome new losses x y turns settles true e counted = inr counted
steps_by old a b outcome new losses x y turns settles false e counted = inl (exactly_by old a b outcome new losses x y turns settles e counted)

counted_by : (losses before : ℕ) (has_lost : Bool) → losses ≡ (if not has_lost then before else one_more before) →
    losses ≡ (if has_lost then one_more before else before)
counted_by losses before true e = e
counted_by losses before false e = e

pub stepped_by : (old : CountedCore) (item : Item) (a b : RunningStep) (new : CoreState) (losses : ℕ) (x y : List (Effect Command Output)) →
    a.core ≡ old.core → DoesOutcome a b x y (acts_on item a.core) → StepPartOrLost (ActsOn item) a.core b.core x y → new ≡ settled b.core →
    losses ≡ (if not b.has_lost then old.losses else one_more old.losses) → a.has_lost ≡ false →
    (ItemTakesNoMemory item a.core → find has_failed a.core.connections ≡ None → b.has_lost ≡ a.has_lost) →
    ItemStepOrLost old item (record { core = new; losses = losses }) x y
stepped_by old item a b new losses x y same turns ran settles counted_so calm quiet =
    let counted = counted_by losses old.losses b.has_lost counted_so in
    record {
      given = turns.given;
      appended = turns.appended;
      steps = subst (λ (k : CoreState). NodeStepOrLost old (node_step item k) (record { core = new; losses = losses }) turns.given) same
          (steps_by old a b (acts_on item a.core) new losses x y turns settles b.has_lost refl counted);
      uncounted = subst (λ (k : CoreState). ItemTakesNoMemory item k → find has_failed k.connections ≡ None →
          IsExactly old (node_step item k) (record { core = new; losses = losses }) turns.given) same
          (λ idle failed. let whole = quiet idle failed ∙ calm in
          exactly_by old a b (acts_on item a.core) new losses x y turns settles whole
          (subst (λ (w : Bool). losses ≡ (if w then one_more old.losses else old.losses)) whole counted));
      run = subst (λ (k : CoreState). RunsOn item k new turns.given) same
          (record {
            account = ran.account;
            acts = ran.runs;
            settles = settles ∙ ap settled ran.core;
            handed = append_cancel_left x turns.given ran.account.messages (sym turns.appended ∙ ran.appended);
          });
    }
