-- After no step a loss is still to be reported to the broker: each loss that is reported leaves one
-- fewer.
use Rattle.std.proofs.Common.{◌≡◌, ◌⊎◌, inl, inr, ◌≤◌, ◌<◌, ℕ, Bool, true, false, if◌then◌else◌, length, List, [], ◌∷◌, Option, Some, None, refl, arith}
use Rattle.std.specs.List.{find}
use Rattle.broker_spec.specs.declared.command.Command.TheVariants as commands
use Rattle.lists.specs.Lists.{Each}
use Rattle.world_base.specs.declared.node_connections.connection.Connection.{Connection}
use Rattle.world_base.specs.declared.node_connections.connection.ConnectionStage.{ConnectionStage}
use Rattle.world_base.specs.declared.node_connections.connection.ConnectionStage.TheVariants.{Awaits, Proposed, Closed, Failed}
use Rattle.world_base.specs.node_connections.Connections.{is_proposed, is_failed, has_failed}
use Rattle.world_base.specs.node_connections.ConnectionChanges.{closed_connection}
use Rattle.world_base.specs.node_core.Core.{CoreState}
use Rattle.world_base.specs.node_core.FailedConnections.{closes_failed, reports_failed, reports_if}
use Rattle.world_base.specs.node_core.Step.{acts_on, does_item}
use Rattle.world_base.specs.node_core.Effects.{without_messages, proposes}
use Rattle.headline.specs.node_moves.Settled.{EachLossIsReported}
use Rattle.headline.proofs.of_node_moves.EachKept.{each_settled}
use Rattle.headline.proofs.of_node_moves.NamesInOrder.{same_le}
use Rattle.headline.proofs.of_node_moves.Views.{found_passes, some_none}
use Rattle.headline.proofs.of_node_moves.Weights.{IsLight, put_or_failing, total, total_few, total_lowered, total_proposed, comes_to_end}

abbrev untold : ConnectionStage → ℕ
untold Awaits = 1
untold Proposed = 1
untold Closed = 0
untold Failed = 1

abbrev untold_weight : Connection → ℕ
untold_weight c = untold c.stage

one_untold : (s : ConnectionStage) → untold s ≤ 1
one_untold Awaits = omega arith
one_untold Proposed = omega arith
one_untold Closed = omega arith
one_untold Failed = omega arith

failing_untold : (s : ConnectionStage) → untold (if is_proposed s then Failed else Closed) ≤ untold s
failing_untold Awaits = omega arith
failing_untold Proposed = omega arith
failing_untold Closed = omega arith
failing_untold Failed = omega arith

untold_light : IsLight untold_weight
untold_light =
    record {
      shut = λ c. nothing (untold c.stage);
      put = λ bytes c. put_or_failing (λ d. untold_weight d ≤ untold_weight c) bytes c (same_le (untold c.stage)) (failing_untold c.stage);
    }
  where
    nothing : (n : ℕ) → 0 ≤ n
    nothing n = omega arith

untold_drops : (s : ConnectionStage) → is_failed s ≡ true → 0 < untold s
untold_drops Awaits e = absurd cc
untold_drops Proposed e = absurd cc
untold_drops Closed e = absurd cc
untold_drops Failed e = omega arith

none_found : (test : Connection → Bool) (cs : List Connection) → find test cs ≡ None → Each (λ (c : Connection). test c ≡ false) cs
none_found test [] e = tt
none_found test (c ∷ cs) e = by (test c) refl (none_found test cs) e
  where
    by : (b : Bool) → test c ≡ b → (find test cs ≡ None → Each (λ (d : Connection). test d ≡ false) cs) → (if b then Some c else find test cs) ≡ None
        → Each (λ (d : Connection). test d ≡ false) (c ∷ cs)
    by true is rest f = absurd (some_none c f)
    by false is rest f = (is, rest f)

abbrev NoneFailed : CoreState → Type 0
NoneFailed core = Each (λ (c : Connection). has_failed c ≡ false) core.connections

failed_step : (core : CoreState) → (NoneFailed core × (reports_failed core ≡ without_messages core))
    ⊎ (total untold_weight (reports_failed core).core.connections < total untold_weight core.connections)
unfolding reports_failed
failed_step core = by (find has_failed core.connections) refl
  where
    lowers : (c : Connection) → find has_failed core.connections ≡ Some c
        → total untold_weight (proposes (commands.Lost c.name) (closes_failed core)).core.connections < total untold_weight core.connections
    lowers c at =
        let less = total_lowered untold_weight has_failed closed_connection core.connections c at (untold_drops c.stage (found_passes has_failed core.connections c at)) in
        let most = total_proposed untold_weight untold_light (commands.Lost c.name) (closes_failed core) in
        omega (arith, less, most)

    by : (o : Option Connection) → find has_failed core.connections ≡ o → (NoneFailed core × (reports_if o core ≡ without_messages core))
        ⊎ (total untold_weight (reports_if o core).core.connections < total untold_weight core.connections)
    by None e = inl (none_found has_failed core.connections e, refl)
    by (Some c) e = inr (lowers c e)

pub each_loss_is_reported : EachLossIsReported
each_loss_is_reported item core =
    each_settled (λ (c : Connection). has_failed c ≡ false) (λ c other. refl) (acts_on item core).core
    (comes_to_end reports_failed NoneFailed untold_weight failed_step (length taken.connections) taken
    (total_few untold_weight taken.connections (λ c. one_untold c.stage)))
  where
    taken : CoreState
    taken = (does_item item core).core
