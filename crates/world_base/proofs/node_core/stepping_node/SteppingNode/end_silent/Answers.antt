use Rattle.std.proofs.Common.{◌≡◌, ◌≤◌, ℕ, suc, ◌+◌, length, refl, sym, subst, ◌∙◌, arith}
use Rattle.world_base.specs.node_core.Inside.{StepPartOrLost, DoesOutcome}
use Rattle.world_base.specs.node_core.KeepAlive.{ends_silent}
use Rattle.world_base.specs.node_core.Lossy.{Repeated}
use Rattle.world_base.specs.node_core.LossyStep.{EndsAllSilent}
use Rattle.world_base.specs.node_core.LossyEndings.{EndsSilent}
use Rattle.world_base.specs.node_core.Effects.{repeated}
use Rattle.world_base.proofs.of_node_core.Accounts.{ran_as, ran_enough, ran_more, ran_none}
use Rattle.world_base.proofs.of_node_core.EndsRun.{idle_silent, ran_silent}
use Rattle.world_base.proofs.of_node_core.Repeats.{repeats_none, repeats_more, repeats_enough}
use Rattle.world_base.proofs.of_node_core.Silences.{silent_none, silent_again, turns_silent}
use Rattle.world_base.proofs.node_core.stepping_node.SteppingNode.end_silent.Goals as goal

pub loop-connection-init : goal.loop-connection-init
loop-connection-init c = record {
  exact = repeats_none (ends_silent c.args.now) c.args.self.now c.args.effects.now.items;
  lossy = ran_none (EndsSilent c.args.now) c.args.self.now.core c.args.effects.now.items;
  none = λ _. refl;
}

-- none is silent any more
pub returns-in_default-clause-exact : goal.returns-in_default-clause-exact
returns-in_default-clause-exact c =
    let few : c.loop-connection._connection ≤ length c.args.self.now.core.connections =
    omega (arith, c.loop-connection-test.true, c.listed-connection-end.ensures) in
    repeats_enough (ends_silent c.args.now) c.loop-connection._connection (length c.args.self.now.core.connections)
    c.args.self.now c.loop-connection.self c.args.effects.now.items c.loop-connection.effects.items few
    c.loop-connection.invariant.exact
    (λ _. silent_none c.args.now c.loop-connection.self.core (sym c.lowest_silent.ensures ∙ c.in_default.is))

pub returns-in_default-clause-lossy : goal.returns-in_default-clause-lossy
returns-in_default-clause-lossy c =
    let few : c.loop-connection._connection ≤ length c.args.self.now.core.connections =
    omega (arith, c.loop-connection-test.true, c.listed-connection-end.ensures) in
    ran_as (Repeated (length c.args.self.now.core.connections) (EndsSilent c.args.now)) (EndsAllSilent c.args.now)
    c.args.self.now.core c.args.self.now.core _ _ _ (λ account runs. runs)
    (ran_enough (EndsSilent c.args.now) c.loop-connection._connection (length c.args.self.now.core.connections)
    c.args.self.now.core c.loop-connection.self.core c.args.effects.now.items c.loop-connection.effects.items few
    c.loop-connection.invariant.lossy
    (idle_silent c.args.now c.loop-connection.self.core (sym c.lowest_silent.ensures ∙ c.in_default.is)))

pub loop-connection-preserved : goal.loop-connection-preserved
loop-connection-preserved c =
    let one_more : suc c.loop-connection._connection ≡ c.loop-connection._connection + 1 = omega arith in
    record {
      exact = subst (λ (k : ℕ). DoesOutcome c.args.self.now c.end.new.self c.args.effects.now.items c.end.new.effects.items
          (repeated k (ends_silent c.args.now) c.args.self.now.core)) one_more
          (repeats_more (ends_silent c.args.now) c.loop-connection._connection c.args.self.now c.loop-connection.self c.end.new.self
          c.args.effects.now.items c.loop-connection.effects.items c.end.new.effects.items c.loop-connection.invariant.exact
          (turns_silent c.args.now c.in-Some.port c.loop-connection.self c.end.new.self c.loop-connection.effects.items c.end.new.effects.items
          (sym c.lowest_silent.ensures ∙ c.in-Some.is) c.end.ensures.exact));
      lossy = subst (λ (k : ℕ). StepPartOrLost (Repeated k (EndsSilent c.args.now)) c.args.self.now.core c.end.new.self.core
          c.args.effects.now.items c.end.new.effects.items) one_more
          (ran_more (EndsSilent c.args.now) c.loop-connection._connection c.args.self.now.core c.loop-connection.self.core c.end.new.self.core
          c.args.effects.now.items c.loop-connection.effects.items c.end.new.effects.items c.loop-connection.invariant.lossy
          (ran_silent c.args.now c.in-Some.port c.loop-connection.self.core c.end.new.self.core c.loop-connection.effects.items c.end.new.effects.items
          (sym c.lowest_silent.ensures ∙ c.in-Some.is) c.end.ensures.lossy));
      none = λ none. silent_again c.args.now c.in-Some.port c.args.self.now c.loop-connection.self c.loop-connection.invariant.none
          (sym c.lowest_silent.ensures ∙ c.in-Some.is) none;
    }
