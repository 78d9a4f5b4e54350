use Rattle.std.proofs.Common.{◌≡◌, ◌≤◌, ℕ, suc, ◌+◌, length, refl, subst, arith}
use Rattle.world_base.specs.node_core.FailedConnections.{reports_failed}
use Rattle.world_base.specs.node_core.Inside.{StepPartOrLost, DoesOutcome}
use Rattle.world_base.specs.node_core.Lossy.{Repeated}
use Rattle.world_base.specs.node_core.LossyStep.{ReportsAllFailed}
use Rattle.world_base.specs.node_core.LossyEndings.{ReportsFailed}
use Rattle.world_base.specs.node_core.Effects.{repeated}
use Rattle.world_base.proofs.of_node_core.Accounts.{ran_as, ran_enough, ran_more, ran_none}
use Rattle.world_base.proofs.of_node_core.Failures.{none_again}
use Rattle.world_base.proofs.of_node_core.Repeats.{repeats_none, repeats_more, repeats_enough}
use Rattle.world_base.proofs.node_core.stepping_node.SteppingNode.report_failed.Goals as goal

pub loop-connection-init : goal.loop-connection-init
loop-connection-init c = record {
  exact = repeats_none reports_failed c.args.self.now c.args.effects.now.items;
  lossy = ran_none ReportsFailed c.args.self.now.core c.args.effects.now.items;
  none = λ _. refl;
}

-- none is left that failed
pub returns-then-not-report_one_failed-clause-exact : goal.returns-then-not-report_one_failed-clause-exact
returns-then-not-report_one_failed-clause-exact c =
    let few : suc c.loop-connection._connection ≤ length c.args.self.now.core.connections =
    omega (arith, c.loop-connection-test.true, c.listed-connection-end.ensures) in
    repeats_enough reports_failed (suc c.loop-connection._connection) (length c.args.self.now.core.connections)
    c.args.self.now c.report_one_failed.new.self c.args.effects.now.items c.report_one_failed.new.effects.items few
    (repeats_more reports_failed c.loop-connection._connection c.args.self.now c.loop-connection.self c.report_one_failed.new.self
    c.args.effects.now.items c.loop-connection.effects.items c.report_one_failed.new.effects.items
    c.loop-connection.invariant.exact c.report_one_failed.ensures.exact)
    (λ _. c.report_one_failed.ensures.done c.if-not-report_one_failed.true)

pub returns-then-not-report_one_failed-clause-lossy : goal.returns-then-not-report_one_failed-clause-lossy
returns-then-not-report_one_failed-clause-lossy c =
    let few : suc c.loop-connection._connection ≤ length c.args.self.now.core.connections =
    omega (arith, c.loop-connection-test.true, c.listed-connection-end.ensures) in
    ran_as (Repeated (length c.args.self.now.core.connections) ReportsFailed) ReportsAllFailed
    c.args.self.now.core c.args.self.now.core _ _ _ (λ account runs. runs)
    (ran_enough ReportsFailed (suc c.loop-connection._connection) (length c.args.self.now.core.connections)
    c.args.self.now.core c.report_one_failed.new.self.core c.args.effects.now.items c.report_one_failed.new.effects.items few
    (ran_more ReportsFailed c.loop-connection._connection c.args.self.now.core c.loop-connection.self.core c.report_one_failed.new.self.core
    c.args.effects.now.items c.loop-connection.effects.items c.report_one_failed.new.effects.items
    c.loop-connection.invariant.lossy c.report_one_failed.ensures.lossy)
    (c.report_one_failed.ensures.idle c.if-not-report_one_failed.true))

pub loop-connection-preserved : goal.loop-connection-preserved
loop-connection-preserved c =
    let one_more : suc c.loop-connection._connection ≡ c.loop-connection._connection + 1 = omega arith in
    record {
      exact = subst (λ (k : ℕ). DoesOutcome c.args.self.now c.report_one_failed.new.self c.args.effects.now.items c.report_one_failed.new.effects.items
          (repeated k reports_failed c.args.self.now.core)) one_more
          (repeats_more reports_failed c.loop-connection._connection c.args.self.now c.loop-connection.self c.report_one_failed.new.self
          c.args.effects.now.items c.loop-connection.effects.items c.report_one_failed.new.effects.items
          c.loop-connection.invariant.exact c.report_one_failed.ensures.exact);
      lossy = subst (λ (k : ℕ). StepPartOrLost (Repeated k ReportsFailed) c.args.self.now.core c.report_one_failed.new.self.core
          c.args.effects.now.items c.report_one_failed.new.effects.items) one_more
          (ran_more ReportsFailed c.loop-connection._connection c.args.self.now.core c.loop-connection.self.core c.report_one_failed.new.self.core
          c.args.effects.now.items c.loop-connection.effects.items c.report_one_failed.new.effects.items
          c.loop-connection.invariant.lossy c.report_one_failed.ensures.lossy);
      none = none_again c.args.self.now c.loop-connection.self c.report_one_failed.new.self c.loop-connection.invariant.none
          c.report_one_failed.ensures.none;
    }

pub returns-then-not-report_one_failed-clause-none : goal.returns-then-not-report_one_failed-clause-none
returns-then-not-report_one_failed-clause-none c =
    none_again c.args.self.now c.loop-connection.self c.report_one_failed.new.self c.loop-connection.invariant.none
    c.report_one_failed.ensures.none
