use Rattle.std.proofs.Common.{◌++◌, List, ℕ, ap, ◌∙◌}
use Rattle.broker_base.specs.form.BrokerRules.{broker_rules}
use Rattle.broker_rows.proofs.broker_steps.frozen.Goals as goal

pub returns-in-Ok : goal.returns-in-Ok
returns-in-Ok c =
    c.in-Ok.ensures.ok ∙ ap (λ (before : List ℕ). before ++ broker_rules.frozen c.args.broker.now) c.new-bytes.ensures.items
