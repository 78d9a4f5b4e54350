use Rattle.std.proofs.Common.{◌++◌, List, ap, ◌∙◌}
use Rattle.broker_spec.specs.declared.command.Output.{Output}
use Rattle.broker_base.specs.form.BrokerRules.{broker_rules}
use Rattle.broker_rows.proofs.broker_outputs.applied.Goals as goal

pub returns-in-Ok-clause-sends : goal.returns-in-Ok-clause-sends
returns-in-Ok-clause-sends c =
    c.in-Ok.ensures.outputs
    ∙ ap (λ (before : List Output). before ++ broker_rules.gives c.args.broker.now c.args.command.now) c.new-out.ensures.items
