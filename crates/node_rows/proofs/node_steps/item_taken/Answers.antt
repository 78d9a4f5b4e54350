use Rattle.std.proofs.Common.{rules, tests, map, ap, ◌∙◌}
use Rattle.node_rows.specs.NodeAnswers.{effect_fields}
use Rattle.node_rows.proofs.StepAnswers.{item_taken}
use Rattle.node_rows.proofs.node_steps.item_taken.Goals as goal

pub returns : goal.returns
returns c =
    item_taken c.args.core.now c.step.new.self c.args.item _ _ _ c.new-given.ensures.items c.step.ensures (search (rules, tests))
    (c.in_ok-effect_answers.ensures ∙ ap (map effect_fields) c.as_slice.ensures.value)
