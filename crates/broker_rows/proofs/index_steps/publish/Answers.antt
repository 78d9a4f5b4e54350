use Rattle.std.proofs.Common.{map, refl, ap, ◌∙◌}
use Rattle.broker_rows.specs.IndexSteps.{grant_fields}
use Rattle.broker_rows.proofs.IndexAnswers.{publish_gives}
use Rattle.broker_rows.proofs.index_steps.publish.Goals as goal

pub returns-in-Ok : goal.returns-in-Ok
returns-in-Ok g c =
    publish_gives _ _ _ _ _ _ _ c.in_ok-topic.ensures c.new-grants.ensures.items c.in-Ok.ensures.ok
    (c.in_ok-grant_answers-in-Ok.ensures ∙ ap (map grant_fields) c.as_slice.ensures.value) refl
