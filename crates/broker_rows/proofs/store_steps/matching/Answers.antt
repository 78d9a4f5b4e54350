use Rattle.std.proofs.Common.{◌++◌, ap, ◌∙◌}
use Rattle.retained.specs.Retained.{RetainedTopics, matching_entries}
use Rattle.broker_rows.proofs.store_steps.matching.Goals as goal

pub returns-in-Ok : goal.returns-in-Ok
returns-in-Ok c =
    c.in-Ok.ensures.ok
    ∙ ap (λ (before : RetainedTopics). before ++ matching_entries c.args.store.now c.args.filter.now) c.new-found.ensures.items
