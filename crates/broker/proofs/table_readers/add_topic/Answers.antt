use Rattle.std.proofs.Common.{◌∙◌, sym}
use Rattle.broker.proofs.LastRows.{insert_last, kept_where}
use Rattle.broker.proofs.table_readers.add_topic.Goals as goal

pub returns-in-Ok : goal.returns-in-Ok
returns-in-Ok c =
    let after = sym c.is_after.ensures.test ∙ kept_where c.is_after.result c.in_ok-check_form.ensures.exact in
    (after, c.in-Ok.ensures.ok ∙ insert_last c.args.topic c.args.kept c.args.retained.now c.is_after.ensures.rising after)
