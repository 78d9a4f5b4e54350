use Rattle.node_rows.proofs.GroupStepAnswers.{counts_gives}
use Rattle.node_rows.proofs.group_steps.count_fields.Goals as goal

pub returns : goal.returns
returns c =
    counts_gives c.args.group.now _ _ _ _ _ _ c.agreed_len.ensures c.sent.ensures c.left.ensures c.in_ok-counts.ensures
    c.in_ok-put_number.ensures c.in_ok-put_number-2.ensures
