use Rattle.std.proofs.Common.{◌∙◌, ap, sym}
use Rattle.broker_base.specs.form.Follows.{is_after}
use Rattle.broker.proofs.LastRows.{last_at}
use Rattle.broker.proofs.rows.Rows.is_after.Goals as goal

pub returns-in-Some : goal.returns-in-Some
returns-in-Some c =
    c.lt.ensures
    ∙ sym (ap (λ o. is_after o c.args.client.now)
    (last_at c.args.self.now.sessions.entries (c.in-Some.last.now, c.in-Some.field-0-1.now) c.in-Some.ensures.last))
