-- A map sets an entry in its place or last, and is refused memory only for a key that it does not have.
use Rattle.std.proofs.Common.{◌∙◌, ap}
use Rattle.session_base.specs.Subscriptions.{is_subscribed, with_subscription}
use Rattle.session.proofs.FilterSet.{set_as_entry, never_missed}
use Rattle.session.proofs.subscriptions.Subscriptions.set.Goals as goal

pub returns-clause-ok : goal.returns-clause-ok
returns-clause-ok c =
    c.in_ok-insert.ensures.entries
    ∙ set_as_entry c.args.filter c.args.qos c.self.inside.filters.entries
    ∙ ap (with_subscription (c.args.filter, c.args.qos)) c.self.view_is

pub returns-in_err-insert-clause-subscribed : goal.returns-in_err-insert-clause-subscribed
returns-in_err-insert-clause-subscribed c subscribed =
    absurd (never_missed c.args.filter c.self.inside.filters.entries c.in_err-insert.ensures.absent (ap (is_subscribed c.args.filter) c.self.view_is ∙ subscribed))
