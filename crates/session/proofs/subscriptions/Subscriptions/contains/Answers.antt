use Rattle.std.proofs.Common.{◌∙◌, ap}
use Rattle.session_base.specs.Subscriptions.{is_subscribed}
use Rattle.session.proofs.FilterSet.{held_is_found}
use Rattle.session.proofs.subscriptions.Subscriptions.contains.Goals as goal

pub returns : goal.returns
returns c =
    c.contains_key.ensures
    ∙ held_is_found c.args.filter.now c.self.inside.filters.entries
    ∙ ap (is_subscribed c.args.filter.now) c.self.view_is
