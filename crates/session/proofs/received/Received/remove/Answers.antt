use Rattle.std.proofs.Common.{◌∙◌, ap}
use Rattle.session_base.specs.Identifiers.{without_id}
use Rattle.session.proofs.OneIsRemoved.{one_removed}
use Rattle.session.proofs.received.Received.remove.Goals as goal

pub returns : goal.returns
returns c =
    c.remove.ensures.keys ∙ one_removed c.args.id c.self.inside.ids.keys c.len-count.ensures.ordered
    ∙ ap (without_id c.args.id) c.self.view_is
