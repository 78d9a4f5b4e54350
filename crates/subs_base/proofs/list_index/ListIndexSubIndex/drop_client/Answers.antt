-- The client's map was taken out.
use Rattle.std.proofs.Common.{◌∙◌, ap}
use Rattle.subs_base.specs.Content.{without_client}
use Rattle.subs_base.specs.ListIndex.{content_of}
use Rattle.subs_base.proofs.ContentAfter.{content_dropped}
use Rattle.subs_base.proofs.list_index.ListIndexSubIndex.drop_client.Goals as goal

pub returns : goal.returns
returns c =
    content_dropped c.self.inside.clients c.remove.new.self c.args.client.now c.remove.ensures.updates.0
    ∙ ap (λ v. without_client (content_of v) c.args.client.now) c.self.view_is
