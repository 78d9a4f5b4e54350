-- What is at the client of the list is its map's entries.
use Rattle.subs_base.proofs.EmptyMapGoes.{lent_at}
use Rattle.subs_base.proofs.list_index.ListIndex.filters_of.Goals as goal

pub returns : goal.returns
returns c = lent_at c.self.inside.clients c.args.self.now c.args.client.now c.get.result c.self.view_is c.get.ensures.value
