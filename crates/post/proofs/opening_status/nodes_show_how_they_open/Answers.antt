use Rattle.post.proofs.OpensWith.{shows_how_it_opens}
use Rattle.post.proofs.opening_status.nodes_show_how_they_open.Goals as goal

pub returns : goal.returns
returns c = shows_how_it_opens
