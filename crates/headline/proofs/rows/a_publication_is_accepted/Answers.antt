use Rattle.headline.proofs.PublicationAccepted.{a_publication_is_accepted}
use Rattle.headline.proofs.rows.a_publication_is_accepted.Goals as goal

pub returns : goal.returns
returns c = a_publication_is_accepted
