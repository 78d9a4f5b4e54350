use Rattle.broker_spec.proofs.PublicationEnters as lemmas
use Rattle.broker_spec.proofs.theorems.publication_enters.Goals as goal

pub returns : goal.returns
returns c = lemmas.publication_enters
