-- The law is its lemma.
use Rattle.topics.proofs.ItselfAlone.{itself_alone}
use Rattle.topics.proofs.theorems.bare_matches_itself.Goals as goal

pub returns : goal.returns
returns c = itself_alone
