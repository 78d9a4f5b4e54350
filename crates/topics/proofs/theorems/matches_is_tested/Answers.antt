-- The law is its lemma.
use Rattle.topics.proofs.MatchingIsTested.{tested}
use Rattle.topics.proofs.theorems.matches_is_tested.Goals as goal

pub returns : goal.returns
returns c = tested
