use Rattle.client_base.proofs.IdentifiersOfRuns.{identifiers_distinct, requests_apart}
use Rattle.client_base.proofs.theorems.used_identifiers_are_distinct.Goals as goal

pub returns : goal.returns
returns c =
    record {
      distinct = identifiers_distinct c.least_identifier_is_free.ensures;
      apart = requests_apart c.least_identifier_is_free.ensures;
    }
