-- The law is its lemma.
use Rattle.subs_base.proofs.GrantsOneList.{one_list}
use Rattle.subs_base.proofs.theorems.grants_one_list.Goals as goal

pub returns : goal.returns
returns c = one_list
