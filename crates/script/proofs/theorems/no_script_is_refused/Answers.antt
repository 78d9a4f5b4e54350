-- The law is its lemma.
use Rattle.script.proofs.NotRefused.{not_refused}
use Rattle.script.proofs.theorems.no_script_is_refused.Goals as goal

pub returns : goal.returns
returns c = not_refused
