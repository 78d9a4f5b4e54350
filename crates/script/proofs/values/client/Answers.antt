use Rattle.script.specs.Fields.{parse_client}
use Rattle.script.proofs.WithoutFault.{no_text, own_text}
use Rattle.script.proofs.values.client.Goals as goal

pub returns-in_err-new-clause-form : goal.returns-in_err-new-clause-form
unfolding parse_client
returns-in_err-new-clause-form c form = no_text _ _ _ _ c.in_err-new.ensures.err c.from_residual.ensures.1 form

pub returns-clause-value : goal.returns-clause-value
unfolding parse_client
returns-clause-value c = own_text _ _ _ c.in_ok-new.ensures.ok c.in_ok-new.ensures.value
