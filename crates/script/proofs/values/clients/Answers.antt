use Rattle.std.proofs.Common.{rules, ◌∙◌, ap}
use Rattle.script.specs.Fields.{parse_client, parse_clients, parts_of, texts}
use Rattle.script.proofs.AllRead.{all_read, not_read, read_more}
use Rattle.script.proofs.values.clients.Goals as goal

pub returns-in_err-client-clause-form : goal.returns-in_err-client-clause-form
unfolding parse_clients
returns-in_err-client-clause-form c same =
    not_read parse_client c.as_slice-parts.result.now (parts_of c.args.text.now) c.loop-part.part-index _ c.loop-part-test.true
    (ap texts c.as_slice-parts.ensures.value ∙ c.in_ok-all.ensures) (c.in_err-client.ensures.form (search rules))

pub loop-part-preserved : goal.loop-part-preserved
loop-part-preserved c =
    read_more parse_client c.as_slice-parts.result.now c.loop-part.part-index _ _ _ _ c.loop-part-test.true
    c.loop-part.invariant c.in_ok-client.ensures.value c.in_ok-push.ensures.items

pub returns-clause-value : goal.returns-clause-value
unfolding parse_clients
returns-clause-value c =
    all_read parse_client c.as_slice-parts.result.now (parts_of c.args.text.now) c.loop-part.part-index _ c.loop-part-test.false
    (ap texts c.as_slice-parts.ensures.value ∙ c.in_ok-all.ensures) c.loop-part.invariant
