use Rattle.std.proofs.Common.{rules}
use Rattle.node_rows.proofs.ClientCallAnswers.{unsubscribe_call}
use Rattle.node_rows.proofs.client_calls.unsubscribe.Goals as goal

pub returns : goal.returns
returns c =
    unsubscribe_call c.args.word.now c.in_ok-filter.filter c.args.filter.now c.args.core.now c.unsubscribe.new.self c.unsubscribe.result
    (search rules) c.in_ok-filter.ensures c.unsubscribe.ensures
