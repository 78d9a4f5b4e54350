-- What was not there once the root was, was not there before.
use Rattle.std.proofs.Common.{◌∙◌, sym, ap}
use Rattle.topics.specs.Text.{levels}
use Rattle.subs_base.proofs.ContentAfter.{on_err}
use Rattle.subs.specs.Inside.{Asked}
use Rattle.subs.proofs.nodes.Nodes.set.Goals as goal

pub returns-then-is_err-clause-absent : goal.returns-then-is_err-clause-absent
returns-then-is_err-clause-absent c =
    on_err c.set_below-set.result
    (λ none. ap (λ (a : Asked). a (levels c.args.text.now) c.args.client.now) (sym c.in_ok-root.ensures.rows) ∙ none)
    c.set_below-set.ensures.absent
