use Rattle.std.proofs.Common.{◌∙◌, ap, sym, None}
use Rattle.session_base.specs.Counted.{last_of}
use Rattle.session_base.proofs.Follows.{last_is}
use Rattle.broker_base.specs.form.Follows.{is_after}
use Rattle.broker.proofs.table_readers.is_after.Goals as goal

pub returns-in-Some-clause-test : goal.returns-in-Some-clause-test
returns-in-Some-clause-test c =
    c.lt.ensures
    ∙ sym (ap (λ o. is_after o c.args.topic.now)
    (ap last_of (sym c.iter.ensures.entries ∙ c.in-Some.ensures.steps)
    ∙ last_is None c.next_back.new.self (c.in-Some.last.now, c.in-Some.field-0-1.now)))
