-- The walk ends with the shorter of the two.
use Rattle.std.proofs.Common.{◌∙◌, ◌++◌, ap, sym}
use Rattle.std.proofs.lemmas.Slice.Zip.{either_empty_from_Zip}
use Rattle.std.proofs.lemmas.List.{append-nil}
use Rattle.broker.proofs.of_tables.InPairs.{no_more_codes}
use Rattle.broker.proofs.tables.subscribe.codes_of.Goals as goal

pub returns : goal.returns
returns c =
    sym (append-nil c.loop-subscription.codes.items)
    ∙ ap (λ more. c.loop-subscription.codes.items ++ more)
    (sym (no_more_codes c.loop-subscription.subscription-iterator.a.rest.now c.loop-subscription.subscription-iterator.b.rest.now
    (either_empty_from_Zip c.loop-subscription.subscription-iterator c.next.new.self _ c.in-None.is c.next.ensures.steps)))
    ∙ c.loop-subscription.invariant
