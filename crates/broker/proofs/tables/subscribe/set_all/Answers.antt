-- The walk ends with the shorter of the two.
use Rattle.std.proofs.Common.{◌∙◌, ap, sym}
use Rattle.std.specs.Prelude.{map}
use Rattle.std.proofs.lemmas.Slice.Zip.{either_empty_from_Zip}
use Rattle.subs_base.specs.ListIndex.{content_of}
use Rattle.broker_spec.specs.Subscriptions.{as_granted}
use Rattle.broker_base.specs.rows.Indexed.{all_set}
use Rattle.broker.proofs.of_tables.InPairs.{no_more_granted}
use Rattle.broker.proofs.tables.subscribe.set_all.Goals as goal

pub returns : goal.returns
returns c =
    ap (λ more. all_set c.args.client.now (map as_granted more) (content_of c.loop-subscription.index))
    (sym (no_more_granted c.loop-subscription.subscription-iterator.a.rest.now c.loop-subscription.subscription-iterator.b.rest.now
    (either_empty_from_Zip c.loop-subscription.subscription-iterator c.next.new.self _ c.in-None.is c.next.ensures.steps)))
    ∙ c.loop-subscription.invariant
