-- Neither has a subscription.
use Rattle.std.proofs.Common.{◌∙◌, sym, ap}
use Rattle.topics.specs.Text.{levels}
use Rattle.subs.proofs.tree_index.TreeIndexSubIndex.new.Goals as goal

pub invariant_of-result : goal.invariant_of-result
invariant_of-result c = (c.new.ensures ∙ sym (ap (λ a client filter. a (levels filter) client) c.new-2.ensures.rows), c.new-2.ensures.sound)
