-- Once those that are left are put in, all are.
use Rattle.std.proofs.Common.{◌≡◌}
use Rattle.subs_base.specs.Content.{no_subscriptions}
use Rattle.subs_base.specs.ListIndex.{content_of}
use Rattle.broker.specs.Inside.{all_put}
use Rattle.broker.proofs.table_readers.index_of.Given as goal

abbrev pub invariant-loop-client : goal.invariant-loop-client
invariant-loop-client l = all_put l.client-iterator (content_of l.list) ≡ all_put l.sessions.entries no_subscriptions
