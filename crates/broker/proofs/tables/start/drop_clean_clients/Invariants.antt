use Rattle.std.proofs.Common.{◌≡◌}
use Rattle.subs_base.specs.ListIndex.{content_of}
use Rattle.broker_base.specs.rows.Indexed.{all_dropped, clean_clients}
use Rattle.broker.proofs.tables.start.drop_clean_clients.Given as goal

abbrev pub invariant-loop-client : goal.invariant-loop-client
invariant-loop-client l =
    all_dropped (clean_clients l.client-iterator) (content_of l.index) ≡ all_dropped (clean_clients l.sessions.entries) (content_of l.fn.index)
