use Rattle.std.proofs.Common.{◌≡◌}
use Rattle.std.specs.Prelude.{drop}
use Rattle.subs_base.specs.ListIndex.{content_of}
use Rattle.broker_base.specs.rows.Indexed.{all_cleared}
use Rattle.broker.proofs.tables.unsubscribe.clear_all.Given as goal

abbrev pub invariant-loop-filter : goal.invariant-loop-filter
invariant-loop-filter l =
    all_cleared l.client (drop l.filter-index l.filters) (content_of l.index)
    ≡ all_cleared l.client l.filters (content_of l.fn.index)
