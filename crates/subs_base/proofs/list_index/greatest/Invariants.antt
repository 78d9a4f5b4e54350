-- What the entries so far gave goes into the rest.
use Rattle.std.proofs.Common.{◌≡◌, None}
use Rattle.subs_base.specs.Inside.{greatest_from}
use Rattle.subs_base.proofs.list_index.greatest.Given as goal

abbrev pub invariant-loop-filter : goal.invariant-loop-filter
invariant-loop-filter l =
    greatest_from l.topic None l.filters.entries ≡ greatest_from l.topic l.best l.filter-iterator
