use Rattle.std.proofs.Common.{length}
use Rattle.broker_rows.proofs.store_steps.+append_retained.Given as goal

abbrev pub decreases-append_retained : goal.decreases-append_retained
decreases-append_retained l = length l.found.now
