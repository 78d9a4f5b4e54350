use Rattle.std.proofs.Common.{length}
use Rattle.broker_rows.proofs.index_steps.+append_grants.Given as goal

abbrev pub decreases-append_grants : goal.decreases-append_grants
decreases-append_grants l = length l.grants.now
