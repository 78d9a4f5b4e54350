use Rattle.std.proofs.Common.{length}
use Rattle.broker_rows.proofs.broker_outputs.+append_outputs.Given as goal

abbrev pub decreases-append_outputs : goal.decreases-append_outputs
decreases-append_outputs l = length l.sent.now
