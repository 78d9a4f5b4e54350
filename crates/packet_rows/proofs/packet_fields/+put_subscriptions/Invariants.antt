use Rattle.std.proofs.Common.{length}
use Rattle.packet_rows.proofs.packet_fields.+put_subscriptions.Given as goal

abbrev pub decreases-put_subscriptions : goal.decreases-put_subscriptions
decreases-put_subscriptions l = length l.filters.now
