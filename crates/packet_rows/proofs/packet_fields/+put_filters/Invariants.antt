use Rattle.std.proofs.Common.{length}
use Rattle.packet_rows.proofs.packet_fields.+put_filters.Given as goal

abbrev pub decreases-put_filters : goal.decreases-put_filters
decreases-put_filters l = length l.filters.now
