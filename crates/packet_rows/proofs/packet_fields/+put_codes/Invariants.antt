use Rattle.std.proofs.Common.{length}
use Rattle.packet_rows.proofs.packet_fields.+put_codes.Given as goal

abbrev pub decreases-put_codes : goal.decreases-put_codes
decreases-put_codes l = length l.codes.now
