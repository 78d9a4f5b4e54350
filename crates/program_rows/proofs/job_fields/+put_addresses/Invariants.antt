use Rattle.std.proofs.Common.{length}
use Rattle.program_rows.proofs.job_fields.+put_addresses.Given as goal

abbrev pub decreases-put_addresses : goal.decreases-put_addresses
decreases-put_addresses l = length l.addresses.now
