use Rattle.std.proofs.Common.{length}
use Rattle.program_rows.proofs.script_fields.+put_members.Given as goal

abbrev pub decreases-put_members : goal.decreases-put_members
decreases-put_members l = length l.members.now
