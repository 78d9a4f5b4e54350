use Rattle.std.proofs.Common.{length}
use Rattle.program_rows.proofs.script_fields.+put_clients.Given as goal

abbrev pub decreases-put_clients : goal.decreases-put_clients
decreases-put_clients l = length l.clients.now
