use Rattle.program_rows.proofs.script_fields.put_line.Goals as goal

pub returns-in-Disconnect : goal.returns-in-Disconnect
returns-in-Disconnect c = rw c.in-Disconnect.is c.put_client-in-Disconnect.ensures
