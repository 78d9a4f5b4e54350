use Rattle.std.proofs.Common.{refl}
use Rattle.admin.proofs.Appended.{and_then, as_tokens, wrote}
use Rattle.admin.proofs.connections_page.put_connection.Goals as goal

pub returns : goal.returns
returns c = as_tokens (and_then (and_then (and_then (and_then (and_then (wrote c.in_ok-begin_object.ensures) c.in_ok-put_client.ensures) c.in_ok-put_small.ensures) c.in_ok-put_number.ensures) c.in_ok-put_number-2.ensures) (wrote c.end_object.ensures)) refl
