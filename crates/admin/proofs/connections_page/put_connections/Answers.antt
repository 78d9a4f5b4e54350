use Rattle.admin.proofs.Appended.{and_then, as_tokens, wrote}
use Rattle.admin.proofs.connections_page.put_connections.Goals as goal

pub returns : goal.returns
returns c = as_tokens (and_then (and_then (wrote c.in_ok-begin_array.ensures) c.in_ok-put_all.ensures) (wrote c.end_array.ensures)) (simp c.deref.ensures.value)
