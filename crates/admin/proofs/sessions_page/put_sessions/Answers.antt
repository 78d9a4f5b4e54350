use Rattle.std.proofs.Common.{append_assoc}
use Rattle.admin.proofs.Appended.{and_then, as_tokens, wrote}
use Rattle.admin.proofs.sessions_page.put_sessions.Goals as goal

pub returns : goal.returns
returns c = as_tokens (and_then (and_then (wrote c.in_ok-begin_array.ensures) c.in_ok-put_listed.ensures) (wrote c.end_array.ensures)) (simp (append_assoc, c.deref.ensures.value))
