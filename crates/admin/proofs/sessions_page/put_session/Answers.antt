use Rattle.admin.proofs.Appended.{and_then, as_tokens, wrote}
use Rattle.admin.proofs.sessions_page.put_session.Goals as goal

pub returns : goal.returns
returns c = as_tokens (and_then (and_then (and_then (and_then (and_then (and_then (wrote c.in_ok-begin_object.ensures) c.in_ok-put_text.ensures) c.in_ok-put_option.ensures) c.in_ok-put_number.ensures) c.in_ok-put_number-2.ensures) c.in_ok-put_number-3.ensures) (wrote c.end_object.ensures)) (simp c.as_str.ensures.value)
