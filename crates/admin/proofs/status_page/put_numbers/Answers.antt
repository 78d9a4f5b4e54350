use Rattle.std.proofs.Common.{refl}
use Rattle.admin.proofs.Appended.{and_then, as_tokens, wrote}
use Rattle.admin.proofs.status_page.put_numbers.Goals as goal

pub returns : goal.returns
returns c = as_tokens (and_then (and_then (and_then (wrote c.in_ok-key.ensures) (wrote c.in_ok-begin_array.ensures)) c.in_ok-put_each.ensures) (wrote c.end_array.ensures)) refl
