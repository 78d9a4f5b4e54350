use Rattle.std.proofs.Common.{refl}
use Rattle.admin.proofs.Appended.{as_text, text_then}
use Rattle.admin.proofs.metrics_page.put_refusals.Goals as goal

pub returns : goal.returns
returns c = as_text (text_then c.in_ok-put_head.ensures c.put_refused.ensures) refl
