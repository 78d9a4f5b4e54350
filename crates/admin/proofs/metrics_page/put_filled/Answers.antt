use Rattle.std.proofs.Common.{refl}
use Rattle.admin.proofs.Appended.{as_text, text_then}
use Rattle.admin.proofs.metrics_page.put_filled.Goals as goal

pub returns : goal.returns
returns c = as_text (text_then (text_then (text_then c.in_ok-put_level.ensures c.in_ok-put_level-2.ensures) c.in_ok-put_level-3.ensures) c.put_level-4.ensures) refl
