use Rattle.std.proofs.Common.{refl}
use Rattle.admin.proofs.Appended.{as_text, text_then}
use Rattle.admin.proofs.metrics_page.put_nodes.Goals as goal

pub returns : goal.returns
returns c = as_text (text_then (text_then (text_then c.in_ok-put_head.ensures c.in_ok-put_held.ensures) c.in_ok-put_head-2.ensures) c.put_committed.ensures) refl
