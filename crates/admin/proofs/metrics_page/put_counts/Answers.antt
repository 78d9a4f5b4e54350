use Rattle.std.proofs.Common.{refl}
use Rattle.admin.proofs.Appended.{as_text, text_then}
use Rattle.admin.proofs.metrics_page.put_counts.Goals as goal

pub returns : goal.returns
returns c = as_text (text_then (text_then (text_then c.in_ok-put_count.ensures c.in_ok-put_count-2.ensures) c.in_ok-put_count-3.ensures) c.put_count-4.ensures) refl
