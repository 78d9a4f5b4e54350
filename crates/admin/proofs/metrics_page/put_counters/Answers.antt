use Rattle.admin.proofs.Appended.{text_then}
use Rattle.admin.proofs.metrics_page.put_counters.Goals as goal

pub returns : goal.returns
returns c = text_then c.in_ok-put_filled.ensures c.put_counts.ensures
