use Rattle.std.proofs.Common.{ap}
use Rattle.admin.specs.Metrics.{refusals_text}
use Rattle.admin.proofs.Appended.{as_text, text_then}
use Rattle.admin.proofs.metrics_page.put_orders.Goals as goal

pub returns : goal.returns
returns c = text_then c.in_ok-put_count.ensures (as_text c.put_refusals.ensures (ap refusals_text c.deref.ensures.value))
