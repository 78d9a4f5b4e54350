use Rattle.std.proofs.Common.{ap}
use Rattle.admin.specs.Metrics.{nodes_text}
use Rattle.admin.proofs.Appended.{as_text, text_then}
use Rattle.admin.proofs.metrics_page.put_metrics.Goals as goal

pub returns : goal.returns
returns c =
    text_then (text_then c.in_ok-put_details.ensures c.in_ok-put_orders.ensures)
    (as_text c.put_nodes.ensures (ap nodes_text c.deref.ensures.value))
