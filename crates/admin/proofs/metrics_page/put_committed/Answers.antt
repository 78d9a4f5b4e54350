use Rattle.std.proofs.Common.{arith, false}
use Rattle.std.specs.Prelude.{string_bytes}
use Rattle.admin.specs.Metrics.{committed_text}
use Rattle.admin.specs.declared.view.Role.TheVariants.{Primary}
use Rattle.admin.proofs.Appended.{items_more_at}
use Rattle.admin.proofs.metrics_page.put_committed.Goals as goal

pub loop-node-preserved : goal.loop-node-preserved
loop-node-preserved c =
    items_more_at committed_text c.args.nodes.now c.loop-node.node-index (record { number = 0; ballot = 0; role = Primary; is_member = false; held = 0; committed = 0 })
    (string_bytes c.args.text.now) (string_bytes c.loop-node.text) (string_bytes c.put_labelled.new.text)
    (omega arith) c.loop-node.invariant c.in_ok-put_labelled.ensures.added
