use Rattle.std.proofs.Common.{arith}
use Rattle.std.specs.Prelude.{string_bytes}
use Rattle.admin.specs.Metrics.{refused_text}
use Rattle.admin.proofs.Appended.{items_more_at}
use Rattle.admin.proofs.metrics_page.put_refused.Goals as goal

pub loop-refusal-preserved : goal.loop-refusal-preserved
loop-refusal-preserved c =
    items_more_at refused_text c.args.refusals.now c.loop-refusal.refusal-index (record { number = 0; count = 0 })
    (string_bytes c.args.text.now) (string_bytes c.loop-refusal.text) (string_bytes c.put_labelled.new.text)
    (omega arith) c.loop-refusal.invariant c.in_ok-put_labelled.ensures.added
