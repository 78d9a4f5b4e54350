use Rattle.client_base.specs.State.{publish_kept}
use Rattle.client.proofs.Spelled.{appends_next}
use Rattle.client.proofs.output.write_publishes.Goals as goal

pub loop-one-preserved : goal.loop-one-preserved
loop-one-preserved c =
    appends_next (publish_kept c.args.dup) c.args.kept.now c.loop-one.one-index c.one-item.result c.args.out.now.items c.loop-one.out.items
    c.write_publish.new.out.items c.loop-one-test.true c.one-item.is c.loop-one.invariant c.in_ok-write_publish.ensures.ok
