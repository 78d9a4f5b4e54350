use Rattle.std.proofs.Common.{sym, arith}
use Rattle.std.proofs.lemmas.List.{append-nil}
use Rattle.play.proofs.LinesAppended.{one_more_line}
use Rattle.play.proofs.played_world.write_each.Goals as goal

pub loop-one-init : goal.loop-one-init
loop-one-init c = sym (append-nil _)

pub loop-one-preserved : goal.loop-one-preserved
loop-one-preserved c =
    one_more_line c.args.client.now c.args.accepted.now c.loop-one.one-index c.one-item.result _ _ _ (omega arith) c.one-item.is c.loop-one.invariant
    c.in_ok-write_accepted.ensures
