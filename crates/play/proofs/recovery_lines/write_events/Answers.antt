use Rattle.std.proofs.Common.{sym, arith}
use Rattle.std.proofs.lemmas.List.{append-nil}
use Rattle.play.proofs.RecoveriesTold.{one_more_event}
use Rattle.play.proofs.recovery_lines.write_events.Goals as goal

pub loop-event-init : goal.loop-event-init
loop-event-init c = sym (append-nil _)

pub loop-event-preserved : goal.loop-event-preserved
loop-event-preserved c =
    one_more_event c.args.events.now c.loop-event.event-index c.event-item.result _ _ _ (omega arith) c.event-item.is c.loop-event.invariant c.in_ok-write_event.ensures
