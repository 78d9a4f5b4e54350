use Rattle.std.proofs.Common.{◌++◌, List, ap, ◌∙◌}
use Rattle.packet.specs.declared.packet.Packet.{Packet}
use Rattle.session_base.specs.EntryPackets.{resend}
use Rattle.broker_rows.proofs.session_queue.resent.Goals as goal

pub returns-in-Ok : goal.returns-in-Ok
returns-in-Ok c =
    c.in-Ok.ensures.ok ∙ ap (λ (before : List Packet). before ++ resend c.args.session.now.queue.in_flight) c.new-out.ensures.items
