use Rattle.std.proofs.Common.{◌++◌, List, ap, ◌∙◌}
use Rattle.packet.specs.declared.packet.Packet.{Packet}
use Rattle.session_base.specs.EntryPackets.{pubrec_sends}
use Rattle.session_base.specs.Queue.{on_pubrec}
use Rattle.broker_rows.proofs.session_handshakes.released.Goals as goal

pub returns-in-Ok-clause-sends : goal.returns-in-Ok-clause-sends
returns-in-Ok-clause-sends c =
    c.in-Ok.ensures.sends ∙ ap (λ (before : List Packet). before ++ pubrec_sends c.args.id (on_pubrec c.args.id c.args.session.now.queue.in_flight)) c.new-out.ensures.items
