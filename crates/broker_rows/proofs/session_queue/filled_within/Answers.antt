use Rattle.std.proofs.Common.{◌++◌, List, ap, ◌∙◌}
use Rattle.packet.specs.declared.packet.Packet.{Packet}
use Rattle.session_base.specs.EntryPackets.{fill_sends}
use Rattle.broker_rows.proofs.session_queue.filled_within.Goals as goal

pub returns-in-Ok-clause-sends : goal.returns-in-Ok-clause-sends
returns-in-Ok-clause-sends c =
    c.in-Ok.ensures.sends ∙ ap (λ (before : List Packet). before ++ fill_sends c.args.window c.args.session.now.queue.in_flight c.args.session.now.queue.waiting) c.new-out.ensures.items
