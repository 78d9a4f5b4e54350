use Rattle.std.proofs.Common.{◌∙◌}
use Rattle.session.proofs.FreeIdentifier.{put_new}
use Rattle.session.proofs.session_queue.put_last.Goals as goal

pub returns-clause-ok : goal.returns-clause-ok
returns-clause-ok c = c.in_ok-insert.ensures.entries ∙ put_new _ c.args.id c.args.awaits c.args.in_flight.now.entries c.requires
