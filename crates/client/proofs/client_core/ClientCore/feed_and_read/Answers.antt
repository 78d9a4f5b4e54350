use Rattle.client.proofs.HandledBefore.{unfed}
use Rattle.client.proofs.client_core.ClientCore.feed_and_read.Goals as goal

pub returns-in-Err : goal.returns-in-Err
returns-in-Err c = unfed c.args.piece.now c.args.self.now c.feed.new.self c.in-Err.error c.in-Err.ensures
