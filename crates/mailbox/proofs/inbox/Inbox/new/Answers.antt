use Rattle.mailbox.proofs.PassesKeepTheRule.{begins}
use Rattle.mailbox.proofs.inbox.Inbox.new.Goals as goal

pub ruled-requires-clause-rule : goal.ruled-requires-clause-rule
ruled-requires-clause-rule g c = begins
