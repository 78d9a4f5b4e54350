use Rattle.std.proofs.Common.{Err, ap}
use Rattle.user_client.proofs.PacketsNoted.{failed_before}
use Rattle.user_client.proofs.answers.Answers.hear.Goals as goal

pub returns-in-Err-Failed-clause-heard : goal.returns-in-Err-Failed-clause-heard
returns-in-Err-Failed-clause-heard c =
    failed_before c.args.piece.now c.args.self.now c.feed.new.self
    (c.in-Err-Failed.ensures.failed.0 (ap Err c.in-Err-Failed.field-0-is)) c.in-Err-Failed.ensures.fault
