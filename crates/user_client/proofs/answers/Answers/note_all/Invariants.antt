use Rattle.std.proofs.Common.{length}
use Rattle.user_client.specs.Answers.{Notes}
use Rattle.user_client.proofs.answers.Answers.note_all.Given as goal

abbrev pub invariant-loop : goal.invariant-loop
invariant-loop l = Notes l.initial.self l.self

abbrev pub decreases-loop : goal.decreases-loop
decreases-loop l = length l.self.unread.bytes
