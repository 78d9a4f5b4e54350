use Rattle.std.proofs.Common.{take}
use Rattle.ballot_base.specs.declared.message.Body.TheVariants.{Commit}
use Rattle.ballot_base.specs.StepOutcome.{message_to_followed}
use Rattle.ballot_base.specs.Sends.{Sends}
use Rattle.ballot_base.proofs.messages_sent.send_commits.Given as goal

abbrev pub invariant-loop-reached : goal.invariant-loop-reached
invariant-loop-reached g l =
    Sends l.initial.out.items l.out.items
    (message_to_followed g.row.O.Denot l.from (Commit l.ballot l.committed) (take l.reached-index l.progress)) l.whole
