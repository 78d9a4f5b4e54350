use Rattle.std.proofs.Common.{take}
use Rattle.ballot_base.specs.declared.message.Body.TheVariants.{Join}
use Rattle.ballot_base.specs.StepOutcome.{message_to_each}
use Rattle.ballot_base.specs.Sends.{Sends}
use Rattle.ballot_base.proofs.messages_sent.send_joins.Given as goal

abbrev pub invariant-loop-receiver : goal.invariant-loop-receiver
invariant-loop-receiver g l =
    Sends l.initial.out.items l.out.items
    (message_to_each g.row.O.Denot l.from (Join l.ballot l.previous) (take l.receiver-index l.receivers)) l.whole
