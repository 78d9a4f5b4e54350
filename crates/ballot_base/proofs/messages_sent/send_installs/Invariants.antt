use Rattle.std.proofs.Common.{take}
use Rattle.ballot_base.specs.declared.message.Body.TheVariants.{Install}
use Rattle.ballot_base.specs.StepOutcome.{message_to_each}
use Rattle.ballot_base.specs.Sends.{Sends}
use Rattle.ballot_base.proofs.messages_sent.send_installs.Given as goal

abbrev pub invariant-loop-receiver : goal.invariant-loop-receiver
invariant-loop-receiver g l =
    Sends l.initial.out.items l.out.items
    (message_to_each g.row.M-Output.Denot l.from (Install l.ballot l.log) (take l.receiver-index l.receivers)) l.whole
