use Rattle.std.proofs.Common.{take}
use Rattle.ballot_base.specs.Service.{appends_after}
use Rattle.ballot_base.specs.Sends.{Sends}
use Rattle.ballot_base.proofs.messages_sent.send_after.Given as goal

abbrev pub invariant-loop-reached : goal.invariant-loop-reached
invariant-loop-reached g l =
    Sends l.initial.out.items l.out.items
    (appends_after g.row.M-Output.Denot l.from l.ballot l.log (take l.reached-index l.progress)) l.whole
