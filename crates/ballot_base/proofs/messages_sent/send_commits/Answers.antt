use Rattle.std.proofs.Common.{◌≡◌, ◌&&◌, rules, arith}
use Rattle.ballot_base.proofs.SendsJoin.{Sends-nothing, Sends-more}
use Rattle.ballot_base.proofs.messages_sent.send_commits.Goals as goal
use Rattle.ballot_base.proofs.messages_sent.send_commits.Goals.{then-whole, else-whole}

pub loop-reached-init : goal.loop-reached-init
loop-reached-init g c = Sends-nothing _

pub loop-reached-preserved : goal.loop-reached-preserved
loop-reached-preserved g c =
    let e : c.if-whole.whole ≡ (c.loop-reached.whole && c.send-sent.result) =
    elim c.if-whole.branch [ then-whole w ↦ search rules | else-whole w ↦ search rules ] in
    rw e (Sends-more _ c.args.progress.now c.loop-reached.reached-index (record { member = 0; held = 0 }) (omega arith)
    c.loop-reached.invariant c.send-sent.ensures)
