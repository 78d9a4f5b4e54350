use Rattle.std.proofs.Common.{◌≡◌, ◌&&◌, rules, arith}
use Rattle.ballot_base.proofs.SendsJoin.{Sends-nothing, Sends-more}
use Rattle.ballot_base.proofs.messages_sent.send_installs.Goals as goal
use Rattle.ballot_base.proofs.messages_sent.send_installs.Goals.{then-whole, else-whole}

pub loop-receiver-init : goal.loop-receiver-init
loop-receiver-init g c = Sends-nothing _

pub loop-receiver-preserved : goal.loop-receiver-preserved
loop-receiver-preserved g c =
    let e : c.if-whole.whole ≡ (c.loop-receiver.whole && c.send_made-sent.result) =
    elim c.if-whole.branch [ then-whole w ↦ search rules | else-whole w ↦ search rules ] in
    rw e (Sends-more _ c.args.receivers.now c.loop-receiver.receiver-index 0 (omega arith)
    c.loop-receiver.invariant (c.send_made-sent.ensures _ c.install_of-made.ensures))
