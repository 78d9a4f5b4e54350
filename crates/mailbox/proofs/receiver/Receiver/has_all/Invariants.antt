use Rattle.std.proofs.Common.{ℕ, ◌<◌}
use Rattle.mailbox.proofs.AllLanesByIndex.{Placed}
use Rattle.mailbox.proofs.receiver.Receiver.has_all.Given as goal

abbrev pub invariant-loop-index : goal.invariant-loop-index
invariant-loop-index g l = (k : ℕ) → k < l.index → Placed l.self l.lanes k
