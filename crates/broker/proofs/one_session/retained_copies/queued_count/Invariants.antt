use Rattle.std.proofs.Common.{◌≡◌, ◌≤◌, length}
use Rattle.std.specs.Prelude.{take}
use Rattle.broker_spec.specs.Entries.{queued}
use Rattle.broker.proofs.one_session.retained_copies.queued_count.Given as goal

abbrev pub invariant-loop-copy : goal.invariant-loop-copy
invariant-loop-copy l = (l.many ≡ length (queued (take l.copy-index l.copies))) × (l.many ≤ l.copy-index)
