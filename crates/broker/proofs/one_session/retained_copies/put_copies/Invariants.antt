-- What came so far, and what is still to come, make the whole.
use Rattle.std.proofs.Common.{◌≡◌, ◌≤◌, ◌++◌, length}
use Rattle.session_base.specs.declared.limits.TheConstants.{MAX_ENTRIES}
use Rattle.session_base.specs.Queue.{room}
use Rattle.session_base.specs.Copies.{copies_left}
use Rattle.broker_spec.specs.Entries.{queued}
use Rattle.session_base.specs.EntryPackets.{copies_sent}
use Rattle.session_base.specs.Session.{with_queue}
use Rattle.broker.proofs.one_session.retained_copies.put_copies.Given as goal

abbrev pub invariant-loop-copy : goal.invariant-loop-copy
invariant-loop-copy l =
    (with_queue (copies_left l.window l.copy-iterator.rest.items l.session.queue) l.session
    ≡ with_queue (copies_left l.window l.fn.copies.items l.fn.session.queue) l.fn.session)
    × (l.sent.items ++ copies_sent l.window l.copy-iterator.rest.items l.session.queue
    ≡ l.fn.sent.items ++ copies_sent l.window l.fn.copies.items l.fn.session.queue)
    × (length (queued l.copy-iterator.rest.items) ≤ room MAX_ENTRIES l.session.queue)
