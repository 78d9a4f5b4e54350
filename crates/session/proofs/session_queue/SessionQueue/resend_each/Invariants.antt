-- What is sent again so far comes after what was there.
use Rattle.std.proofs.Common.{◌≡◌, ◌++◌, take, length}
use Rattle.session_base.specs.EntryPackets.{resend}
use Rattle.session.proofs.session_queue.SessionQueue.resend_each.Given as goal

abbrev pub invariant-loop-id : goal.invariant-loop-id
invariant-loop-id l = record {
  whole : l.out.items ++ resend l.id-iterator ≡ l.fn.out.items ++ resend l.self.in_flight;
  front : l.fn.out.items ≡ take (length l.fn.out.items) l.out.items;
}
