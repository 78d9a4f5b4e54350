-- What was started so far, and what is still to start, make the whole fill.
use Rattle.std.proofs.Common.{◌≡◌, ◌++◌, take, drop, length}
use Rattle.session_base.specs.OrderTheorems.{IsReleasedFirst}
use Rattle.session_base.specs.Queue.{filled, fill}
use Rattle.session_base.specs.EntryPackets.{fill_sends}
use Rattle.session.proofs.session_queue.SessionQueue.start_all.Given as goal

abbrev pub invariant-loop-index : goal.invariant-loop-index
invariant-loop-index l = record {
  state : fill l.window l.self.in_flight (drop l.index l.initial.self.waiting) ≡ filled l.window l.initial.self;
  sends :
      l.out.items ++ fill_sends l.window l.self.in_flight (drop l.index l.initial.self.waiting)
      ≡ l.initial.out.items ++ fill_sends l.window l.initial.self.in_flight l.initial.self.waiting;
  waiting : l.self.waiting ≡ l.initial.self.waiting;
  first : IsReleasedFirst l.initial.self.in_flight → IsReleasedFirst l.self.in_flight;
  flights : l.initial.self.in_flight ≡ take (length l.initial.self.in_flight) l.self.in_flight;
  kept : l.initial.out.items ≡ take (length l.initial.out.items) l.out.items;
}
