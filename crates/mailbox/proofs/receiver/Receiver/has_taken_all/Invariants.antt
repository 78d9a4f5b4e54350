use Rattle.std.proofs.Common.{◌≡◌, map}
use Rattle.std.specs.List.{AllWithin}
use Rattle.mailbox.specs.Ends.{unmet}
use Rattle.mailbox.specs.Kept.{IsDrained}
use Rattle.mailbox.proofs.receiver.Receiver.has_taken_all.Given as goal

abbrev pub invariant-loop-lane : goal.invariant-loop-lane
invariant-loop-lane g l = record {
  receiver : l.self ≡ l.initial.self;
  lanes : map unmet l.lanes ≡ map unmet l.initial.lanes;
  so_far : AllWithin (IsDrained l.self.taken) l.lanes 0 l.lane-index;
}
