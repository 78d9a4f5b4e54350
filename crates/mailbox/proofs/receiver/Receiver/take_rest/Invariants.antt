use Rattle.std.proofs.Common.{◌≡◌, ◌++◌, map}
use Rattle.mailbox.specs.Ends.{unmet}
use Rattle.mailbox.proofs.receiver.Receiver.take_rest.Given as goal

abbrev pub invariant-loop : goal.invariant-loop
invariant-loop g l = record {
  receiver : l.self ≡ record l.initial.self { taken = l.initial.self.taken ++ l.left.items };
  lanes : map unmet l.lanes ≡ map unmet l.initial.lanes;
}
