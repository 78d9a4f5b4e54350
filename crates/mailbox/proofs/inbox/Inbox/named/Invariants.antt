use Rattle.std.proofs.Common.{◌≡◌, []}
use Rattle.mailbox.specs.Ends.{fresh_lanes}
use Rattle.mailbox.proofs.inbox.Inbox.named.Given as goal

abbrev pub invariant-loop : goal.invariant-loop
invariant-loop g l = record {
  dealer : l.dealer ≡ record { inbox = l.number; lanes = l.counter; taken = [] };
  lanes : l.all.items ≡ fresh_lanes l.number l.counter;
}
