use Rattle.std.proofs.Common.{◌≡◌, map}
use Rattle.ballot_base.specs.Replica.{CountedReplica}
use Rattle.agreement.specs.cut_logs.Moments.{opening_nodes}
use Rattle.master.specs.Inside.{CountsAtMost}
use Rattle.master.proofs.group.Group.opening_with.Given as goal

abbrev pub invariant-loop-at : goal.invariant-loop-at
invariant-loop-at g l =
    (map (λ (z : CountedReplica g.row.M.Denot g.row.M-Command.Denot). z.state) l.opened.items
    ≡ opening_nodes g.M.Machine.rules l.at l.config)
    × CountsAtMost 0 l.opened.items
