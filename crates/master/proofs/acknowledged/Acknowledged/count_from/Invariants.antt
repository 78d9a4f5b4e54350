use Rattle.std.proofs.Common.{◌≡◌, take}
use Rattle.master.specs.Inside.{HasCounted}
use Rattle.master.proofs.acknowledged.Acknowledged.count_from.Given as goal

abbrev pub invariant-loop-at : goal.invariant-loop-at
invariant-loop-at g l =
    (l.self.ballot ≡ l.initial.self.ballot)
    × (HasCounted (take l.initial.from l.initial.sent) l.initial.self → HasCounted (take l.at l.initial.sent) l.self)
