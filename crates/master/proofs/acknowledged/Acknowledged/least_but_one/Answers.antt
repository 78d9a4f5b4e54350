use Rattle.std.proofs.Common.{arith}
use Rattle.master.proofs.acknowledged.Acknowledged.least_but_one.Goals as goal

pub second_least-requires : goal.second_least-requires
second_least-requires c =
    λ m i. (let low = c.requires m i in omega (arith, low, c.as_slice.ensures.len, c.self.inside.held.ok.0, c.self.invariant))
