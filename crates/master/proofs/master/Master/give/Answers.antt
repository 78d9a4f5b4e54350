use Rattle.std.proofs.Common.{arith}
use Rattle.agreement.proofs.Masters.Assigns.{not_refused}
use Rattle.master.proofs.master.Master.give.Goals as goal

pub invariant_of-self : goal.invariant_of-self
invariant_of-self c =
    let low = (not_refused c.args.self.now c.args.config c.requires).1 in omega (arith, low, rw (← c.self.view_is) at low)
