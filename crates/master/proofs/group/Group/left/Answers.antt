use Rattle.std.proofs.Common.{◌∙◌}
use Rattle.agreement.proofs.of_cut_logs.Effects.{outs_alone}
use Rattle.master.proofs.group.Group.left.Goals as goal

pub returns : goal.returns
returns g c = rw (← c.self.view_is) (c.as_slice.ensures.value ∙ outs_alone c.self.inside.left.items c.self.invariant.0)
