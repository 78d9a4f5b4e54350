-- The levels and one more lead to the child that is there.
use Rattle.std.proofs.Common.{◌∙◌, sym}
use Rattle.subs.specs.Inside.{shape_of}
use Rattle.subs.specs.Shown.{root_of}
use Rattle.subs.proofs.Ways.{led_more}
use Rattle.subs.proofs.nodes.Nodes.child_or_new.Goals as goal

pub returns-in-Some-clause-leads : goal.returns-in-Some-clause-leads
returns-in-Some-clause-leads c path way =
    led_more (shape_of c.args.self.now.slab).child (root_of c.args.self.now) path c.args.level.now c.args.at.number way ∙ sym c.in-Some.ensures
