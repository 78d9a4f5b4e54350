use Rattle.std.proofs.Common.{◌-◌, arith}
use Rattle.streams.proofs.BusyAdded.{adds_join}
use Rattle.streams.proofs.links.Links.add_busy.Goals as goal

pub returns-then-after-clause-adds : goal.returns-then-after-clause-adds
returns-then-after-clause-adds g c =
    adds_join c.args.idle (c.from.result - c.args.first) (c.args.first - 0) 60 _ _ _
    c.add_between-after.ensures.adds c.add_between-before.ensures.adds (omega (arith, c.from.ensures, c.requires))

pub returns-else-after-clause-adds : goal.returns-else-after-clause-adds
returns-else-after-clause-adds g c =
    adds_join c.args.idle (c.from.result - c.args.first) (c.args.first - 0) 60 _ _ _
    c.add_between-after.ensures.adds c.add_between-before.ensures.adds (omega (arith, c.from.ensures, c.requires))
