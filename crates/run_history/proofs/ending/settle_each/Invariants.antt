use Rattle.run_history.specs.Ends.{AllEnded}
use Rattle.run_history.proofs.ending.settle_each.Given as goal

abbrev pub invariant-loop-index : goal.invariant-loop-index
invariant-loop-index g l = AllEnded g.H.RunNaming.nodes g.H.RunNaming.config l.mark l.nodes l.index
