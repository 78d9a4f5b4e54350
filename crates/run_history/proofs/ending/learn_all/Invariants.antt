use mathlib.Core.List.{IsPrefix}
use Rattle.run_history.specs.Ends.{AllKnown}
use Rattle.run_history.proofs.ending.learn_all.Given as goal

abbrev pub invariant-loop-node : goal.invariant-loop-node
invariant-loop-node g l = record {
  begins : IsPrefix l.initial.mark l.mark;
  known : AllKnown l.mark l.nodes l.node-index;
}
