use Rattle.std.proofs.Common.{◌≡◌, ◌++◌, map}
use Rattle.std.specs.List.{All}
use Rattle.server.specs.Ended.{EndedView, IsTold}
use Rattle.server.proofs.ending.parted.Given as goal

abbrev pub invariant-loop-one : goal.invariant-loop-one
invariant-loop-one g l = record {
  nodes : l.nodes.items ≡ l.initial.nodes.items ++ map (λ (one : EndedView). one.node) l.yielded;
  reports : l.reports.items ≡ l.initial.reports.items ++ map (λ (one : EndedView). one.report) l.yielded;
  told : All IsTold l.yielded;
}
