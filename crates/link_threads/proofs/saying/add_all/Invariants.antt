-- What is left to add leads to what all messages lead to.
use Rattle.std.proofs.Common.{drop}
use Rattle.links.specs.Written.{WriterView}
use Rattle.link_threads.specs.Says.{AddsAll}
use Rattle.link_threads.proofs.saying.add_all.Given as goal

abbrev pub invariant-loop-waiting : goal.invariant-loop-waiting
invariant-loop-waiting l =
    (new : WriterView) → AddsAll l.writer (drop l.waiting-index l.taken) new
    → AddsAll l.initial.writer l.taken new
