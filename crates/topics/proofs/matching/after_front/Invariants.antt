-- What is left matches if the whole texts do.
use Rattle.std.proofs.Common.{length, ◌≤◌}
use Rattle.topics.specs.Inside.{IsLeft}
use Rattle.topics.proofs.matching.after_front.Given as goal

abbrev pub invariant-loop-filter_rest : goal.invariant-loop-filter_rest
invariant-loop-filter_rest l = record {
  left : IsLeft l.filter l.topic l.filter_rest l.topic_rest;
  shorter : length l.filter_rest ≤ length l.filter;
}

abbrev pub decreases-loop-filter_rest : goal.decreases-loop-filter_rest
decreases-loop-filter_rest l = length l.filter_rest
