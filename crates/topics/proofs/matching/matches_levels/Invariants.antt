-- What is left of both texts matches if the whole texts do.
use Rattle.std.proofs.Common.{length}
use Rattle.topics.specs.Inside.{IsLeft, IsApart}
use Rattle.topics.proofs.matching.matches_levels.Given as goal

abbrev pub invariant-loop-filter_rest : goal.invariant-loop-filter_rest
invariant-loop-filter_rest l = record {
  left : IsLeft l.filter l.topic l.filter_rest l.topic_rest;
  apart : IsApart l.filter_rest l.topic_rest;
}

abbrev pub decreases-loop-filter_rest : goal.decreases-loop-filter_rest
decreases-loop-filter_rest l = length l.filter_rest
