-- The bytes so far and those that are left.
use Rattle.std.proofs.Common.{◌≡◌, ◌+◌, ◌≤◌, ◌||◌, ◌==◌, length, count_by}
use Rattle.topics.specs.Text.{contains_byte}
use Rattle.topics.proofs.survey.Survey.of.Given as goal

abbrev pub invariant-loop-rest : goal.invariant-loop-rest
invariant-loop-rest l = record {
  null : contains_byte 0 l.text ≡ (l.null || contains_byte 0 l.rest);
  wildcard : (contains_byte 43 l.text || contains_byte 35 l.text) ≡ (l.wildcard || (contains_byte 43 l.rest || contains_byte 35 l.rest));
  slashes : count_by (λ byte. byte == 47) l.text ≡ l.slashes + count_by (λ byte. byte == 47) l.rest;
  few : l.slashes + length l.rest ≤ length l.text;
}

abbrev pub decreases-loop-rest : goal.decreases-loop-rest
decreases-loop-rest l = length l.rest
