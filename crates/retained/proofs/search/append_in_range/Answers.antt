-- The topics within the bounds are all that match.
use Rattle.std.proofs.Common.{◌++◌, ◌∙◌, ap, sym, subst, List, ℕ}
use Rattle.std.proofs.Math.Seq.{take-length}
use Rattle.retained.specs.Retained.{RetainedTopics, matching_entries}
use Rattle.retained.specs.Inside.{HoldsMatches}
use Rattle.retained.proofs.InRange.{all_within}
use Rattle.retained.proofs.search.append_in_range.Goals as goal

pub loop-topic-init : goal.loop-topic-init
loop-topic-init c =
    let bounds = c.bounds_of-bounds.result in
    let holds = subst (λ (text : List ℕ). HoldsMatches text bounds.0 bounds.1) c.as_str.ensures.value c.bounds_of-bounds.ensures.holds in
    let found = c.into_iter-topic-iterator.ensures.into_iter_gives ∙ c.range-topic-items.ensures.between tt in
    record {
      whole = ap (λ (others : RetainedTopics). c.args.entries.now.items ++ others)
          (ap (λ (topics : RetainedTopics). matching_entries topics c.args.filter.now) found
          ∙ all_within c.args.topics.now.entries c.args.filter.now bounds.0 bounds.1 holds);
      front = sym (take-length c.args.entries.now.items);
    }
