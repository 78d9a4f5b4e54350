-- The matching topics so far come after the entries that were there.
use Rattle.std.proofs.Common.{◌≡◌, ◌++◌, take, length}
use Rattle.retained.specs.Retained.{matching_entries}
use Rattle.retained.proofs.search.append_in_range.Given as goal

abbrev pub invariant-loop-topic : goal.invariant-loop-topic
invariant-loop-topic l = record {
  whole : l.entries.items ++ matching_entries l.topic-iterator l.filter ≡ l.fn.entries.items ++ matching_entries l.topics.entries l.filter;
  front : l.fn.entries.items ≡ take (length l.fn.entries.items) l.entries.items;
}
