-- The rows so far come after those that were there.
use Rattle.std.proofs.Common.{◌≡◌, ◌++◌, take, length}
use Rattle.subs.proofs.tree_index.append_rows.Given as goal

abbrev pub invariant-loop-client : goal.invariant-loop-client
invariant-loop-client l = record {
  whole : l.rows.items ++ l.client-iterator ≡ l.fn.rows.items ++ l.found.entries;
  front : l.fn.rows.items ≡ take (length l.fn.rows.items) l.rows.items;
}
