use Rattle.std.proofs.Common.{◌≡◌, ◌++◌}
use Rattle.std.specs.List.{flat_map}
use Rattle.broker_base.specs.form.Bytes.{row_bytes}
use Rattle.broker.specs.Inside.{AreRows}
use Rattle.broker.proofs.form_writers.write_sessions.Given as goal

abbrev pub invariant-loop-client : goal.invariant-loop-client
invariant-loop-client l =
    (l.bytes.items ++ flat_map row_bytes l.client-iterator ≡ l.fn.bytes.items ++ flat_map row_bytes l.sessions.entries)
    × AreRows l.client-iterator
