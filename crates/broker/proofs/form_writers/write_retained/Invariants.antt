use Rattle.std.proofs.Common.{◌≡◌, ◌++◌}
use Rattle.std.specs.List.{flat_map}
use Rattle.broker_base.specs.form.Bytes.{retained_bytes}
use Rattle.broker.specs.Inside.{ArePayloads}
use Rattle.broker.proofs.form_writers.write_retained.Given as goal

abbrev pub invariant-loop-topic : goal.invariant-loop-topic
invariant-loop-topic l =
    (l.bytes.items ++ flat_map retained_bytes l.topic-iterator ≡ l.fn.bytes.items ++ flat_map retained_bytes l.retained)
    × ArePayloads l.topic-iterator
