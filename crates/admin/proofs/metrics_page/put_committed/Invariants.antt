use Rattle.std.proofs.Common.{◌≡◌, ◌++◌, take}
use Rattle.std.specs.Prelude.{string_bytes}
use Rattle.std.specs.List.{flat_map}
use Rattle.admin.specs.Metrics.{committed_text}
use Rattle.admin.proofs.metrics_page.put_committed.Given as goal

abbrev pub invariant-loop-node : goal.invariant-loop-node
invariant-loop-node l =
    string_bytes l.text ≡ string_bytes l.initial.text ++ flat_map committed_text (take l.node-index l.nodes)
