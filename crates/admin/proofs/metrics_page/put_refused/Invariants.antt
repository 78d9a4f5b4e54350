use Rattle.std.proofs.Common.{◌≡◌, ◌++◌, take}
use Rattle.std.specs.Prelude.{string_bytes}
use Rattle.std.specs.List.{flat_map}
use Rattle.admin.specs.Metrics.{refused_text}
use Rattle.admin.proofs.metrics_page.put_refused.Given as goal

abbrev pub invariant-loop-refusal : goal.invariant-loop-refusal
invariant-loop-refusal l =
    string_bytes l.text ≡ string_bytes l.initial.text ++ flat_map refused_text (take l.refusal-index l.refusals)
