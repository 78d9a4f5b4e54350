use Rattle.std.proofs.Common.{◌≡◌, None, drop}
use Rattle.post.specs.Primaries.{highest_from}
use Rattle.post.proofs.recipients.primary_of.Given as goal

abbrev pub invariant-loop-shown : goal.invariant-loop-shown
invariant-loop-shown l = highest_from l.found (drop l.shown-index l.nodes) ≡ highest_from None l.nodes
