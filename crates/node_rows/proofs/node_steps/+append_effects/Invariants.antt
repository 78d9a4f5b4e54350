use Rattle.std.proofs.Common.{length}
use Rattle.node_rows.proofs.node_steps.+append_effects.Given as goal

abbrev pub decreases-append_effects : goal.decreases-append_effects
decreases-append_effects l = length l.given.now
