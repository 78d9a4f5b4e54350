use Rattle.std.proofs.Common.{◌/◌}
use Rattle.std.specs.Prelude.{count_by}
use Rattle.notices.specs.Limits.{is_due}
use Rattle.notices.proofs.telling.tell_held_back.Given as goal

abbrev pub decreases-loop-held : goal.decreases-loop-held
decreases-loop-held g l = count_by (λ window. is_due window (l.now_millis / 1000)) l.limiter
