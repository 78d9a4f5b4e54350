use Rattle.std.proofs.Common.{◌≡◌, ℕ, ◌<◌, false}
use Rattle.std.specs.Prelude.{slice_index_or}
use Rattle.notices.specs.Limits.{fresh_window, is_due}
use Rattle.notices.proofs.limiter.Limiter.take_held_back.Given as goal

abbrev pub invariant-loop-number : goal.invariant-loop-number
invariant-loop-number l =
    record {
      same : l.self-inside ≡ l.initial.self-inside;
      none : (k : ℕ) → k < l.number → is_due (slice_index_or l.self-inside.windows k fresh_window) l.second ≡ false;
    }
