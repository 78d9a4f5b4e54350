-- The invariant of a `PipedClient`.
use Rattle.std.specs.Prelude.{◌≡◌, ◌<◌, Bool, true, List, [], length}
use Rattle.client_base.specs.State.{is_open}
use Rattle.client.specs.Core.{Core}
use Rattle.world_pipes.specs.declared.pair.PipePair.{PipePair}

-- whether a connection is held; then there is one, and all that was written on it is in its pipe
pub record IsHeld (holds : Bool) (core : Core) (pairs : List PipePair) : Type 0 where
  pub known : holds ≡ is_open core.state.stage
  pub leads : holds ≡ true → 0 < length pairs
  pub sent : holds ≡ true → core.out ≡ []
