-- UncountedIsExact.antt: an event that was not idle was done exactly, if no loss was counted.
use Rattle.std.proofs.Common.{inl, inr, ap, arith}
use Rattle.std.specs.Prelude.{Ok}
use Rattle.world_pipes.specs.declared.events.event.Event.{Event}
use Rattle.world.specs.Trace.{WorldLosesNothing}
use Rattle.world.specs.Events.{EventHappens, HappensExactly}
use Rattle.world.specs.World.{WorldState}
use Rattle.world.proofs.Joined.{counted_loss}

pub uncounted_is_exact : (event : Event) (old new : WorldState) → EventHappens event old (Ok tt) new → WorldLosesNothing old new → HappensExactly event old new
uncounted_is_exact event old new (inl exact) none = exact
uncounted_is_exact event old new (inr losing) none = absurd (counted_loss old new old.losses (omega arith) (ap (λ (w : WorldState). w.losses) losing.counted) none)
