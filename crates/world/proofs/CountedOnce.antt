-- CountedOnce.antt: an event is counted once, if at all.
use Rattle.std.proofs.Common.{◌≡◌, inl, inr, ℕ, Bool, true, false, if◌then◌else◌, Result, Ok, Err, ap, ◌∙◌}
use Rattle.ballot_base.specs.Losses.{one_more}
use Rattle.client_base.specs.declared.error.ClientError.{ClientError}
use Rattle.client_base.specs.declared.error.ClientError.TheVariants as errors
use Rattle.master.specs.declared.event.Idle.{Idle}
use Rattle.world_pipes.specs.declared.sending.Sending.{Sending}
use Rattle.world_pipes.specs.declared.sending.Sending.TheVariants as sendings
use Rattle.world.specs.Trace.{CountsOnce}
use Rattle.world.specs.Inside.ClientCalls.{CountsRefusal, with_one_loss}
use Rattle.world.specs.Inside.Steps.{IsCounted}
use Rattle.world.specs.World.{WorldState}

-- not counted by its parts, or by one of them
pub counts_none : (old new : WorldState) → new.losses ≡ old.losses → CountsOnce old new
counts_none old new same = inl same

pub counts_one : (old new : WorldState) → new.losses ≡ one_more old.losses → CountsOnce old new
counts_one old new more = inr more

-- first something that is not counted, then this
pub still_then : (old mid new : WorldState) → mid.losses ≡ old.losses → CountsOnce mid new → CountsOnce old new
still_then old mid new still (inl same) = inl (same ∙ still)
still_then old mid new still (inr more) = inr (more ∙ ap one_more still)

-- this, and then something that is not counted
pub then_still : (old mid new : WorldState) → CountsOnce old mid → new.losses ≡ mid.losses → CountsOnce old new
then_still old mid new (inl same) still = inl (still ∙ same)
then_still old mid new (inr more) still = inr (still ∙ more)

-- a call of a client
pub call_once : (done : Result Sending ClientError) (old mid new : WorldState) (result : Result (Unit {0}) Idle) → mid.losses ≡ old.losses → CountsRefusal done mid result new → CountsOnce old new
call_once (Ok sendings.Sent) old mid new result still counts = inl (ap (λ (w : WorldState). w.losses) counts.1 ∙ still)
call_once (Ok sendings.Lost) old mid new result still counts = inr (ap (λ (w : WorldState). w.losses) counts.1 ∙ ap one_more still)
call_once (Err errors.Memory) old mid new result still counts = inr (ap (λ (w : WorldState). w.losses) counts.1 ∙ ap one_more still)
call_once (Err errors.NotActive) old mid new result still counts = inl (ap (λ (w : WorldState). w.losses) counts.1 ∙ still)
call_once (Err errors.WindowFull) old mid new result still counts = inl (ap (λ (w : WorldState). w.losses) counts.1 ∙ still)
call_once (Err errors.TooLarge) old mid new result still counts = inl (ap (λ (w : WorldState). w.losses) counts.1 ∙ still)
call_once (Err errors.SessionLost) old mid new result still counts = inl (ap (λ (w : WorldState). w.losses) counts.1 ∙ still)
call_once (Err errors.Protocol) old mid new result still counts = inl (ap (λ (w : WorldState). w.losses) counts.1 ∙ still)
call_once (Err (errors.Malformed kind)) old mid new result still counts = inl (ap (λ (w : WorldState). w.losses) counts.1 ∙ still)

-- bytes that come, for which there was memory or not
pub had_once : (had : Bool) (old mid new : WorldState) → mid.losses ≡ old.losses → new ≡ (if had then mid else with_one_loss mid) → CountsOnce old new
had_once true old mid new still is = inl (ap (λ (w : WorldState). w.losses) is ∙ still)
had_once false old mid new still is = inr (ap (λ (w : WorldState). w.losses) is ∙ ap one_more still)

-- a whole step: what is counted already is not counted again
pub step_once : (old mid new : WorldState) (before counted : ℕ) → counted ≡ old.losses → CountsOnce old mid → IsCounted before counted mid new → CountsOnce old new
step_once old mid new before counted is once (inl none) = then_still old mid new once (ap (λ (w : WorldState). w.losses) none.0)
step_once old mid new before counted is once (inr one) = inr (ap (λ (w : WorldState). w.losses) one.0 ∙ ap one_more (one.1 ∙ is))
