-- CallsCounted.antt: a call of a client takes its world where it may go; if memory runs out, that
-- is counted; and a refusal changes nothing.
use Rattle.std.proofs.Common.{◌≡◌, ◌≤◌, ℕ, Bool, true, false, if◌then◌else◌, [], Some, Result, Ok, Err, IsOk, IsErr, OnErr, slice_get, refl, sym, ◌∙◌, subst}
use Rattle.std.proofs.lemmas.Bool.{both_ways}
use Rattle.client_base.specs.declared.error.ClientError.{ClientError}
use Rattle.client_base.specs.declared.error.ClientError.TheVariants as errors
use Rattle.master.specs.declared.event.Idle.{Idle}
use Rattle.world_pipes.specs.declared.sending.Sending.{Sending}
use Rattle.world_pipes.specs.declared.sending.Sending.TheVariants as sendings
use Rattle.world_pipes.specs.ModelSteps.{CallingFollows, FollowsAll}
use Rattle.world_pipes.specs.Piped.{Piped}
use Rattle.world_pipes.proofs.CallingFollows.{calling_goes}
use Rattle.world_pipes.specs.declared.clients.world_client.WorldClient.{WorldClient}
use Rattle.world.specs.Inside.ClientCalls.{CountsRefusal, with_one_loss}
use Rattle.world.specs.Inside.Steps.{IsTrace}
use Rattle.world.specs.World.{WorldState}
use Rattle.world.proofs.ClientGoes.{client_goes_with_loss, client_goes_on, same_piped, with_piped}
use Rattle.world.proofs.Joined.{goes_on_rest}

done_no_err : (result : Result (Unit {0}) Idle) (P : Type 0) → IsOk result → OnErr result P
done_no_err (Ok done) P ok = tt
done_no_err (Err idle) P ok = absurd (both_ways false refl ok)

pub on_err : (result : Result (Unit {0}) Idle) (P : Type 0) → P → OnErr result P
on_err (Ok done) P p = tt
on_err (Err idle) P p = p

pub record IsCounted (old : WorldState) (result : Result (Unit {0}) Idle) (new : WorldState) : Type 0 where
  pub goes : IsTrace old new
  pub same : OnErr result (new ≡ old)

idle_call : (old : WorldState) (i : ℕ) (client : WorldClient) (piped : Piped) (result : Result (Unit {0}) Idle) (new : WorldState) → slice_get old.clients i ≡ Some client →
    piped ≡ client.piped → IsErr result × (new ≡ with_piped i client piped old) → IsCounted old result new
idle_call old i client piped result new found same counts =
    let still : new ≡ old = counts.1 ∙ same_piped old i client piped found same in
    record { goes = goes_on_rest old new still; same = on_err result (new ≡ old) still }

pub call_counted : (old : WorldState) (i : ℕ) (client : WorldClient) (piped : Piped) (done : Result Sending ClientError) (result : Result (Unit {0}) Idle) (new : WorldState) →
    slice_get old.clients i ≡ Some client → CallingFollows [] client.piped done piped → old.losses ≤ (with_one_loss old).losses → CountsRefusal done (with_piped i client piped old) result new →
    IsCounted old result new
call_counted old i client piped (Ok sendings.Sent) result new found follows rises counts =
    record {
      goes = subst (λ w. IsTrace old w) (sym counts.1) (client_goes_on old i client piped found (calling_goes [] client.piped (Ok sendings.Sent) piped follows));
      same = done_no_err result (new ≡ old) counts.0;
    }
call_counted old i client piped (Ok sendings.Lost) result new found follows rises counts =
    record {
      goes = subst (λ w. IsTrace old w) (sym counts.1) (client_goes_with_loss old i client piped found follows rises);
      same = done_no_err result (new ≡ old) counts.0;
    }
call_counted old i client piped (Err errors.Memory) result new found follows rises counts =
    record {
      goes = subst (λ w. IsTrace old w) (sym counts.1)
          (client_goes_with_loss old i client piped found (calling_goes [] client.piped (Err errors.Memory) piped follows) rises);
      same = done_no_err result (new ≡ old) counts.0;
    }
call_counted old i client piped (Err errors.NotActive) result new found follows rises counts = idle_call old i client piped result new found follows counts
call_counted old i client piped (Err errors.WindowFull) result new found follows rises counts = idle_call old i client piped result new found follows counts
call_counted old i client piped (Err errors.TooLarge) result new found follows rises counts = idle_call old i client piped result new found follows counts
call_counted old i client piped (Err errors.SessionLost) result new found follows rises counts = idle_call old i client piped result new found follows counts
call_counted old i client piped (Err errors.Protocol) result new found follows rises counts = idle_call old i client piped result new found follows counts
call_counted old i client piped (Err (errors.Malformed kind)) result new found follows rises counts = idle_call old i client piped result new found follows counts

-- ---- what a client receives

pub carrying_counted : (old : WorldState) (i : ℕ) (client : WorldClient) (piped : Piped) (had : Bool) (new : WorldState) → slice_get old.clients i ≡ Some client →
    FollowsAll client.piped piped → old.losses ≤ (with_one_loss old).losses →
    new ≡ (if had then with_piped i client piped old else with_one_loss (with_piped i client piped old)) → IsTrace old new
carrying_counted old i client piped true new found follows rises is = subst (λ w. IsTrace old w) (sym is) (client_goes_on old i client piped found follows)
carrying_counted old i client piped false new found follows rises is = subst (λ w. IsTrace old w) (sym is) (client_goes_with_loss old i client piped found follows rises)
