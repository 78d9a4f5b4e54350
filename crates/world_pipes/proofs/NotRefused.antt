-- NotRefused.antt: what holds if a call is not refused.
use Rattle.std.proofs.Common.{◌≡◌, Bool, true, false, not, ◌&&◌, if◌then◌else◌, Option, Some, None, is_some, refl, ap}
use Rattle.std.proofs.lemmas.Bool.{both_ways}
use Rattle.session_base.specs.declared.publication.Publication.{Publication}
use Rattle.session_base.specs.Publication.{is_answered}
use Rattle.client_base.specs.declared.error.ClientError.{ClientError}
use Rattle.client_base.specs.declared.error.ClientError.TheVariants as errors
use Rattle.client_base.specs.State.{ClientState, is_online}
use Rattle.client_base.specs.Answered.{ClientOutcome}
use Rattle.client_base.specs.Publications.{has_free_id, is_over_limit, publish_packet, publish_refusal}
use Rattle.client_base.specs.Steps.{unless_refused}

-- a call that is not refused
pub not_refused : (refusal : Option ClientError) (outcome : ClientOutcome) (state : ClientState) → (unless_refused refusal outcome state).refusal ≡ None → refusal ≡ None
not_refused None outcome state taken = refl
not_refused (Some cause) outcome state taken = taken

-- a publication has an identifier if it is answered, is sent at once if it is not, and is not too
-- large
pub record IsPublished (answered free online large : Bool) : Type 0 where
  pub named : answered ≡ true → free ≡ true
  pub goes_out : answered ≡ false → online ≡ true
  pub small : large ≡ false

published_so : (answered few free online large : Bool) →
    (if answered && not (few && free) then Some errors.WindowFull else if not answered && not online then Some errors.NotActive else if large then Some errors.TooLarge else None) ≡ None
    → IsPublished answered free online large
published_so true true true online false taken = record { named = λ e. refl; goes_out = λ e. absurd (both_ways true e refl); small = refl }
published_so true true true online true taken = absurd (both_ways true (ap is_some taken) refl)
published_so true true false online large taken = absurd (both_ways true (ap is_some taken) refl)
published_so true false free online large taken = absurd (both_ways true (ap is_some taken) refl)
published_so false few free true false taken = record { named = λ e. absurd (both_ways false refl e); goes_out = λ e. refl; small = refl }
published_so false few free true true taken = absurd (both_ways true (ap is_some taken) refl)
published_so false few free false large taken = absurd (both_ways true (ap is_some taken) refl)

pub is_published : (p : Publication) (state : ClientState) → publish_refusal p state ≡ None →
    IsPublished (is_answered p.qos) (has_free_id state) (is_online state.stage) (is_over_limit (publish_packet p state))
is_published p state taken = published_so (is_answered p.qos) _ (has_free_id state) (is_online state.stage) (is_over_limit (publish_packet p state)) taken

-- a request has an identifier, and the client is online
pub asked_so : (online free : Bool) → (if not online then Some errors.NotActive else if not free then Some errors.WindowFull else None) ≡ None →
    (online ≡ true) × (free ≡ true)
asked_so true true taken = (refl, refl)
asked_so true false taken = absurd (both_ways true (ap is_some taken) refl)
asked_so false free taken = absurd (both_ways true (ap is_some taken) refl)
