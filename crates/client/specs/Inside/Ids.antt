-- The identifier of the next request or publication.
use Rattle.std.specs.Prelude.{◌≡◌, ℕ, true, false, ◌&&◌, nat_lt, Some, None, Result, Ok, Err}
use Rattle.client_base.specs.declared.error.ClientError.{ClientError}
use Rattle.client_base.specs.declared.error.ClientError.TheVariants as errors
use Rattle.client_base.specs.State.{ClientState, kept_count}
use Rattle.client_base.specs.Publications.{next_id, has_free_id, max_kept}
use Rattle.client_base.specs.Steps.{request_refusal}

-- the next identifier, or the error of a request
abbrev pub RequestId : ClientState → Result ℕ ClientError → Type 0
RequestId state (Ok id) = (id ≡ next_id state) × (request_refusal state ≡ None)
RequestId state (Err cause) = request_refusal state ≡ Some cause

-- the next identifier, if fewer than `max_kept` publications are kept and one is free, otherwise
-- WindowFull
abbrev pub PublicationId : ClientState → Result ℕ ClientError → Type 0
PublicationId state (Ok id) =
    (id ≡ next_id state) × ((nat_lt (kept_count state) max_kept && has_free_id state) ≡ true)
PublicationId state (Err cause) =
    (cause ≡ errors.WindowFull)
    × ((nat_lt (kept_count state) max_kept && has_free_id state) ≡ false)
