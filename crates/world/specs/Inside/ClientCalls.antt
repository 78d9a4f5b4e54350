-- A call of a client.
use Rattle.std.specs.Prelude.{◌≡◌, Result, Ok, Err, IsOk, IsErr}
use Rattle.ballot_base.specs.Losses.{one_more}
use Rattle.client_base.specs.declared.error.ClientError.{ClientError}
use Rattle.client_base.specs.declared.error.ClientError.TheVariants as errors
use Rattle.master.specs.declared.event.Idle.{Idle}
use Rattle.world_pipes.specs.declared.sending.Sending.{Sending}
use Rattle.world_pipes.specs.declared.sending.Sending.TheVariants as sendings
use Rattle.world.specs.World.{WorldState}

-- one loss more is counted
abbrev pub with_one_loss : WorldState → WorldState
with_one_loss world = record world { losses = one_more world.losses }

-- the result of a call: running out of memory is counted, and any other refusal is idle
abbrev pub CountsRefusal : Result Sending ClientError → WorldState → Result (Unit {0}) Idle →
    WorldState →
    Type 0
CountsRefusal (Ok sendings.Sent) old result new = IsOk result × (new ≡ old)
CountsRefusal (Ok sendings.Lost) old result new = IsOk result × (new ≡ with_one_loss old)
CountsRefusal (Err errors.Memory) old result new = IsOk result × (new ≡ with_one_loss old)
CountsRefusal (Err cause) old result new = IsErr result × (new ≡ old)
