-- A call of a client, and the loss of its connection.
use Rattle.std.specs.Prelude.{◌≡◌, Result, Err}
use Rattle.client.specs.Core.{gone}
use Rattle.client_base.specs.Steps.{Call, keeper_step}
use Rattle.client_base.specs.declared.error.ClientError.{ClientError}
use Rattle.client_base.specs.declared.error.ClientError.TheVariants as errors
use Rattle.world_pipes.specs.declared.sending.Sending.{Sending}
use Rattle.world_pipes.specs.Piped.{Calls, Piped}

-- what is in transit stays
abbrev pub LosesConnection : Piped → Piped → Type 0
LosesConnection old new = new ≡ record old { core = gone old.core }

-- a call with a copy, for which memory may run out
abbrev pub IsCall : Call → Piped → Result Sending ClientError → Piped → Type 0
IsCall call old (Err errors.Memory) new = Unit {0}
IsCall call old done new = Calls (keeper_step call old.core.state) old done new
