-- What a client does in an event: exactly, or, if losses are allowed (`whole` is false), perhaps
-- with losses.
use Rattle.std.specs.Prelude.{◌≡◌, ℕ, Bool, true, false, List, Ok}
use Rattle.client_base.specs.Steps.{Call, keeper_step}
use Rattle.world_pipes.specs.declared.sending.Sending.{Sending}
use Rattle.world_pipes.specs.declared.sending.Sending.TheVariants as sendings
use Rattle.world_pipes.specs.Piped.{Calls, Piped, TakesLeave}
use Rattle.world.specs.Found.{Named, with_piped}
use Rattle.world.specs.World.{WorldState}

-- the client of this identifier does this, and nothing else changes
abbrev pub ClientDoes : List ℕ → (Piped → Piped → Type 0) → WorldState → WorldState → Type 0
ClientDoes name does old new =
    (named : Named name old) × (piped : Piped) × does named.client.piped piped
    × (new ≡ with_piped named.at named.client piped old)

-- what the client writes is in transit; if losses are allowed, its connection may be lost instead
abbrev pub SendsCall : Call → Bool → Piped → Piped → Type 0
SendsCall call true old new = Calls (keeper_step call old.core.state) old (Ok sendings.Sent) new
SendsCall call false old new =
    (sending : Sending) × Calls (keeper_step call old.core.state) old (Ok sending) new

-- the client's connection is lost: there was no memory for what the client wrote
abbrev pub LosesAsking : Call → Piped → Piped → Type 0
LosesAsking call old new = Calls (keeper_step call old.core.state) old (Ok sendings.Lost) new

-- the client's DISCONNECT is in transit; if losses are allowed, its connection may be lost instead
abbrev pub SendsDisconnect : Bool → Piped → Piped → Type 0
SendsDisconnect true old new =
    TakesLeave (keeper_step Call.Disconnects old.core.state) old (Ok sendings.Sent) new
SendsDisconnect false old new =
    (sending : Sending)
    × TakesLeave (keeper_step Call.Disconnects old.core.state) old (Ok sending) new

-- the client leaves without a DISCONNECT: there was no memory for it
abbrev pub LosesLeaving : Piped → Piped → Type 0
LosesLeaving old new =
    TakesLeave (keeper_step Call.Disconnects old.core.state) old (Ok sendings.Lost) new
