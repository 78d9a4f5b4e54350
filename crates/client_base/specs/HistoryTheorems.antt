-- A client without history does the same as the one with it.
use Rattle.std.specs.Prelude.{◌≡◌, ℕ, true, List, map, None}
use Rattle.packet.specs.declared.packet.Packet.{Packet}
use Rattle.client_base.specs.State.{ClientState, is_open}
use Rattle.client_base.specs.Keeper.{ClientConnection, Side}
use Rattle.client_base.specs.Steps.{Call, keeper_step}
use Rattle.client_base.specs.Called.{keeper_goes}
use Rattle.client_base.specs.History.{KeeperStandsFor, WritesMore}

-- whether a call has an effect: it returns no error, and a packet comes on an open connection
abbrev pub HasEffect : Call → ClientState → Type 0
HasEffect (Call.Receives packet) state = is_open state.stage ≡ true
HasEffect call state = (keeper_step call state).refusal ≡ None

-- what the step writes is appended to what was written, or begins a connection that it opens
abbrev pub WritesSo : Call → ClientConnection ℕ → ClientConnection ℕ → List Packet → Type 0
WritesSo Call.Opens before after packets = map (λ written. written.packet) after.written ≡ packets
WritesSo call before after packets = WritesMore before after packets

-- Connections are named by numbers here, the next one by a fresh number; nothing else is required
-- of names.
abbrev pub CallsFollow : Type 0
CallsFollow =
    (call : Call) (fresh : ℕ) (side : Side ℕ) (state : ClientState) →
    state.keep_alive ≡ 0 → KeeperStandsFor side.keeper state → HasEffect call state →
    let after = keeper_goes fresh call side in
    KeeperStandsFor after.keeper (keeper_step call state).state
    × WritesSo call side.connection after.connection (keeper_step call state).writes
