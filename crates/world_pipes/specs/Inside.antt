-- Definitions for the private functions of a `PipedClient`.
use Rattle.std.specs.Prelude.{◌≡◌, ℕ, Bool, true, false, List, [], ◌∷◌, ◌++◌, take, Result, Ok, Err}
use Rattle.client_base.specs.declared.error.ClientError.{ClientError}
use Rattle.client_base.specs.declared.error.ClientError.TheVariants as errors
use Rattle.client.specs.Core.{Core, gone}
use Rattle.client.specs.Input.{OnBytes}
use Rattle.world_pipes.specs.declared.pair.PipePair.{PipePair}
use Rattle.world_pipes.specs.declared.sending.Sending.{Sending}
use Rattle.world_pipes.specs.declared.sending.Sending.TheVariants as sendings
use Rattle.world_pipes.specs.Piped.{come_down}

-- what was written is in transit on the last of the connections
pub record MovesUp (core : Core) (pairs : List PipePair) (left : Core)
    (after : List PipePair) : Type 0 where
  pub handed : left ≡ record core { out = [] }
  pub moved : (older : List PipePair) (pair : PipePair) → pairs ≡ older ++ pair ∷ [] →
      after ≡ older ++ record pair { up = pair.up ++ core.out } ∷ []

-- what was written is sent up if a connection is held, which is lost if there is no memory
abbrev pub SendsUp : Bool → Core → List PipePair → Sending → Bool → Core → List PipePair → Type 0
SendsUp false core pairs sending holds left after =
    (sending ≡ sendings.Sent) × (holds ≡ false) × (left ≡ core) × (after ≡ pairs)
SendsUp true core pairs sendings.Sent holds left after =
    (holds ≡ true) × MovesUp core pairs left after
SendsUp true core pairs sendings.Lost holds left after =
    (holds ≡ false) × (left ≡ gone core) × (after ≡ pairs)

-- bytes arrive at a client
abbrev pub CarriesToClient :
    ℕ → Core → PipePair → Result (Unit {0}) ClientError → Core → PipePair → Type 0
CarriesToClient count core pair result left after =
    OnBytes (take count pair.down) core.state.stage core result left
    × (after ≡ come_down count pair)

-- after a lost session the connection continues
abbrev pub stays_open : Result (Unit {0}) ClientError → Bool
stays_open (Ok done) = true
stays_open (Err errors.SessionLost) = true
stays_open (Err cause) = false
