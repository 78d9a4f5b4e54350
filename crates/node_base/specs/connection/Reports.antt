-- What is reported of a connection: that it was opened, each piece that was read from it, and that
-- it ended.
use Rattle.std.specs.Prelude.{◌≡◌, ℕ, ◌≤◌, Bool, true, false, List, [], ◌∷◌, ◌++◌, length, map, Option}
use Rattle.std.specs.List.{flat_map}
use Rattle.std.specs.Io.KnownBytes.{Consumes, IsAtEnd}
use Rattle.node_base.specs.devices.Counted.{counted_once}
use Rattle.node_base.specs.declared.devices.counted.TheConstants.{PIECE_BYTES}
use Rattle.world_base.specs.declared.node_connections.port.Port.{Port}
use Rattle.world_base.specs.declared.node_core.item.Item.{Item}
use Rattle.world_base.specs.declared.node_core.item.Item.TheVariants.{Opened, Bytes, Ended}
use Rattle.node_base.specs.declared.connection.ending.Ending.{Ending}
use Rattle.node_base.specs.declared.connection.ending.Ending.TheVariants as endings

-- a piece that was read, and the time with which it was reported
pub record Came : Type 0 where
  pub bytes : List ℕ
  pub now : ℕ

-- the times of these pieces do not decrease, from the opening of the connection to the last of them
pub data Rises (opened : ℕ) : List Came → ℕ → Type 0 where
  -- no piece yet
  opens : Rises opened [] opened
  -- one more, not before the last
  comes : {pieces : List Came} {last : ℕ} (piece : Came)
      → Rises opened pieces last → last ≤ piece.now → Rises opened (pieces ++ piece ∷ []) piece.now

-- the items of these pieces, in order
abbrev pub pieces_reported : Port → List Came → List Item
pieces_reported port pieces = map (λ (piece : Came). Bytes port piece.bytes piece.now) pieces

-- the whole report of a connection that was opened at this time, and from which these pieces were
-- read
abbrev pub report_of : Port → ℕ → List Came → List Item
report_of port opened pieces = Opened port opened ∷ (pieces_reported port pieces ++ Ended port ∷ [])

-- the bytes of all pieces, in order
abbrev pub all_bytes : List Came → List ℕ
all_bytes pieces = flat_map (λ (piece : Came). piece.bytes) pieces

-- How the connection ended: the pieces reported, the bytes read and not reported, and what the
-- device has left. A byte is lost only if memory ran out.
abbrev pub EndsSo : Ending → List Came → List ℕ → Option (List ℕ) → Type 0
EndsSo endings.Refused pieces lost after = (pieces ≡ []) × (lost ≡ [])
EndsSo endings.End pieces lost after = (lost ≡ []) × IsAtEnd after
EndsSo endings.Fault pieces lost after = lost ≡ []
EndsSo endings.Memory pieces lost after = length lost ≤ PIECE_BYTES

-- whether a connection that ended so was let in
abbrev pub was_let_in : Ending → Bool
was_let_in endings.Refused = false
was_let_in _ = true

-- the sink was asked whether the connection may be read, and returned this answer
pub record WasLet {H : Type 0} (lets : H → Bool → Type 0) (answer : Bool) : Type 0 where
  pub sink : H
  pub answered : lets sink answer

-- the count of the device's failed calls: it rises by one if a call failed, and not otherwise
abbrev pub faults_after : Ending → ℕ → ℕ
faults_after endings.Fault faults = counted_once faults
faults_after _ faults = faults

-- What was added to the earlier reports is the report of one whole connection. Its pieces are what
-- the device returned, and their times do not decrease.
pub record Hears
    (port : Port) (old new : List Item) (ending : Ending) (before after : Option (List ℕ))
    : Type 0 where
  pub opened : ℕ
  pub pieces : List Came
  pub lost : List ℕ
  pub reported : new ≡ old ++ report_of port opened pieces
  pub gave : Consumes before after (all_bytes pieces ++ lost)
  pub ends : EndsSo ending pieces lost after
  pub last : ℕ
  pub times : Rises opened pieces last
