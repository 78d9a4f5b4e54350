-- What the parts of `report_connection` report.
use Rattle.std.specs.Prelude.{◌≡◌, ℕ, ◌≤◌, List, [], ◌∷◌, ◌++◌, Option, Result, Ok, Err}
use Rattle.std.specs.Io.KnownBytes.{Consumes}
use Rattle.world_base.specs.declared.node_connections.port.Port.{Port}
use Rattle.world_base.specs.declared.node_core.item.Item.{Item}
use Rattle.node_base.specs.declared.connection.ending.Ending.{Ending}
use Rattle.node_base.specs.connection.Reports.{Came, EndsSo, Rises, faults_after, all_bytes, pieces_reported}

-- these pieces were reported; what was read is these pieces followed by what was lost
pub record HearsPieces
    (port : Port) (old new : List Item) (pieces : List Came) (lost : List ℕ)
    (before after : Option (List ℕ))
    : Type 0 where
  pub reported : new ≡ old ++ pieces_reported port pieces
  pub gave : Consumes before after (all_bytes pieces ++ lost)

-- pieces were reported for a connection that was opened at this time, and then it ended so
pub record HearsOn
    (port : Port) (opened : ℕ) (old new : List Item) (ending : Ending)
    (before after : Option (List ℕ))
    : Type 0 where
  pub pieces : List Came
  pub lost : List ℕ
  pub hears : HearsPieces port old new pieces lost before after
  pub ends : EndsSo ending pieces lost after
  pub last : ℕ
  pub times : Rises opened pieces last

-- some pieces were reported, the last at this time, and none was lost
pub record HearsSome
    (port : Port) (opened last : ℕ) (old new : List Item) (before after : Option (List ℕ))
    : Type 0 where
  pub pieces : List Came
  pub hears : HearsPieces port old new pieces [] before after
  pub times : Rises opened pieces last

-- one piece was reported, no earlier than the last one; or none, and the connection ended
abbrev pub HearsPiece :
    Port → ℕ → List Item → List Item → Result ℕ Ending
    → Option (List ℕ) → Option (List ℕ) → Type 0
HearsPiece port last old new (Ok now) before after =
    (last ≤ now)
    × ((bytes : List ℕ)
    × HearsPieces port old new (record { bytes = bytes; now = now } ∷ []) [] before after)
HearsPiece port last old new (Err ending) before after =
    (new ≡ old)
    × ((lost : List ℕ)
    × Consumes before after lost
    × ((pieces : List Came) → EndsSo ending pieces lost after))

-- the count of the device's failed calls after one piece
abbrev pub faults_so_far : Result ℕ Ending → ℕ → ℕ
faults_so_far (Ok now) faults = faults
faults_so_far (Err ending) faults = faults_after ending faults
