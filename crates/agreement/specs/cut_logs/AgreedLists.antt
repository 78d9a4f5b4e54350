-- What nodes that cut their logs agree on, what left them, and which is primary: on whole logs.
use Rattle.std.specs.Prelude.{ℕ, List, map}
use Rattle.machine.specs.Machine.{Rules}
use Rattle.agreement.specs.Agreement.{Agrees as AgreesWhole, Holds as HoldsWhole}
use Rattle.agreement.specs.LeftOutputs.{LeftInOrder as LeftInOrderWhole}
use Rattle.agreement.specs.MasterState.{MasterState}
use Rattle.agreement.specs.Primaries.{IsPrimary as IsPrimaryWhole}
use Rattle.agreement.specs.cut_logs.Moments.{Moment, whole_moment}
use Rattle.agreement.specs.cut_logs.World.{CutGroupWorld, whole_world}

-- what is applied anywhere is a prefix of the list, and each member of the active ballot holds it
abbrev pub Agrees : {S C O : Type 0} → Rules S C O → MasterState → CutGroupWorld S C O → List C →
    Type 0
Agrees rules master world list = AgreesWhole rules master (whole_world world) list

-- some member of the active ballot holds it
abbrev pub Holds : {S C O : Type 0} → MasterState → CutGroupWorld S C O → List C → Type 0
Holds master world list = HoldsWhole master (whole_world world) list

-- the outputs that left are the machine's answers at places of it, in order
abbrev pub LeftInOrder : {S C O : Type 0} →
    Rules S C O → List (Moment S C O) → CutGroupWorld S C O → List C → Type 0
LeftInOrder rules moments world list =
    LeftInOrderWhole rules (map whole_moment moments) (whole_world world) list

-- the node at an index is the active primary of a ballot
abbrev pub IsPrimary : {S C O : Type 0} → CutGroupWorld S C O → ℕ → ℕ → Type 0
IsPrimary world node ballot = IsPrimaryWhole (whole_world world) node ballot
