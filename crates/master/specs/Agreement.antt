-- What holds for a group, whatever happened to it.
use Rattle.std.specs.Prelude.{◌≡◌, List, ◌∷◌, ◌++◌}
use Rattle.machine.specs.Machine.{Rules}
use Rattle.lists.specs.Lists.{IsPrefixOf}
use Rattle.ballot_base.specs.declared.config.Config.{Config}
use Rattle.agreement.specs.cut_logs.AgreedLists.{Agrees, Holds, LeftInOrder}
use Rattle.agreement.specs.cut_logs.Moments.{IsAgreed, Moment, Moments}

-- the trace has continued to a moment in which the nodes agree on the agreed list. The outputs that
-- left are its answers in order, and what was agreed before is a prefix of it. A log is meant as a
-- whole one, by the record of places, which is also a prefix of the agreed list.
pub record AgreesAfter {S C O : Type 0} (rules : Rules S C O) (config : Config)
    (moments : List (Moment S C O)) (moment : Moment S C O) : Type 0 where
  pub earlier : List (Moment S C O)
  pub between : List (Moment S C O)
  pub goes_on : moment ∷ earlier ≡ between ++ moments
  pub came : Moments rules config (moment ∷ earlier)
  pub list : List C
  pub agreed : IsAgreed config (moment ∷ earlier) list
  pub agrees : Agrees rules moment.master moment.world list
  pub holds : Holds moment.master moment.world list
  pub leaves : LeftInOrder rules (moment ∷ earlier) moment.world list
  pub recorded : IsPrefixOf moment.world.archive list
  pub only_grown : (before : List C) → IsAgreed config moments before → IsPrefixOf before list
