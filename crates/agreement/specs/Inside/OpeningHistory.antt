-- The history of a group that opens.
use Rattle.std.specs.Prelude.{◌==◌, [], ◌∷◌, Some, None, if◌then◌else◌}
use Rattle.ballot_base.specs.declared.config.Config.{Config}
use Rattle.agreement.specs.Inside.Ballots.{Given, Line, History}

-- ballot 1 as it opens, and its list
abbrev pub first_ballot : Config → Given
first_ballot config = record { members = config.members; primary = config.primary; previous = 0 }

-- the list of ballot 1 is empty
abbrev pub first_line : (C : Type 0) → Line C
first_line C = record { base = []; list = [] }

-- only ballot 1 is given and activated, and its list is empty
abbrev pub opening_history : (C : Type 0) → Config → History C
opening_history C config =
    record {
      given = λ ballot. if ballot == 1 then Some (first_ballot config) else None;
      activated = 1 ∷ [];
      line = λ ballot. if ballot == 1 then Some (first_line C) else None;
    }
