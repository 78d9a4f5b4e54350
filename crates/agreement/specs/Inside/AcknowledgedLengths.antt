-- How much of a ballot's list each member acknowledged, and the prefix that all of them
-- acknowledged, by the messages that were sent.
use Rattle.std.specs.Prelude.{ℕ, ◌==◌, List, [], ◌∷◌, length, if◌then◌else◌}
use Rattle.std.proofs.Common.{min, max}
use Rattle.agreement.specs.whole_logs.Messages.{Message, Body}
use Rattle.agreement.specs.whole_logs.Messages.Body.{NewBallot, Join, State, Install, Installed, Activate}
use Rattle.agreement.specs.whole_logs.Messages.Body.{Activated, Superseded, Append, Held, Commit}
use Rattle.agreement.specs.Inside.Ballots.{Given, Line}

-- the length that a body acknowledges of a ballot's list
abbrev pub acknowledged_by : {C : Type 0} → ℕ → Body C → ℕ
acknowledged_by ballot (NewBallot other members previous old) = 0
acknowledged_by ballot (Join other previous) = 0
acknowledged_by ballot (State other log) = 0
acknowledged_by ballot (Install other log) = 0
acknowledged_by ballot (Installed other held) = if other == ballot then held else 0
acknowledged_by ballot (Activate other) = 0
acknowledged_by ballot (Activated other) = 0
acknowledged_by ballot (Superseded other) = 0
acknowledged_by ballot (Append other place command) = 0
acknowledged_by ballot (Held other held) = if other == ballot then held else 0
acknowledged_by ballot (Commit other held) = 0

-- the length that a message from this member acknowledges
abbrev pub acknowledged_in : {C : Type 0} → ℕ → ℕ → Message C → ℕ
acknowledged_in node ballot message =
    if message.from == node then acknowledged_by ballot message.body else 0

-- the greatest length that a member acknowledged in these messages
abbrev pub max_acknowledged : {C : Type 0} → ℕ → ℕ → List (ℕ × Message C) → ℕ
max_acknowledged node ballot [] = 0
max_acknowledged node ballot (row ∷ sent) =
    max (acknowledged_in node ballot row.1) (max_acknowledged node ballot sent)

-- the primary acknowledges all of its list, another member what it sent
abbrev pub acknowledged_length : {C : Type 0} → List (ℕ × Message C) → ℕ → Given → Line C → ℕ → ℕ
acknowledged_length sent ballot given line member =
    if member == given.primary then length line.list else max_acknowledged member ballot sent

-- the least of the members' lengths, and at most a bound
abbrev pub least_of : ℕ → (ℕ → ℕ) → List ℕ → ℕ
least_of top length_of [] = top
least_of top length_of (member ∷ members) = min (length_of member) (least_of top length_of members)

-- how many places of a ballot's list all members acknowledged
abbrev pub chosen_length : {C : Type 0} → List (ℕ × Message C) → ℕ → Given → Line C → ℕ
chosen_length sent ballot given line =
    least_of (length line.list) (acknowledged_length sent ballot given line) given.members
