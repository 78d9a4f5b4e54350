-- How many places each node acknowledged in a ballot, by the messages that were sent.
use Rattle.std.specs.Prelude.{ℕ, ◌==◌, List, [], ◌∷◌, max, if◌then◌else◌}
use Rattle.ballot_base.specs.declared.message.Body.{Body}
use Rattle.ballot_base.specs.declared.message.Body.TheVariants.{NewBallot, Join, State, Install, Installed, Activate}
use Rattle.ballot_base.specs.declared.message.Body.TheVariants.{Activated, Superseded, Append, Held, Commit}
use Rattle.ballot_base.specs.declared.message.Message.{Message}

-- the length that a body acknowledges in a ballot
abbrev pub acknowledged_by : {C : Type 0} → ℕ → Body C → ℕ
acknowledged_by ballot (NewBallot other members previous old) = 0
acknowledged_by ballot (Join other previous) = 0
acknowledged_by ballot (State other log) = 0
acknowledged_by ballot (Install other log) = 0
acknowledged_by ballot (Installed other held) = if other == ballot then held else 0
acknowledged_by ballot (Activate other) = 0
acknowledged_by ballot (Activated other) = 0
acknowledged_by ballot (Superseded other) = 0
acknowledged_by ballot (Append other place command) = 0
acknowledged_by ballot (Held other held) = if other == ballot then held else 0
acknowledged_by ballot (Commit other held) = 0

-- the length that a message of a node acknowledges
abbrev pub acknowledged_in : {C : Type 0} → ℕ → ℕ → Message C → ℕ
acknowledged_in node ballot message =
    if message.from == node then acknowledged_by ballot message.body else 0

-- the greatest length that a node acknowledged in these messages
abbrev pub max_acknowledged : {C : Type 0} → ℕ → ℕ → List (ℕ × Message C) → ℕ
max_acknowledged node ballot [] = 0
max_acknowledged node ballot (row ∷ sent) =
    max (acknowledged_in node ballot row.1) (max_acknowledged node ballot sent)
