-- Which messages are copied without taking memory.
use Rattle.std.specs.Prelude.{Bool, true, false}
use Rattle.ballot_base.specs.declared.message.Body.{Body}
use Rattle.ballot_base.specs.declared.message.Body.TheVariants.{NewBallot, Join, State, Install, Installed, Activate}
use Rattle.ballot_base.specs.declared.message.Body.TheVariants.{Activated, Superseded, Append, Held, Commit}

-- whether a message has only numbers: no members, no log and no command
abbrev pub has_numbers_alone : {C : Type 0} → Body C → Bool
has_numbers_alone (NewBallot ballot members previous previous_members) = false
has_numbers_alone (Join ballot previous) = true
has_numbers_alone (State ballot log) = false
has_numbers_alone (Install ballot log) = false
has_numbers_alone (Installed ballot held) = true
has_numbers_alone (Activate ballot) = true
has_numbers_alone (Activated ballot) = true
has_numbers_alone (Superseded ballot) = true
has_numbers_alone (Append ballot place command) = false
has_numbers_alone (Held ballot held) = true
has_numbers_alone (Commit ballot committed) = true
