-- The answers to a list of commands.
use Rattle.std.specs.Prelude.{List, [], ◌∷◌}
use Rattle.broker_spec.specs.Place.{Place, Past, Limits}
use Rattle.broker_spec.specs.Commands.{place_of}
use Rattle.broker_spec.specs.declared.command.Command.{Command}
use Rattle.broker_spec.specs.declared.command.Output.{Output}
use Rattle.broker_spec.specs.Answers.{answers_by}

-- the answers at a place
abbrev pub answers_at : Limits → Place → Past → List Output
answers_at limits place past = answers_by limits place past place.command place.mark

-- the answers to a command after these places
abbrev pub answers_of : Limits → Past → Command → List Output
answers_of limits past command = answers_at limits (place_of limits past command) past

-- the answers to more commands, oldest first, place by place
unfoldable pub answers_from : Limits → Past → List Command → List (List Output)
answers_from limits past (command ∷ commands) =
    answers_of limits past command
    ∷ answers_from limits (place_of limits past command ∷ past) commands
answers_from limits past [] = []
