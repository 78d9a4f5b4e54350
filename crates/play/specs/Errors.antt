-- The error of playing, from those of its parts.
use Rattle.ballot_base.specs.declared.errors.error.OpeningError.{OpeningError}
use Rattle.ballot_base.specs.declared.errors.error.OpeningError.TheVariants as openings
use Rattle.script.specs.declared.error.ScriptFault.{ScriptFault}
use Rattle.script.specs.declared.error.ScriptFault.TheVariants as scripts
use Rattle.world_pipes.specs.declared.events.escape_error.EscapeError.{EscapeError}
use Rattle.world_pipes.specs.declared.events.escape_error.EscapeError.TheVariants as escapes
use Rattle.play.specs.declared.error.PlayError.{PlayError}
use Rattle.play.specs.declared.error.PlayError.TheVariants as errors

-- for a text that is no script
abbrev pub error_of_script : ScriptFault → PlayError
error_of_script (scripts.Line number) = errors.Line number
error_of_script scripts.Memory = errors.Memory

-- for a world that does not open
abbrev pub error_of_opening : OpeningError → PlayError
error_of_opening openings.BadMembers = errors.Line 1
error_of_opening openings.Memory = errors.Memory

-- for a recovery that is not returned
abbrev pub error_of_escape : EscapeError → PlayError
error_of_escape escapes.Idle = errors.Idle
error_of_escape escapes.Memory = errors.Memory
