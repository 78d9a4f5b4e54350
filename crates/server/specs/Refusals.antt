-- The errors of serving that come from the opening of a node.
use Rattle.ballot_base.specs.declared.errors.error.OpeningError.{OpeningError}
use Rattle.ballot_base.specs.declared.errors.error.OpeningError.TheVariants as opening
use Rattle.server.specs.declared.serve_error.ServeError.{ServeError}
use Rattle.server.specs.declared.serve_error.ServeError.TheVariants.{BadMembers, Memory}

-- the error of `serve_while` for a node that did not open
abbrev pub serve_error_of : OpeningError → ServeError
serve_error_of opening.BadMembers = BadMembers
serve_error_of opening.Memory = Memory
