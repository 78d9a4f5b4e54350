-- The exit status for each error, and the program's error from those of its parts.
use Rattle.std.specs.Prelude.{ℕ}
use Rattle.clap.specs.Values.{kind_of}
use Rattle.clap.specs.declared.error.kind.ErrorKind.{ErrorKind}
use Rattle.clap.specs.declared.error.kind.ErrorKind.TheVariants as kinds
use Rattle.play.specs.declared.error.PlayError.{PlayError}
use Rattle.play.specs.declared.error.PlayError.TheVariants as plays
use Rattle.server.specs.declared.serve_error.ServeError.{ServeError}
use Rattle.server.specs.declared.serve_error.ServeError.TheVariants as serves
use Rattle.command_line.specs.declared.fault.TableFault.{TableFault}
use Rattle.command_line.specs.declared.fault.TableFault.TheVariants as tables
use Rattle.command_line.specs.declared.fault.LineFault.{LineFault}
use Rattle.command_line.specs.declared.fault.LineFault.TheVariants as lines
use Rattle.user_client.specs.declared.denial.Denial.{Denial}
use Rattle.user_client.specs.declared.denial.Denial.TheVariants as denials
use Rattle.user_client.specs.declared.user_client_error.UserClientError.{UserClientError}
use Rattle.user_client.specs.declared.user_client_error.UserClientError.TheVariants as clients
use Rattle.jobs.specs.declared.loss_cause.LossCause.TheVariants as causes
use Rattle.jobs.specs.declared.job_error.JobError.{JobError}
use Rattle.jobs.specs.declared.job_error.JobError.TheVariants as errors

-- 1 for file, network, memory, clock and threads, and for a client that was not served. 2 for the
-- command line. 3 for a table, a script or another argument, and for no recovery
abbrev pub exit_status : JobError → ℕ
exit_status errors.Memory = 1
exit_status errors.Input = 1
exit_status errors.Output = 1
exit_status errors.Clock = 1
exit_status errors.Threads = 1
exit_status (errors.Files count) = 1
exit_status (errors.File file kind) = 1
exit_status (errors.Address address kind) = 1
exit_status errors.Words = 2
exit_status errors.LogWord = 2
exit_status errors.Table = 3
exit_status (errors.Script number) = 3
exit_status errors.Losses = 1
exit_status errors.Idle = 3
exit_status (errors.Refused number) = 3
exit_status errors.SessionPresent = 1
exit_status (errors.Lost cause) = 1
exit_status errors.NotSubscribed = 1

-- 0 if the version was asked for, 1 if memory ran out, 2 for help and for each refused word or
-- number
abbrev pub words_status : ErrorKind → ℕ
words_status kinds.DisplayVersion = 0
words_status kinds.OutOfMemory = 1
words_status kind = 2

-- for a command line that gives no job
abbrev pub line_status : LineFault → ℕ
line_status (lines.Words error) = words_status (kind_of error)
line_status lines.Incomplete = exit_status errors.Words
line_status lines.Memory = exit_status errors.Memory

-- for a script that was not played as it should be
abbrev pub error_of_play : PlayError → JobError
error_of_play (plays.Line number) = errors.Script number
error_of_play plays.Memory = errors.Memory
error_of_play plays.Losses = errors.Losses
error_of_play plays.Idle = errors.Idle

-- for nodes that were not served
abbrev pub error_of_serving : ServeError → JobError
error_of_serving serves.BadMembers = errors.Table
error_of_serving serves.Memory = errors.Memory
error_of_serving serves.Clock = errors.Clock
error_of_serving serves.Threads = errors.Threads

-- for a table of nodes that could not be read
abbrev pub error_of_table : TableFault → JobError
error_of_table tables.Shape = errors.Table
error_of_table tables.Memory = errors.Memory

-- for a client that a server denied what it asked for
abbrev pub error_of_denial : Denial → JobError
error_of_denial (denials.Connack code) = errors.Lost (causes.Connack code)
error_of_denial denials.Suback = errors.NotSubscribed

-- for a client that did not do its job
abbrev pub error_of_client : UserClientError → JobError
error_of_client (clients.Refused number) = errors.Refused number
error_of_client clients.SessionPresent = errors.SessionPresent
error_of_client clients.Lost = errors.Lost causes.Closed
error_of_client clients.SessionLost = errors.Lost causes.SessionLost
error_of_client (clients.Denied denial) = error_of_denial denial
error_of_client clients.Memory = errors.Memory
error_of_client clients.Output = errors.Output
