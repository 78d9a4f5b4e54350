-- The exit status for each error.
use Rattle.std.specs.Prelude.{ℕ}
use Rattle.cluster.specs.declared.master.master_error.MasterError.{MasterError}
use Rattle.cluster.specs.declared.master.master_error.MasterError.TheVariants as errors

-- 1 for file, network, memory, clock, random bytes and threads; 2 for the command line; 3 for a
-- table, a key or a state that is refused
abbrev pub exit_status : MasterError → ℕ
exit_status errors.Memory = 1
exit_status errors.Input = 1
exit_status errors.Clock = 1
exit_status errors.Random = 1
exit_status errors.Threads = 1
exit_status (errors.File file kind) = 1
exit_status (errors.Address address kind) = 1
exit_status errors.Words = 2
exit_status (errors.Table fault) = 3
exit_status (errors.OpenKey file) = 3
exit_status (errors.Key file) = 3
exit_status (errors.State file error) = 3
