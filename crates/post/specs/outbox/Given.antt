-- Messages with their receivers.
use Rattle.std.specs.Prelude.{◌≡◌, ℕ}
use Rattle.ballot_base.specs.StepOutcome.{master}
pub use Rattle.run_history.specs.Sending.{Addressed}

-- this number is the master's, 0
abbrev pub IsMasterNumber : ℕ → Type 0
IsMasterNumber receiver = receiver ≡ master
