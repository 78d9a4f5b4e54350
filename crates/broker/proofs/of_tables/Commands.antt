-- Commands.antt: a Lost and a Start have no answers, and a step of the tables is the step of the state.
use Rattle.std.proofs.Common.{◌≡◌, refl, [], false, Result, Ok, Err}
use Rattle.std.specs.Prelude.{ℕ, OnOk, is_err}
use Rattle.broker_spec.specs.Connection.{ConnectionName}
use Rattle.broker_spec.specs.Commands.{usual_limits}
use Rattle.broker_spec.specs.declared.command.Command.{Command}
use Rattle.broker_spec.specs.declared.command.Command.TheVariants as commands
use Rattle.broker_base.specs.Step.{step}
use Rattle.broker.specs.declared.tables.tables.Tables.{Tables}
use Rattle.broker.specs.tables.Tables.{state_in, stepped}

pub quiet_loss : (tables : Tables) (x : ConnectionName) → (stepped tables (commands.Lost x)).1 ≡ []
unfolding stepped
quiet_loss tables x = refl

pub quiet_start : (tables : Tables) (ballot : ℕ) → (stepped tables (commands.Start ballot)).1 ≡ []
unfolding stepped
quiet_start tables ballot = refl

pub stepped_is : (tables : Tables) (command : Command) → stepped tables command ≡ step usual_limits 64 (state_in tables) command
unfolding stepped
stepped_is tables command = refl

-- what holds if nothing was refused
pub at_ok : {T E P : Type 0} (r : Result T E) → is_err r ≡ false → OnOk r P → P
at_ok (Ok done) e p = p
at_ok (Err fault) e p = absurd (cc)
