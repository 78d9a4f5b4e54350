-- The rules of a machine, and what a list of commands does to it.
use Rattle.std.specs.Prelude.{ℕ, Bool, List, [], ◌∷◌, Option}
use Rattle.machine.specs.declared.error.ThawFault.{ThawFault}
use Rattle.machine.specs.declared.error.ThawFault.TheVariants.{Shape, Memory}

-- the opening state; the command that begins a ballot; the state after a command, and its outputs;
-- the bytes to which a state is frozen, and the state to which bytes are thawed
pub record Rules (S C O : Type 0) : Type 0 where
  pub opening : S
  pub start_of : ℕ → C
  pub after : S → C → S
  pub gives : S → C → List O
  pub frozen : S → List ℕ
  pub thawed : List ℕ → Option S

-- whether the calls of a machine may run out of memory: to make the opening state, to copy a
-- command, to apply a command to a state, to thaw bytes
pub record Needs (S C : Type 0) : Type 0 where
  pub to_open : Bool
  pub to_copy : C → Bool
  pub to_apply : S → C → Bool
  pub to_thaw : List ℕ → Bool

-- the state after commands that are applied to this state, oldest first
abbrev pub replay_from : {S C O : Type 0} → Rules S C O → S → List C → S
replay_from rules state [] = state
replay_from rules state (command ∷ commands) =
    replay_from rules (rules.after state command) commands

-- the state after commands that are applied to the opening state, oldest first
abbrev pub replay : {S C O : Type 0} → Rules S C O → List C → S
replay rules commands = replay_from rules rules.opening commands

-- the number of each error, as in the table of refusals
abbrev pub thaw_number : ThawFault → ℕ
thaw_number Shape = 10
thaw_number Memory = 12
