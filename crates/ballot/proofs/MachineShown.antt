-- MachineShown.antt: what a replica that runs shows of its machine.
use Rattle.std.proofs.Common.{◌≡◌, Bool, true, false, cond, refl, List}
use Rattle.machine.specs.Machine.{Rules, replay_from}

-- what a replica that runs shows is its machine
pub shown : {S : Type 0} (stopped : Bool) (opens machine : S) → stopped ≡ false → machine ≡ cond stopped opens machine
shown true opens machine running = cc
shown false opens machine running = refl

-- and so after the places that its machine did
pub shown_applied : {S C O : Type 0} (rules : Rules S C O) (stopped : Bool) (opens machine after : S) (commands : List C) →
    stopped ≡ false → after ≡ replay_from rules machine commands →
    cond stopped opens after ≡ replay_from rules (cond stopped opens machine) commands
shown_applied rules true opens machine after commands running done = cc
shown_applied rules false opens machine after commands running done = done
