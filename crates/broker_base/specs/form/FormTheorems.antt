-- A frozen broker thaws to that broker; a thawed broker is in its ranges, and is frozen to the same
-- bytes.
use Rattle.std.specs.Prelude.{◌≡◌, ℕ, ◌⊎◌, List, Some, IfOk}
use Rattle.packet_base.specs.Readers.{AreBytes}
use Rattle.broker_spec.specs.Commands.{usual_limits}
use Rattle.broker_spec.specs.Window.{IsWindowSize, narrow_window}
use Rattle.broker_base.specs.State.{State}
use Rattle.broker_base.specs.StateTheorems.{AllInWindow}
use Rattle.broker_base.specs.form.InRange.{IsBrokerState}
use Rattle.broker_base.specs.form.Form.{broker_at, thawed}
use Rattle.broker_base.specs.form.Bytes.{frozen, frozen_before}

-- a state of this broker: its window is 16 or 64, and no more entries of a session are in flight
-- than it allows
abbrev pub IsUsualState : State → Type 0
IsUsualState state =
    IsBrokerState usual_limits state × IsWindowSize state.window
    × AllInWindow state.window state.sessions

-- a usual state is thawed again from the bytes to which it is frozen
abbrev pub FrozenIsThawed : Type 0
FrozenIsThawed = (state : State) → IsUsualState state → thawed (frozen state) ≡ Some state

-- what is frozen to form 1 is thawed, if the window is the narrow one
abbrev pub FrozenBeforeIsThawed : Type 0
FrozenBeforeIsThawed =
    (state : State) → IsUsualState state → state.window ≡ narrow_window
    → thawed (frozen_before state) ≡ Some state

-- what is thawed is a state of this broker
abbrev pub ThawedIsInRange : Type 0
ThawedIsInRange = (bytes : List ℕ) → AreBytes bytes → IfOk (broker_at bytes) IsUsualState

-- bytes from which a broker is thawed are those to which it is frozen, in form 2, or in form 1 with
-- the narrow window
abbrev pub ThawedIsFrozen : Type 0
ThawedIsFrozen =
    (bytes : List ℕ) → (state : State) → AreBytes bytes → thawed bytes ≡ Some state →
    (frozen state ≡ bytes) ⊎ ((state.window ≡ narrow_window) × (frozen_before state ≡ bytes))
