-- A step keeps a state sound and its queues filled, and so the state of every list of commands is.
use Rattle.std.proofs.Common.{ℕ, List, [], ◌∷◌, refl}
use Rattle.std.specs.List.Sorted.{IsStrictlySortedBy}
use Rattle.broker_spec.specs.Place.{Limits}
use Rattle.broker_base.specs.State.{State, empty_state}
use Rattle.broker_base.specs.Decisions.{place_in, mark_in}
use Rattle.broker_base.specs.Step.{window_after, step, state_from}
use Rattle.broker_base.specs.StateTheorems.{AllFilled, IsSound, StaysSound, StaysFilled, StaysInWindow, ListsAreSound}
use Rattle.broker_spec.specs.declared.command.Command.{Command}
use Rattle.broker_base.proofs.FlightsStayInWindow as flights
use Rattle.broker_base.proofs.QueuesStayFilled as queues
use Rattle.broker_base.proofs.SessionsStaySound.{sessions_stay_sound}
use Rattle.broker_base.proofs.SessionsStayByClient.{stays_by_client}
use Rattle.broker_base.proofs.ConnectionsStayApart.{stays_apart}

pub stays_sound : StaysSound
stays_sound limits later state command s = record {
  by_client = stays_by_client (window_after later command state.window) (place_in limits state command) state.retained state.sessions command (mark_in limits state command) s.by_client;
  apart = stays_apart limits state (window_after later command state.window) command (mark_in limits state command) refl s.by_client s.apart;
  sessions = sessions_stay_sound limits later state command s.sessions;
}

pub stays_filled : StaysFilled
stays_filled limits later state command s h = queues.stays_filled limits later state command s.sessions h

pub stays_in_window : StaysInWindow
stays_in_window limits later state command grows s h = flights.stays_in_window limits later state command grows s.sessions h

sound_from : (limits : Limits) (later : ℕ) (state : State) (commands : List Command) → IsSound state → AllFilled state.window state.sessions →
    IsSound (state_from limits later state commands) × AllFilled (state_from limits later state commands).window (state_from limits later state commands).sessions
sound_from limits later state [] s h = (s, h)
sound_from limits later state (command ∷ commands) s h =
    sound_from limits later (step limits later state command).0 commands (stays_sound limits later state command s) (stays_filled limits later state command s h)

pub lists_are_sound : ListsAreSound
unfolding IsStrictlySortedBy
lists_are_sound limits later window commands = sound_from limits later (empty_state window) commands (record { by_client = tt; apart = tt; sessions = tt }) tt
