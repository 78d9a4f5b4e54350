-- The past of a list of commands, and the limits of this broker.
use Rattle.std.specs.Prelude.{ℕ, if◌then◌else◌, Bool, true, false, List, [], ◌∷◌}
use Rattle.retained.specs.Retained.{max_topics}
use Rattle.session_base.specs.Session.{max_entries, max_subscriptions}
use Rattle.broker_spec.specs.Place.{Place, Past, Limits}
use Rattle.broker_spec.specs.Window.{wide_window}
use Rattle.broker_spec.specs.Marks.{mark_of}
use Rattle.broker_spec.specs.declared.command.Command.{Command}
use Rattle.broker_spec.specs.declared.command.Command.TheVariants as commands
use Rattle.broker_spec.specs.declared.limits.TheConstants.{MAX_SESSIONS}

-- the place of a command after these places
abbrev pub place_of : Limits → Past → Command → Place
place_of limits past command = record { command = command; mark = mark_of limits past command }

-- the places of more commands, oldest first, on top of a past; the only recursion over a list of
-- commands
unfoldable pub past_from : Limits → Past → List Command → Past
past_from limits past (command ∷ commands) =
    past_from limits (place_of limits past command ∷ past) commands
past_from limits past [] = past

-- the places of a list of commands
abbrev pub past_of : Limits → List Command → Past
past_of limits = past_from limits []

-- whether a new ballot begins
abbrev pub is_start : Command → Bool
is_start (commands.Start ballot) = true
is_start _ = false

-- whether a copy of a command needs memory: of all but a Lost and a Start
abbrev pub needs_to_copy : Command → Bool
needs_to_copy (commands.Lost connection) = false
needs_to_copy (commands.Start ballot) = false
needs_to_copy _ = true

-- the most sessions of a broker
abbrev pub max_sessions : ℕ
max_sessions = MAX_SESSIONS

-- the limits of this broker, with any window
abbrev pub limits_with : (Past → ℕ) → Limits
limits_with window =
    record {
      sessions = max_sessions;
      subscriptions = max_subscriptions;
      entries = max_entries;
      retained = max_topics;
      window = window;
    }

-- the limits of this broker: no more entries of a session are in flight than the wide window
abbrev pub usual_limits : Limits
usual_limits = limits_with (λ past. wide_window)

-- a window that was this one at first, and is the wide one from the first Start on
abbrev pub window_from : ℕ → Past → ℕ
window_from first (place ∷ past) =
    if is_start place.command then wide_window else window_from first past
window_from first [] = first

-- the limits with the window of `window_from`: the first window is the wide one in a new broker,
-- the narrow one in a broker that was read from form 1
abbrev pub limits_from : ℕ → Limits
limits_from first = limits_with (window_from first)
