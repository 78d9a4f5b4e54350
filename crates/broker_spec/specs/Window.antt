-- The two sizes of the window, the most entries of a session in flight (MQTT 4.6).
use Rattle.std.specs.Prelude.{ℕ, ◌==◌, ◌||◌, Bool, IsTrue, if◌then◌else◌, Option, Some, None}
use Rattle.broker_spec.specs.declared.window.TheConstants.{NARROW_WINDOW, WIDE_WINDOW}

-- the window of a new broker, and of each from a Start on
abbrev pub wide_window : ℕ
wide_window = WIDE_WINDOW

-- the window of a broker that was read from form 1, until a Start
abbrev pub narrow_window : ℕ
narrow_window = NARROW_WINDOW

-- whether a number is the narrow window or the wide one
abbrev pub is_window_size : ℕ → Bool
is_window_size size = (size == narrow_window) || (size == wide_window)

-- the number is the narrow window or the wide one
abbrev pub IsWindowSize : ℕ → Type 0
IsWindowSize size = IsTrue (is_window_size size)

-- the window of this size, if there is one
abbrev pub window_of : ℕ → Option ℕ
window_of size = if is_window_size size then Some size else None
