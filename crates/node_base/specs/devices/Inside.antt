-- What one counted call of a device does.
use Rattle.std.specs.Prelude.{◌≡◌, ℕ, ◌≤◌, Option, List, length, take, None, Some}
use Rattle.std.specs.Io.KnownBytes.{Appends, Keeps}
use Rattle.node_base.specs.devices.Counted.{CountedView, counted_once}

-- this many bytes were appended to the device's; or the call failed, was counted, and changed
-- nothing
abbrev pub WritesOnce :
    {D : Type 0} → (D → Option (List ℕ)) → CountedView D → CountedView D → Option ℕ → List ℕ →
    Type 0
WritesOnce contents old new None bytes =
    Keeps (contents old.device) (contents new.device) × (new.faults ≡ counted_once old.faults)
WritesOnce contents old new (Some count) bytes =
    (count ≤ length bytes)
    × Appends (contents old.device) (contents new.device) (take count bytes)
    × (new.faults ≡ old.faults)
