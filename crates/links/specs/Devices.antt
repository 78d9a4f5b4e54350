-- What one call, and what several calls do to the bytes of a device, if those are known.
use Rattle.std.specs.Prelude.{ℕ, ◌<◌, ◌≤◌, Option, None, Some, List, length, take, Result, Ok, Err}
use Rattle.std.specs.Io.KnownBytes.{Appends, Consumes, IsAtEnd, Keeps}
use Rattle.links.specs.declared.devices.DeviceFault.{DeviceFault}
use Rattle.links.specs.declared.devices.DeviceFault.TheVariants.{Ended, Failed}

-- a prefix of these bytes was appended to the device's, maybe all
abbrev pub WritesPrefix : Option (List ℕ) → Option (List ℕ) → List ℕ → Type 0
WritesPrefix old new bytes =
    (count : ℕ) × (count ≤ length bytes) × Appends old new (take count bytes)

-- so many bytes were appended, or none
abbrev pub WritesOnce : Option (List ℕ) → Option (List ℕ) → Option ℕ → List ℕ → Type 0
WritesOnce old new None bytes = Keeps old new
WritesOnce old new (Some count) bytes =
    (count ≤ length bytes) × Appends old new (take count bytes)

-- the front of the buffer is what the device returned, from the first byte that was left
abbrev pub ReadsPiece :
    Result ℕ DeviceFault → Option (List ℕ) → Option (List ℕ) → List ℕ → Type 0
ReadsPiece (Ok count) old new buffer =
    (0 < count) × (count ≤ length buffer) × Consumes old new (take count buffer)
ReadsPiece (Err Ended) old new buffer = Keeps old new × IsAtEnd new
ReadsPiece (Err Failed) old new buffer = Keeps old new
