-- What a whole write, one write and one read do to the bytes of a device, if those are known.
use Rattle.std.specs.Prelude.{ℕ, ◌<◌, ◌≤◌, Option, List, length, take}
use Rattle.std.specs.Io.KnownBytes.{Appends, Consumes, IsAtEnd, Keeps}
use Rattle.node_base.specs.devices.Counted.{counted_once}
use Rattle.node_base.specs.declared.devices.one_read.OneRead.{OneRead}
use Rattle.node_base.specs.declared.devices.one_read.OneRead.TheVariants.{Bytes, End, Fault}
use Rattle.node_base.specs.declared.devices.one_write.OneWrite.{OneWrite}
use Rattle.node_base.specs.declared.devices.one_write.OneWrite.TheVariants as writes

-- a prefix of these bytes was appended to the device's, maybe all
abbrev pub WritesPrefix : Option (List ℕ) → Option (List ℕ) → List ℕ → Type 0
WritesPrefix old new bytes =
    (count : ℕ) × (count ≤ length bytes) × Appends old new (take count bytes)

-- a prefix of these bytes was appended to the device's, and not all
abbrev pub WritesShort : Option (List ℕ) → Option (List ℕ) → List ℕ → Type 0
WritesShort old new bytes =
    (count : ℕ) × (count < length bytes) × Appends old new (take count bytes)

-- the count of failed calls after one read
abbrev pub counted_read : OneRead → ℕ → ℕ
counted_read Fault faults = counted_once faults
counted_read _ faults = faults

-- the count of failed calls after one write
abbrev pub counted_write : OneWrite → ℕ → ℕ
counted_write writes.Fault faults = counted_once faults
counted_write _ faults = faults

-- the first bytes of the piece were appended to the device's, or none
abbrev pub WritesPiece : OneWrite → Option (List ℕ) → Option (List ℕ) → List ℕ → Type 0
WritesPiece (writes.Bytes count) old new bytes =
    (count ≤ length bytes) × Appends old new (take count bytes)
WritesPiece writes.Full old new bytes = Keeps old new
WritesPiece writes.Stopped old new bytes = Keeps old new
WritesPiece writes.Fault old new bytes = Keeps old new

-- the piece is what the device returned, from the first byte that was left; the end of input is no
-- fault
abbrev pub ReadsPiece : OneRead → Option (List ℕ) → Option (List ℕ) → List ℕ → Type 0
ReadsPiece (Bytes count) old new buffer =
    (0 < count) × (count ≤ length buffer) × Consumes old new (take count buffer)
ReadsPiece End old new buffer = Keeps old new × IsAtEnd new
ReadsPiece Fault old new buffer = Keeps old new
