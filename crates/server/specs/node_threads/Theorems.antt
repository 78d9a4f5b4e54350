-- Connections of a node differ in their ports.
use Rattle.std.specs.Prelude.{◌≡◌, ℕ, ◌<◌}
use Rattle.streams.specs.Ports.{port_of}

-- No two connections of a node have the same port, be they of one lane or of two, whose numbers are
-- below 256.
abbrev pub PortsDiffer : Type 0
PortsDiffer =
    (lane other count number : ℕ) → lane < 256 → other < 256 →
    port_of lane count ≡ port_of other number →
    (lane ≡ other) × (count ≡ number)
