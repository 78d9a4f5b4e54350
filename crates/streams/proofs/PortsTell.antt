-- PortsTell.antt: ports tell lanes apart that are below 64.
use Rattle.std.proofs.Common.{◌≡◌, ℕ, ◌%◌, ◌<◌, ◌==◌, ◌∙◌, ap, arith}
use Rattle.streams.specs.Theorems.{PortsTellLanes}
use Rattle.streams.specs.Ports.{port_of}

lane_is : (lane count : ℕ) → lane < 64 → (port_of lane count).0 % 64 ≡ lane
lane_is lane count low = omega (arith, low)

pub ports_tell_lanes : PortsTellLanes
ports_tell_lanes lane other count number low lower =
    ap (λ (n : ℕ). n == (port_of other number).0 % 64) (lane_is lane count low)
    ∙ ap (λ (n : ℕ). lane == n) (lane_is other number lower)
