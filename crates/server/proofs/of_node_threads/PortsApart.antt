-- PortsApart.antt: no two connections of a node have one port.
use Rattle.std.proofs.Common.{◌≡◌, ◌+◌, ◌*◌, ap, arith}
use Rattle.world_base.specs.declared.node_connections.port.Port.{Port}
use Rattle.server.specs.node_threads.Theorems.{PortsDiffer}

pub ports_apart : PortsDiffer
ports_apart lane other count number low lower same =
    let is : 256 * count + lane ≡ 256 * number + other = ap (λ (port : Port). port.0) same in
    (omega (arith, low, lower, is), omega (arith, low, lower, is))
