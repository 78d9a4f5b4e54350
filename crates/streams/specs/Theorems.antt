-- Taps count every byte of their port, and ports tell their lanes.
use Rattle.std.specs.Prelude.{◌≡◌, ℕ, ◌<◌, ◌==◌, Bool, List, length, Option}
use Rattle.ballot_base.specs.declared.config.Config.{Config}
use Rattle.node_base.specs.connection.Life.{Lives}
use Rattle.node.specs.Growth.{saturated}
use Rattle.streams.specs.Ports.{is_of_lane, port_of}
use Rattle.streams.specs.Taps.{HandsNone, HandsOut, TapView, handed_by}

-- what was handed over by a tap, from its opening on, is all that its node handed over for its port
-- by the log that the tap knows
pub record HasAll (nodes : ℕ) (config : Config) (first tap : TapView) (handed : List ℕ) :
    Type 0 where
  pub all : handed ≡ handed_by nodes config tap
  pub counted : tap.handed ≡ saturated (length handed)
  pub port : tap.port ≡ first.port
  pub number : tap.number ≡ first.number

-- Over the whole life of a connection its tap keeps its port and node. All bytes that were handed
-- over by it are all that the node handed over for the port, and the tap counts them (saturates at
-- 2^64 - 1).
abbrev pub TapsCountAll : Type 0
TapsCountAll =
    (linked : Bool) (nodes : ℕ) (config : Config) (first : TapView) (start : Option (List ℕ))
    (tap : TapView) (handed : List ℕ) (contents : Option (List ℕ)) (left : List ℕ)
    → HandsNone nodes config first
    → Lives (HandsOut linked nodes config) first start tap handed contents left
    → HasAll nodes config first tap handed

-- Two ports of lanes below 64 are of one lane exactly if the lanes are equal.
abbrev pub PortsTellLanes : Type 0
PortsTellLanes =
    (lane other count number : ℕ) → lane < 64 → other < 64 →
    is_of_lane (port_of lane count) (port_of other number) ≡ (lane == other)
