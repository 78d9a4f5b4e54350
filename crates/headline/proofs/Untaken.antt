-- Connections that are the same, except how much of what was written on them is in the list of
-- commands.
use Rattle.std.specs.Prelude.{◌≡◌, List, map}
use Rattle.exactly_once.specs.Sides.{ClientConnection}

abbrev pub untaken_connection : ClientConnection → ClientConnection
untaken_connection κ = record κ { taken = 0 }

-- connection by connection; so two clients have the same connections where `untaken` of `model` makes of them one
abbrev pub AreSameUntaken : List ClientConnection → List ClientConnection → Type 0
AreSameUntaken connections others = map untaken_connection connections ≡ map untaken_connection others
